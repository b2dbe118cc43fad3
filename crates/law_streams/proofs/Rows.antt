-- A row that isn't bad stays so, whatever else changes.
use Rattle.std.{proofs.{Common.{◌≡◌, ◌∙◌, Bool, true, false, List, [], ◌∷◌, filter, fold, Option, Some, None, refl, ap, subst, arith}, lemmas.Bool.both_ways}}
use Rattle.pim_types.{specs.{Keys.same_key, declared.fact.Key.Key}, proofs.Keys.equal_keys}
use Rattle.pim_model.{specs.Tables.{Table, change_row, changed_entry, drop_at, has_row, put, row_at, set_row}}
use Rattle.law_settled.{proofs.{RowLaws.{has_row_without, row_change_away, row_drop_away, row_put, row_put_away}, TurnLaws.kept_by_fold}}
use Rattle.law_events.{proofs.JoinPrunes.none_there}
use Rattle.law_streams.{proofs.Taken.apart_keys}

module _ {R : Type 0} (bad : Option R → Bool) (none : bad None ≡ false) where
  module _ (change : R → Option R) (good : (r q : R) → change r ≡ Some q → bad (Some q) ≡ false) where
    all_good : (k : Key) (t : Table R) → bad (row_at (change_row change k t) k) ≡ false
    unfolding row_at change_row changed_entry
    all_good k [] = none
    all_good k (x ∷ xs) = grind (arith, all_good k xs)

    pub changed_good : (k q : Key) (t : Table R) → bad (row_at t q) ≡ false → bad (row_at (change_row change k t) q) ≡ false
    changed_good k q t e = grind (arith, equal_keys, all_good, row_change_away, apart_keys)

  pub dropped_good : (k q : Key) (t : Table R) → bad (row_at t q) ≡ false → bad (row_at (drop_at t k) q) ≡ false
  unfolding has_row
  dropped_good k q t e = go (same_key q k) refl
    where
      go : (b : Bool) → same_key q k ≡ b → bad (row_at (drop_at t k) q) ≡ false
      go true same = ap bad (none_there (row_at (drop_at t k) q) (has_row_without q k t ∙ rw same refl)) ∙ none
      go false off = ap bad (row_drop_away k q (apart_keys k q off) t) ∙ e

  pub put_good : (k q : Key) (r : R) (t : Table R) → bad (Some r) ≡ false → bad (row_at t q) ≡ false
      → bad (row_at (put t k r) q) ≡ false
  put_good k q r t new e = grind (arith, equal_keys, row_put, row_put_away, apart_keys)

  pub set_good : (k q : Key) (o : Option R) (t : Table R) → (same_key q k ≡ true → bad o ≡ false) → bad (row_at t q) ≡ false
      → bad (row_at (set_row t k o) q) ≡ false
  unfolding set_row
  set_good k q o t new e = grind (arith, dropped_good, put_good, row_put_away, apart_keys)

  -- where many rows are set, each to what a rule says of its key
  pub all_set_good : (rule : Key → Option R) (q : Key) → bad (rule q) ≡ false → (ks : List Key) (t : Table R)
      → bad (row_at t q) ≡ false → bad (row_at (fold (λ u k. set_row u k (rule k)) t ks) q) ≡ false
  all_set_good rule q good ks t e =
      kept_by_fold (λ u k. set_row u k (rule k)) (λ u. bad (row_at u q) ≡ false)
      (λ u k f. set_good k q (rule k) u (λ same. subst (λ (x : Key). bad (rule x) ≡ false) (equal_keys q k same) good) f)
      ks t e

  -- a filter that drops only what is bad
  pub filtered_good : (p : Key × R → Bool) → ((e : Key × R) → bad (Some e.1) ≡ false → p e ≡ true) → (q : Key) (t : Table R)
      → bad (row_at t q) ≡ false → bad (row_at (filter p t) q) ≡ false
  unfolding row_at
  filtered_good p keeps q [] e = e
  filtered_good p keeps q (x ∷ xs) e = grind (arith, filtered_good p keeps q xs, both_ways)
