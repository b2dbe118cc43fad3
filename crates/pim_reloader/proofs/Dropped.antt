-- Rows that go by their keys, one after the other, are those that pass.
use Rattle.std.{proofs.Common.{◌≡◌, ◌+◌, ◌<◌, ◌≤◌, ℕ, not, Bool, true, false, cond, List, [], ◌∷◌, add-one, drop, drop-cons, filter, fold, get_or, length, refl, sym, ap, ◌∙◌}, proofs.Math.ListN.drop_of_length-le, specs.{List.{AllByRecursion, Sorted.IsStrictlySortedBy}, Ordering.is_eq, declared.cmp.Ordering.TheVariants.Less}}
use Rattle.pim_types.{specs.{declared.fact.{AssertRow.AssertRow, Key.Key}, Keys.{key_cmp, same_key}}, proofs.Keys.same_key_same}
use Rattle.pim_model.{specs.{State.State, Tables.{Table, drop_at, drop_where, keys_in}}}
use Rattle.law_settled.{proofs.RowLaws.same_key_swap}

abbrev Below : Key → List Key → Type 0
Below k keys = AllByRecursion (λ y. key_cmp k y ≡ Less) keys

module _ {R : Type 0} where
  abbrev all_dropped : List Key → Table R → Table R
  all_dropped keys t = fold drop_at t keys

  first_stays : (k : Key) (x : Key × R) (t : Table R) → same_key k x.0 ≡ false → drop_at (x ∷ t) k ≡ x ∷ drop_at t k
  unfolding drop_at drop_where
  first_stays k x t other = rw other refl

  first_goes : (k : Key) (x : Key × R) (t : Table R) → same_key k x.0 ≡ true → drop_at (x ∷ t) k ≡ drop_at t k
  unfolding drop_at drop_where
  first_goes k x t same = rw same refl

  -- no later row is under the key
  later_stay : (k : Key) (t : Table R) → Below k (keys_in t) → drop_at t k ≡ t
  unfolding drop_at drop_where keys_in
  later_stay k [] later = refl
  later_stay k (x ∷ t) later = first_stays k x t (ap is_eq later.0) ∙ ap (λ (ys : Table R). x ∷ ys) (later_stay k t later.1)

  -- a row before all keys stays
  front_stays : (x : Key × R) (keys : List Key) (t : Table R) → Below x.0 keys
      → all_dropped keys (x ∷ t) ≡ x ∷ all_dropped keys t
  front_stays x [] t later = refl
  front_stays x (k ∷ keys) t later =
      ap (all_dropped keys) (first_stays k x t (same_key_swap k x.0 ∙ ap is_eq later.0))
      ∙ front_stays x keys (drop_at t k) later.1

  module _ (test : Key × R → Bool) where
    kept_below : (k : Key) (t : Table R) → Below k (keys_in t) → Below k (keys_in (filter test t))
    unfolding keys_in
    kept_below k [] later = tt
    kept_below k (x ∷ t) later = by (test x) (kept_below k t later.1)
      where
        by : (b : Bool) → Below k (keys_in (filter test t)) → Below k (keys_in (cond b (x ∷ filter test t) (filter test t)))
        by true rest = (later.0, rest)
        by false rest = rest

    step : (x : Key × R) (t : Table R) (b : Bool) → Below x.0 (keys_in t)
        → all_dropped (keys_in (filter test t)) t ≡ filter (λ e. not (test e)) t
        → all_dropped (keys_in (cond b (x ∷ filter test t) (filter test t))) (x ∷ t)
        ≡ cond (not b) (x ∷ filter (λ e. not (test e)) t) (filter (λ e. not (test e)) t)
    unfolding keys_in
    step x t true later rest =
        ap (all_dropped (keys_in (filter test t)))
        (first_goes x.0 x t (same_key_same x.0) ∙ later_stay x.0 t later)
        ∙ rest
    step x t false later rest =
        front_stays x (keys_in (filter test t)) t (kept_below x.0 t later) ∙ ap (λ (ys : Table R). x ∷ ys) rest

    pub passing_dropped : (t : Table R) → IsStrictlySortedBy key_cmp (keys_in t)
        → all_dropped (keys_in (filter test t)) t ≡ filter (λ e. not (test e)) t
    unfolding keys_in IsStrictlySortedBy
    passing_dropped [] rises = refl
    passing_dropped (x ∷ t) rises = step x t (test x) rises.0 (passing_dropped t rises.1)

  -- key after key
  pub one_more_dropped : (keys : List Key) (i : ℕ) (k : Key) (t : Table R) → i < length keys
      → all_dropped (drop (i + 1) keys) (drop_at t (get_or keys i k)) ≡ all_dropped (drop i keys) t
  one_more_dropped keys i k t less =
      ap (λ (ks : List Key). all_dropped ks (drop_at t (get_or keys i k))) (ap (λ (n : ℕ). drop n keys) (add-one i))
      ∙ sym (ap (λ (ks : List Key). all_dropped ks t) (drop-cons keys i k less))

  pub none_left_dropped : (keys : List Key) (i : ℕ) (t : Table R) → length keys ≤ i → all_dropped (drop i keys) t ≡ t
  none_left_dropped keys i t le = ap (λ (ks : List Key). all_dropped ks t) (drop_of_length-le keys le)

abbrev with_asserts : State → Table AssertRow → State
with_asserts s t = record s { asserts = t }

-- the rest of the state stays
pub kept_beside : (a s n : State) (t : Table AssertRow) → s ≡ with_asserts a s.asserts → n ≡ with_asserts s t
    → n ≡ with_asserts a n.asserts
kept_beside a s n t but is =
    is ∙ ap (λ (x : State). with_asserts x t) but ∙ ap (with_asserts a) (sym (ap (λ (x : State). x.asserts) is))
