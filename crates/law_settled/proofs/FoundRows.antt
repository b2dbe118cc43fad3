-- The keys of the rows that pass a test, gathered one after the other.
use Rattle.std.{proofs.Common.{◌≡◌, Bool, true, false, List, [], ◌∷◌, ◌++◌, filter, append-nil, append_assoc, arith}, specs.Prelude.if◌then◌else◌}
use Rattle.pim_types.{specs.declared.fact.Key.Key}
use Rattle.pim_model.{specs.Tables.{Table, keys_in}}

module _ {R : Type 0} (test : Key × R → Bool) where
  chosen : (kept : List Key) (e : Key × R) (t : Table R) (whole : List Key) (b : Bool) → b ≡ true
      → kept ++ keys_in (if b then e ∷ t else t) ≡ whole → (kept ++ e.0 ∷ []) ++ keys_in t ≡ whole
  unfolding keys_in
  chosen kept e t whole b h is = grind (arith, append_assoc)

  -- those that were gathered, and those of the rows that are left
  abbrev pub Keeps : List Key → List Key → Table R → Type 0
  Keeps whole kept left = kept ++ keys_in (filter test left) ≡ whole

  pub found : (whole kept more : List Key) (e : Key × R) (xs t : Table R) (b : Bool) → xs ≡ e ∷ t
      → more ≡ kept ++ e.0 ∷ [] → b ≡ test e → b ≡ true → Keeps whole kept xs → Keeps whole more t
  found whole kept more e xs t b is pushed asked hit keeps = grind (arith, chosen)

  pub passed : (whole kept : List Key) (e : Key × R) (xs t : Table R) (b : Bool) → xs ≡ e ∷ t
      → b ≡ test e → b ≡ false → Keeps whole kept xs → Keeps whole kept t
  passed whole kept e xs t b is asked missed keeps = cc

  pub all_found : (whole kept : List Key) (xs : Table R) → xs ≡ [] → Keeps whole kept xs → kept ≡ whole
  unfolding keys_in
  all_found whole kept xs is keeps = grind (arith, append-nil)
