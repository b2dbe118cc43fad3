-- A row that is there is changed in its place.
use Rattle.std.{proofs.Common.{◌≡◌, true, false, Option, Some, None, is_some, refl, sym, ap, ◌∙◌}, specs.{List.Sorted.IsStrictlySortedBy, Option.IfSome, Prelude.{Err, Ok, OnOk, Result}}}
use Rattle.pim_types.{specs.{declared.fact.{Key.Key, AssertRow.AssertRow}, Keys.key_cmp}}
use Rattle.pim_model.{specs.{Sets.is_loser, Tables.{Table, change_row, drop_at, has_row, keys_in, put, row_at, set_row}}}
use Rattle.pim_tables.{proofs.{Lookups.{absent, put_is_changed}, Rows.{absent_is_unchanged, always, dropped_is_changed}}}

module _ {R : Type 0} (k : Key) (t : Table R) where
  pub is_there : (r : R) → row_at t k ≡ Some r → has_row t k ≡ true
  unfolding has_row
  is_there r found = ap is_some found

  pub not_there : (change : R → Option R) → row_at t k ≡ None → t ≡ change_row change k t
  unfolding has_row
  not_there change none = absent_is_unchanged k change t (absent k t (ap is_some none))

  pub changed_there : {T E : Type 0} (r row : R) (change : R → Option R) (t' : Table R) (result : Result T E)
      → IsStrictlySortedBy key_cmp (keys_in t) → row_at t k ≡ Some r → change r ≡ Some row
      → OnOk result (t' ≡ put t k row) → OnOk result (t' ≡ change_row change k t)
  changed_there r row change t' (Err e) sorted found is put = tt
  changed_there r row change t' (Ok x) sorted found is put =
      put ∙ put_is_changed k row change t sorted (is_there r found) (at (row_at t k) found)
    where
      at : (o : Option R) → o ≡ Some r → IfSome o (λ before. change before ≡ Some row)
      at None found = cc
      at (Some before) found = let same : before ≡ r = cc in ap change same ∙ is

  pub nothing_changed : (change : R → Option R) → has_row t k ≡ false → t ≡ change_row change k t
  nothing_changed change none = absent_is_unchanged k change t (absent k t none)

  pub nothing_dropped : has_row t k ≡ false → t ≡ drop_at t k
  nothing_dropped none = nothing_changed (λ _. None) none ∙ sym (dropped_is_changed k t)

  -- what is set under a key that is there
  pub set_there : {T E : Type 0} (row : Option R) (t' : Table R) (result : Result T E)
      → IsStrictlySortedBy key_cmp (keys_in t) → has_row t k ≡ true → OnOk result (t' ≡ set_row t k row)
      → OnOk result (t' ≡ change_row (λ _. row) k t)
  unfolding set_row
  set_there row t' (Err e) sorted there set = tt
  set_there None t' (Ok x) sorted there set = set ∙ dropped_is_changed k t
  set_there (Some r) t' (Ok x) sorted there set =
      set ∙ put_is_changed k r (λ _. Some r) t sorted there (always (row_at t k) r)

pub lost_there : (k : Key) (t : Table AssertRow) → is_loser (row_at t k) ≡ true → has_row t k ≡ true
unfolding has_row
lost_there k t lost = go (row_at t k) lost
  where
    go : (o : Option AssertRow) → is_loser o ≡ true → is_some o ≡ true
    go None lost = cc
    go (Some r) lost = refl

pub same_on_ok : {T E X Y : Type 0} (result : Result T E) (f : X → Y) (x y : X) → OnOk result (x ≡ y)
    → OnOk result (f x ≡ f y)
same_on_ok (Ok r) f x y same = ap f same
same_on_ok (Err e) f x y same = tt

pub both_same : {X Y Z : Type 0} (f : X → Y → Z) {x y : X} {u v : Y} → u ≡ v → x ≡ y → f x u ≡ f y v
both_same f beside same = λ j. f (same j) (beside j)

-- beside what has changed too
pub same_beside : {T E X Y Z : Type 0} (result : Result T E) (f : X → Y → Z) (x y : X) (u v : Y) → u ≡ v
    → OnOk result (x ≡ y) → OnOk result (f x u ≡ f y v)
same_beside (Ok r) f x y u v beside same = λ j. f (same j) (beside j)
same_beside (Err e) f x y u v beside same = tt
