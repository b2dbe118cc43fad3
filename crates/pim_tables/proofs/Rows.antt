-- What a change of the row at a key leaves of a table whose keys rise.
use Rattle.std.{proofs.Common.{◌≡◌, sym, Bool, true, false, [], ◌∷◌, Option, Some, None, refl, ap, ◌∙◌, cond, map, not, option_map}, specs.{declared.cmp.Ordering.TheVariants.Less, List.{cons_option, filter, filter_map, AllByRecursion, Sorted.IsStrictlySortedBy}, Option.IfSome, Map.{lookup, set_value}, BTreeMap.is_at, Prelude.if◌then◌else◌}}
use Rattle.pim_types.{specs.{declared.fact.Key.Key, Keys.{key_cmp, same_key}}}
use Rattle.pim_model.{specs.Tables.{Table, change_row, changed_entry, drop_at, drop_where, keys_in, row_at}}
use Rattle.law_settled.{proofs.RemovalLaws.moved_above}

module _ {R : Type 0} (k : Key) (change : R → Option R) where
  changed : Table R → Table R
  changed t = filter_map (changed_entry change k) t

  first_changed : (e : Key × R) (t : Table R) (b : Bool) → same_key k e.0 ≡ b
      → changed (e ∷ t) ≡ (if b then cons_option (option_map (λ row. (e.0, row)) (change e.1))
      (changed t) else e ∷ changed t)
  unfolding changed changed_entry
  first_changed e t true h = rw h refl
  first_changed e t false h = rw h refl

  pub change_first : (e : Key × R) (t : Table R) (b : Bool) → same_key k e.0 ≡ b
      → change_row change k (e ∷ t) ≡ (if b then cons_option (option_map (λ row. (e.0, row)) (change e.1))
      (change_row change k t) else e ∷ change_row change k t)
  unfolding change_row changed
  change_first e t b h = first_changed e t b h

  -- a key that isn't there changes nothing
  below_all : (t : Table R) → AllByRecursion (λ y. key_cmp k y ≡ Less) (map (λ e. e.0) t) → changed t ≡ t
  unfolding changed changed_entry
  below_all [] above = refl
  below_all (y ∷ t) above = rw above.0 (ap (λ s. y ∷ s) (below_all t above.1))

  rest_absent : (b : Bool) (r : R) (o : Option R) → cond b (Some r) o ≡ None → o ≡ None
  rest_absent true r o e = cc
  rest_absent false r o e = e

  head_differs : (b : Bool) (r : R) (o : Option R) → cond b (Some r) o ≡ None → b ≡ false
  head_differs true r o e = cc
  head_differs false r o e = refl

  unchanged : (t : Table R) → lookup (is_at (key_cmp k)) t ≡ None → changed t ≡ t
  unfolding changed
  unchanged [] e = refl
  unchanged (x ∷ t) e =
      first_changed x t false (head_differs (same_key k x.0) x.1 (lookup (is_at (key_cmp k)) t) e)
      ∙ ap (λ u. x ∷ u) (unchanged t (rest_absent (same_key k x.0) x.1 (lookup (is_at (key_cmp k)) t) e))

  pub absent_is_unchanged : (t : Table R) → lookup (is_at (key_cmp k)) t ≡ None → t ≡ change_row change k t
  unfolding change_row changed
  absent_is_unchanged t e = sym (unchanged t e)

  -- the row that a change makes of the one that is there
  module _ (row : R) where
    set_first : (e : Key × R) (t : Table R) (b : Bool) → same_key k e.0 ≡ b
        → AllByRecursion (λ y. key_cmp e.0 y ≡ Less) (map (λ e. e.0) t)
        → IfSome (cond b (Some e.1) (lookup (is_at (key_cmp k)) t)) (λ before. change before ≡ Some row)
        → (IfSome (lookup (is_at (key_cmp k)) t) (λ before. change before ≡ Some row)
        → set_value (is_at (key_cmp k)) t row ≡ changed t)
        → cond b ((e.0, row) ∷ t) (e ∷ set_value (is_at (key_cmp k)) t row)
        ≡ (if b then cons_option (option_map (λ row. (e.0, row)) (change e.1)) (changed t) else e ∷ changed t)
    set_first e t true h above is rest =
        rw is (ap (λ u. (e.0, row) ∷ u) (sym (below_all t (moved_above {R = R} k e.0 h t above))))
    set_first e t false h above is rest = ap (λ u. e ∷ u) (rest is)

    set : (t : Table R) → IsStrictlySortedBy key_cmp (map (λ e. e.0) t)
        → IfSome (lookup (is_at (key_cmp k)) t) (λ before. change before ≡ Some row)
        → set_value (is_at (key_cmp k)) t row ≡ changed t
    unfolding IsStrictlySortedBy changed
    set [] s is = refl
    set (e ∷ t) s is =
        set_first e t (same_key k e.0) refl s.0 is (set t s.1) ∙ sym (first_changed e t (same_key k e.0) refl)

    pub written_is_changed : (t : Table R) → IsStrictlySortedBy key_cmp (map (λ e. e.0) t)
        → IfSome (row_at t k) (λ before. change before ≡ Some row)
        → set_value (is_at (key_cmp k)) t row ≡ change_row change k t
    unfolding change_row changed row_at
    written_is_changed t s is = set t s is

pub always : {R : Type 0} (o : Option R) (row : R) → IfSome o (λ _. Some row ≡ Some row)
always None row = tt
always (Some r) row = refl

-- a row that goes is a change to none
module _ {R : Type 0} (k : Key) where
  gone_step : (e : Key × R) (t : Table R) (b : Bool) → filter (λ e. not (same_key k e.0)) t ≡ change_row (λ _. None) k t
      → cond (not b) (e ∷ filter (λ e. not (same_key k e.0)) t) (filter (λ e. not (same_key k e.0)) t)
      ≡ cons_option (cond b None (Some e)) (change_row (λ _. None) k t)
  gone_step e t true later = later
  gone_step e t false later = ap (λ u. e ∷ u) later

  pub dropped_is_changed : (t : Table R) → drop_at t k ≡ change_row (λ _. None) k t
  unfolding drop_at drop_where change_row changed_entry
  dropped_is_changed [] = refl
  dropped_is_changed (e ∷ t) = gone_step e t (same_key k e.0) (dropped_is_changed t)

-- what a change makes of the row that is there
pub changed_to : {R : Type 0} (o : Option R) (after : R → R) (before row : R) → o ≡ Some before → row ≡ after before
    → IfSome o (λ r. Some (after r) ≡ Some row)
changed_to None after before row there is = cc
changed_to (Some r) after before row there is = let same : r ≡ before = cc in rw (same, is) refl

-- a row that was changed, and then put back
module _ {R : Type 0} (k : Key) (after : R → R) (b : R) where
  abbrev there : Table R → Table R
  there t = changed k (λ r. Some (after r)) t

  abbrev back : Table R → Table R
  back t = changed k (λ _. Some b) t

  back_step : (e : Key × R) (t : Table R) (s : Bool) → same_key k e.0 ≡ s
      → AllByRecursion (λ y. key_cmp e.0 y ≡ Less) (map (λ e. e.0) t)
      → cond s (Some e.1) (lookup (is_at (key_cmp k)) t) ≡ Some b
      → (lookup (is_at (key_cmp k)) t ≡ Some b → back (there t) ≡ t) → back (there (e ∷ t)) ≡ e ∷ t
  back_step e t true h above is rest =
      let below : AllByRecursion (λ y. key_cmp k y ≡ Less) (map (λ e. e.0) t) = moved_above {R = R} k e.0 h t above in
      let same : b ≡ e.1 = cc in
      ap back (first_changed k (λ r. Some (after r)) e t true h
      ∙ ap (λ u. (e.0, after e.1) ∷ u) (below_all k (λ r. Some (after r)) t below))
      ∙ first_changed k (λ _. Some b) (e.0, after e.1) t true h
      ∙ ap (λ u. (e.0, b) ∷ u) (below_all k (λ _. Some b) t below)
      ∙ ap (λ r. (e.0, r) ∷ t) same
  back_step e t false h above is rest =
      ap back (first_changed k (λ r. Some (after r)) e t false h)
      ∙ first_changed k (λ _. Some b) e (there t) false h ∙ ap (λ u. e ∷ u) (rest is)

  put_back : (t : Table R) → IsStrictlySortedBy key_cmp (map (λ e. e.0) t) → lookup (is_at (key_cmp k)) t ≡ Some b
      → back (there t) ≡ t
  unfolding IsStrictlySortedBy
  put_back [] sorted is = cc
  put_back (e ∷ t) sorted is = back_step e t (same_key k e.0) refl sorted.0 is (put_back t sorted.1)

  pub changed_back : (t : Table R) → IsStrictlySortedBy key_cmp (map (λ e. e.0) t) → row_at t k ≡ Some b
      → change_row (λ _. Some b) k (change_row (λ r. Some (after r)) k t) ≡ t
  unfolding change_row changed row_at
  changed_back t sorted is = put_back t sorted is

-- a change that makes this row of the one that is there
pub changed_by : {R : Type 0} (k : Key) (change : R → Option R) (row : R) (t : Table R)
    → IsStrictlySortedBy key_cmp (keys_in t) → IfSome (row_at t k) (λ before. change before ≡ Some row)
    → change_row (λ _. Some row) k t ≡ change_row change k t
unfolding keys_in
changed_by k change row t sorted is =
    sym (written_is_changed k (λ _. Some row) row t sorted (always (row_at t k) row))
    ∙ written_is_changed k change row t sorted is
