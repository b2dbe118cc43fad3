-- A row that is changed in its place, and its table beside the queue.
use Rattle.std.{proofs.Common.{◌≡◌, ℕ, Bool, true, false, cond, [], ◌∷◌, Option, Some, None, is_some, refl, sym, ap, ◌∙◌}, specs.List.Sorted.IsStrictlySortedBy}
use Rattle.pim_types.{specs.{declared.{fact.Key.Key, timer.TimerKind.TimerKind}, Keys.{key_cmp, same_key}}}
use Rattle.pim_timers.{specs.Dues.Due}
use Rattle.pim_model.{specs.Tables.{Table, change_row, drop_at, drop_where, has_row, keys_in, put, row_at}}
use Rattle.pim_tables.{specs.Ends.{IsRowArmed, Kinds, back_at, left_at}, proofs.{Lookups.{as_it_is, put_is_changed, row_at-drop_at, row_at-put}, Steps.no_row_armed, Rows.{absent_is_unchanged, changed_back, changed_to, change_first}}}

module _ {R : Type 0} (k : Key) (after : R → R) (t : Table R) where
  abbrev pub updated : Table R
  updated = change_row (λ r. Some (after r)) k t

  -- where no row is there
  pub none_updated : row_at t k ≡ None → updated ≡ t
  unfolding row_at
  none_updated none = sym (absent_is_unchanged k (λ r. Some (after r)) t none)

  module _ (before row : R) (there : row_at t k ≡ Some before) (is : row ≡ after before)
      (sorted : IsStrictlySortedBy key_cmp (keys_in t)) where
    pub put_updated : put t k row ≡ updated
    unfolding has_row
    put_updated =
        put_is_changed k row (λ r. Some (after r)) t sorted (ap is_some there)
        (changed_to (row_at t k) after before row there is)

    pub found_updated : (q : Key) → row_at updated q ≡ cond (same_key q k) (Some row) (row_at t q)
    found_updated q = ap (λ (u : Table R). row_at u q) (sym put_updated) ∙ row_at-put k q t row

  -- the row that was there is put back
  pub updated_back : (before : R) → row_at t k ≡ Some before → IsStrictlySortedBy key_cmp (keys_in t)
      → change_row (λ _. Some before) k updated ≡ t
  unfolding keys_in
  updated_back before there sorted = changed_back k after before t sorted there

-- or it goes
module _ {R : Type 0} (k : Key) (after : R → R) where
  drop_first : (e : Key × R) (t : Table R) (b : Bool) → same_key k e.0 ≡ b
      → drop_at (e ∷ t) k ≡ cond b (drop_at t k) (e ∷ drop_at t k)
  unfolding drop_at drop_where
  drop_first e t true h = rw h refl
  drop_first e t false h = rw h refl

  goes_step : (e : Key × R) (t : Table R) (b : Bool) → same_key k e.0 ≡ b
      → drop_at (change_row (λ r. Some (after r)) k t) k ≡ drop_at t k
      → drop_at (change_row (λ r. Some (after r)) k (e ∷ t)) k ≡ drop_at (e ∷ t) k
  goes_step e t true h later =
      ap (λ (u : Table R). drop_at u k) (change_first k (λ r. Some (after r)) e t true h)
      ∙ drop_first (e.0, after e.1) (change_row (λ r. Some (after r)) k t) true h ∙ later ∙ sym (drop_first e t true h)
  goes_step e t false h later =
      ap (λ (u : Table R). drop_at u k) (change_first k (λ r. Some (after r)) e t false h)
      ∙ drop_first e (change_row (λ r. Some (after r)) k t) false h ∙ ap (λ (u : Table R). e ∷ u) later
      ∙ sym (drop_first e t false h)

  pub updated_goes : (t : Table R) → drop_at (change_row (λ r. Some (after r)) k t) k ≡ drop_at t k
  unfolding change_row drop_at drop_where
  updated_goes [] = refl
  updated_goes (e ∷ t) = goes_step e t (same_key k e.0) refl (updated_goes t)

-- ---- what is left of a row that was refused, by whether rows have a second end

-- the row that is left
abbrev pub left_row : {R : Type 0} → Option TimerKind → Option R → Option R
left_row None before = before
left_row (Some kind) before = None

module _ {R : Type 0} (k : Key) (after : R → R) (t : Table R) (before : R) (there : row_at t k ≡ Some before) where
  pub back_is_left : (second : Option TimerKind) → IsStrictlySortedBy key_cmp (keys_in t)
      → back_at second (updated k after t) k before ≡ left_at second t k
  back_is_left None sorted = updated_back k after t before there sorted
  back_is_left (Some kind) sorted = updated_goes k after t

  pub put_back_left : (second : Option TimerKind) → IsStrictlySortedBy key_cmp (keys_in t) → (mid last : Table R)
      → mid ≡ updated k after t → last ≡ back_at second mid k before → last ≡ left_at second t k
  put_back_left second sorted mid last is back =
      back ∙ ap (λ (u : Table R). back_at second u k before) is ∙ back_is_left second sorted

  pub found_left : (second : Option TimerKind) (q : Key)
      → row_at (left_at second t k) q ≡ cond (same_key q k) (left_row second (Some before)) (row_at t q)
  found_left None q = as_it_is k t (Some before) there q
  found_left (Some kind) q = row_at-drop_at k q t

pub left_armed : {R : Type 0} (kinds : Kinds) (ends : R → Option ℕ × Option ℕ) (h : Due → Bool) (k : Key) (before : Option R)
    (second : Option TimerKind) → IsRowArmed kinds ends h k before → IsRowArmed kinds ends h k (left_row second before)
left_armed kinds ends h k before None armed = armed
left_armed kinds ends h k before (Some kind) armed = no_row_armed kinds ends h k
