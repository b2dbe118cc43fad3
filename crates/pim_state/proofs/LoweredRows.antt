-- The row at a key, lowered by a change of that row.
use Rattle.std.{proofs.Common.{◌≡◌, ℕ, Bool, true, false, [], ◌∷◌, map, None, Ok, Err, OnOk, Option, Result, Some, refl, ap, subst, sym, ◌∙◌}, specs.{Option.IfSome, Prelude.if◌then◌else◌}}
use Rattle.pim_types.{specs.{declared.fact.{GroupRecordRow.GroupRecordRow, Key.Key}, Keys.{same_key, star_key}}}
use Rattle.pim_model.{specs.{Querier.{lower_group, lowered}, State.State, Tables.{Table, change_row, changed_entry, row_at}}}
use Rattle.pim_tables.{proofs.Rows.absent_is_unchanged}
use Rattle.igmp_membership.{specs.MembershipTables.MembershipTables}
use Rattle.pim_state.{specs.Lending.with_membership}

module _ {R : Type 0} (change : R → R) (k : Key) where
  abbrev pub changed : Table R → Table R
  changed t = map (λ (e : Key × R). if same_key k e.0 then (e.0, change e.1) else e) t

  entry_by : (e : Key × R) (b : Bool) → same_key k e.0 ≡ b
      → changed_entry (λ r. Some (change r)) k e ≡ Some (if b then (e.0, change e.1) else e)
  unfolding changed_entry
  entry_by e true is = rw is refl
  entry_by e false is = rw is refl

  pub changed_is_mapped : (t : Table R) → change_row (λ r. Some (change r)) k t ≡ changed t
  unfolding change_row
  changed_is_mapped [] = refl
  changed_is_mapped (e ∷ t) =
      rw (entry_by e (same_key k e.0) refl)
      (ap (λ (u : Table R). (if same_key k e.0 then (e.0, change e.1) else e) ∷ u) (changed_is_mapped t))

module _ (i g end : ℕ) where
  abbrev low : GroupRecordRow → GroupRecordRow
  low r = record { end = lowered end r.end }

  abbrev with_records : State → Table GroupRecordRow → State
  with_records s t = record s { group_records = t }

  pub none_lowered : (s : State) → row_at s.group_records (star_key i g) ≡ None → s ≡ lower_group s i g end
  unfolding lower_group row_at
  none_lowered s none =
      ap (with_records s)
      (absent_is_unchanged (star_key i g) (λ r. Some (low r)) s.group_records none
      ∙ changed_is_mapped low (star_key i g) s.group_records)

  -- a change of the row that is there
  abbrev pub Changes : MembershipTables → MembershipTables → GroupRecordRow → Type 0
  Changes before after row =
      (change : GroupRecordRow → Option GroupRecordRow)
      → IfSome (row_at before.group_records (star_key i g)) (λ r. change r ≡ Some row)
      → after ≡ record before { group_records = change_row change (star_key i g) before.group_records }

  pub one_lowered : {T E : Type 0} (r : Result T E) (s : State) (before after : MembershipTables)
      (old row : GroupRecordRow) → with_membership s before ≡ s → OnOk r (Changes before after row)
      → row_at before.group_records (star_key i g) ≡ Some old → row.end ≡ lowered end old.end
      → OnOk r (with_membership s after ≡ lower_group s i g end)
  unfolding lower_group
  one_lowered (Ok x) s before after old row same changes found is =
      ap (with_membership s)
      (changes (λ x. Some (low x))
      (subst (λ (o : Option GroupRecordRow). IfSome o (λ r. Some (low r) ≡ Some row)) (sym found)
      (λ j. Some (record { end = sym is j })))
      ∙ ap (λ (t : Table GroupRecordRow). let m : MembershipTables = record before { group_records = t } in m)
      (changed_is_mapped low (star_key i g) before.group_records))
      ∙ ap (λ (t : State). lower_group t i g end) same
  one_lowered (Err e) s before after old row same changes found is = tt
