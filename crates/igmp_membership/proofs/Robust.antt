-- The keys and robustness variables of queriers that are put, changed and taken away.
use Rattle.std.{proofs.{Common.{◌≡◌, ◌≤◌, ◌&&◌, ℕ, Bool, true, false, nat_le, not, Option, Some, None, refl, sym, subst, arith}, lemmas.Bool.Decides.nat_tests}, specs.{Option.IfSome, Prelude.{Err, Ok, OnErr, OnOk, Result, if◌then◌else◌}}}
use Rattle.pim_types.{specs.{declared.fact.{Key.Key, QuerierRow.QuerierRow}, Keys.same_key}}
use Rattle.pim_model.{specs.Tables.{Table, change_row, changed_entry, drop_at, drop_where, put, row_at}}
use Rattle.law_settled.{proofs.{ListLaws.{each_filter, each_filter_map}, RowLaws.each_put, TableLaws.row_of_each}}
use Rattle.igmp_membership.{specs.MembershipTables.{AreHeld, is_held_querier, is_querier_key}}

abbrev IsHeld : Key × QuerierRow → Type 0
IsHeld e = is_held_querier e ≡ true

within : (a : Bool) (n : ℕ) → (a && nat_le n 7) ≡ true → n ≤ 7
within true n is = grind (arith, nat_tests, is)
within false n is = cc

held_by : (a : Bool) (n : ℕ) → a ≡ true → n ≤ 7 → (a && nat_le n 7) ≡ true
held_by true n is new = grind (arith, nat_tests, new)
held_by false n is new = cc

still : (a : Bool) (m n : ℕ) → (a && nat_le m 7) ≡ true → n ≤ 7 → (a && nat_le n 7) ≡ true
still true m n is new = held_by true n refl new
still false m n is new = cc

pub robust_found : (k : Key) (t : Table QuerierRow) → AreHeld t → IfSome (row_at t k) (λ row. row.robustness ≤ 7)
robust_found k t all = go (row_at t k) refl
  where
    go : (o : Option QuerierRow) → row_at t k ≡ o → IfSome o (λ row. row.robustness ≤ 7)
    go None found = tt
    go (Some row) found = within (is_querier_key k) row.robustness (row_of_each IsHeld k row t all found)

pub robust_dropped : (test : Key → Bool) (t : Table QuerierRow) → AreHeld t → AreHeld (drop_where test t)
unfolding drop_where
robust_dropped test t all = each_filter IsHeld (λ e. not (test e.0)) t all

robust_changed : (k : Key) (row : QuerierRow) (t : Table QuerierRow) → row.robustness ≤ 7 → AreHeld t
    → AreHeld (change_row (λ _. Some row) k t)
unfolding change_row changed_entry
robust_changed k row t new all = each_filter_map IsHeld IsHeld (changed_entry (λ _. Some row) k) entry t all
  where
    entry_by : (x y : Key × QuerierRow) (b : Bool) → (if b then Some (x.0, row) else Some x) ≡ Some y → IsHeld x
        → IsHeld y
    entry_by x y true is before =
        let same : (let z : Key × QuerierRow = (x.0, row) in z) ≡ y = cc in
        subst IsHeld same (still (is_querier_key x.0) (x.1).robustness row.robustness before new)
    entry_by x y false is before = let same : x ≡ y = cc in subst IsHeld same before

    entry : (x y : Key × QuerierRow) → changed_entry (λ _. Some row) k x ≡ Some y → IsHeld x → IsHeld y
    entry x y is before = entry_by x y (same_key k x.0) is before

module _ {T E : Type 0} (r : Result T E) (k : Key) (row : QuerierRow) (t t' : Table QuerierRow)
    (new : row.robustness ≤ 7) (all : AreHeld t) where
  pub robust_after_put : is_querier_key k ≡ true → OnOk r (t' ≡ put t k row) → OnErr r (t' ≡ drop_at t k) → AreHeld t'
  unfolding drop_at
  robust_after_put kind =
      elim r as (λ r. OnOk r (t' ≡ put t k row) → OnErr r (t' ≡ drop_at t k) → AreHeld t') [
        | Ok x ↦ λ put err. subst AreHeld (sym put) (each_put k row IsHeld (held_by (is_querier_key k) row.robustness kind new) t all)
        | Err e ↦ λ put err. subst AreHeld (sym err) (robust_dropped (same_key k) t all)
      ]

  abbrev IsChanged : Result T E → Type 0
  IsChanged r = OnOk r (t' ≡ change_row (λ _. Some row) k t)

  pub robust_after_change : IsChanged r → OnErr r (t' ≡ drop_at t k) → AreHeld t'
  unfolding drop_at
  robust_after_change =
      elim r as (λ r. IsChanged r → OnErr r (t' ≡ drop_at t k) → AreHeld t') [
        | Ok x ↦ λ changed err. subst AreHeld (sym changed) (robust_changed k row t new all)
        | Err e ↦ λ changed err. subst AreHeld (sym err) (robust_dropped (same_key k) t all)
      ]
