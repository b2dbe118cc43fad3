-- What holds of every key of a table, after a row is put, taken away or changed.
use Rattle.std.{proofs.Common.{◌≡◌, Bool, not, Option, Some, None, sym, subst}, specs.{List.AllByRecursion, Prelude.{Err, Ok, OnErr, OnOk, Result}}}
use Rattle.pim_types.{specs.{declared.{fact.Key.Key, timer.TimerKind.TimerKind}, Keys.same_key}}
use Rattle.pim_model.{specs.Tables.{Table, change_row, changed_entry, drop_at, drop_where, set_row}}
use Rattle.law_settled.{proofs.{ListLaws.{each_filter, each_filter_map}, RowLaws.{changed_key, each_put}}}
use Rattle.pim_tables.{specs.Ends.left_at}

module _ {R : Type 0} (P : Key → Type 0) where
  abbrev Keeps : Table R → Type 0
  Keeps t = AllByRecursion (λ (e : Key × R). P e.0) t

  pub kept_without : (test : Key → Bool) (t t' : Table R) → Keeps t → t' ≡ drop_where test t → Keeps t'
  unfolding drop_where
  kept_without test t t' all is =
      subst Keeps (sym is) (each_filter (λ (e : Key × R). P e.0) (λ e. not (test e.0)) t all)

  kept_left : (second : Option TimerKind) (k : Key) (t : Table R) → Keeps t → Keeps (left_at second t k)
  unfolding drop_at
  kept_left None k t all = all
  kept_left (Some kind) k t all = kept_without (same_key k) t _ all (λ j. drop_where (same_key k) t)

  module _ (k : Key) (t t' : Table R) (all : Keeps t) where
    kept_set : (row : Option R) → P k → t' ≡ set_row t k row → Keeps t'
    unfolding set_row drop_at
    kept_set None fits is = kept_without (same_key k) t t' all is
    kept_set (Some r) fits is = subst Keeps (sym is) (each_put k r (λ (e : Key × R). P e.0) fits t all)

    pub kept_changed : (change : R → Option R) → t' ≡ change_row change k t → Keeps t'
    unfolding change_row
    kept_changed change is =
        subst Keeps (sym is)
        (each_filter_map (λ (e : Key × R). P e.0) (λ (e : Key × R). P e.0) (changed_entry change k)
        (λ x y is before. subst P (sym (changed_key change k x y is)) before) t all)

    module _ {T E : Type 0} (second : Option TimerKind) (r : Result T E) where
      pub kept_after_set : (row : Option R) → P k → OnOk r (t' ≡ set_row t k row) → OnErr r (t' ≡ left_at second t k)
          → Keeps t'
      kept_after_set row fits =
          elim r as (λ r. OnOk r (t' ≡ set_row t k row) → OnErr r (t' ≡ left_at second t k) → Keeps t') [
            | Ok x ↦ λ ok err. kept_set row fits ok
            | Err e ↦ λ ok err. subst Keeps (sym err) (kept_left second k t all)
          ]

      pub kept_after_change : (change : R → Option R) → OnOk r (t' ≡ change_row change k t)
          → OnErr r (t' ≡ left_at second t k) → Keeps t'
      kept_after_change change =
          elim r as (λ r. OnOk r (t' ≡ change_row change k t) → OnErr r (t' ≡ left_at second t k) → Keeps t') [
            | Ok x ↦ λ ok err. kept_changed change ok
            | Err e ↦ λ ok err. subst Keeps (sym err) (kept_left second k t all)
          ]
