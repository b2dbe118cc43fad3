-- The rows of a table that pass a test, changed key by key: each key is listed once, so each row is changed once.
use Rattle.std.{proofs.Common.{◌≡◌, Bool, true, false, cond, [], ◌∷◌, map, Option, Some, None, option_map, refl, ap, ◌∙◌}, specs.{List.{AllByRecursion, cons_option, filter, filter_map, Sorted.IsStrictlySortedBy}, Ordering.is_eq, Prelude.if◌then◌else◌, declared.cmp.Ordering.TheVariants.Less}}
use Rattle.pim_types.{specs.{declared.fact.Key.Key, Keys.{key_cmp, same_key}}, proofs.Keys.same_key_same}
use Rattle.pim_model.{specs.Tables.{Table, change_row, changed_entry, keys_in}}
use Rattle.law_settled.{proofs.{ListLaws.each_filter, RowLaws.same_key_swap}}
use Rattle.pim_querier.{specs.Changes.each_changed}

module _ {R : Type 0} where
  -- the keys differ from this one
  abbrev pub Apart : Key → Table R → Type 0
  Apart k t = AllByRecursion (λ (e : Key × R). same_key k e.0 ≡ false) t

  apart_below : (k : Key) (t : Table R) → AllByRecursion (λ y. key_cmp k y ≡ Less) (map (λ e. e.0) t) → Apart k t
  apart_below k [] below = tt
  apart_below k (e ∷ t) below = (ap is_eq below.0, apart_below k t below.1)

  unchanged_by : (c : R → Option R) (k : Key) (e : Key × R) → same_key k e.0 ≡ false → changed_entry c k e ≡ Some e
  unfolding changed_entry
  unchanged_by c k e other = rw other refl

  unchanged : (c : R → Option R) (k : Key) (t : Table R) → Apart k t → change_row c k t ≡ t
  unfolding change_row
  unchanged c k [] apart = refl
  unchanged c k (e ∷ t) apart = rw (unchanged_by c k e apart.0) (ap (λ u. e ∷ u) (unchanged c k t apart.1))

  changed_by : (c : R → Option R) (e : Key × R) → changed_entry c e.0 e ≡ option_map (λ row. (e.0, row)) (c e.1)
  unfolding changed_entry
  changed_by c e = rw (same_key_same e.0) refl

  first_changed : (c : R → Option R) (e : Key × R) (t : Table R) → Apart e.0 t
      → change_row c e.0 (e ∷ t) ≡ cons_option (option_map (λ row. (e.0, row)) (c e.1)) t
  unfolding change_row
  first_changed c e t apart =
      rw (changed_by c e)
      (ap (λ u. cons_option (option_map (λ row. (e.0, row)) (c e.1)) u) (unchanged c e.0 t apart))

  passed_by : (c : R → Option R) (k : Key) (e : Key × R) (t : Table R) → same_key k e.0 ≡ false
      → change_row c k (e ∷ t) ≡ e ∷ change_row c k t
  unfolding change_row
  passed_by c k e t other = rw (unchanged_by c k e other) refl

  module _ (change : R → Option R) where
    -- an entry before all of the changed keys stays where it is
    first_stays : (e : Key × R) (es t : Table R) → Apart e.0 es
        → each_changed change (e ∷ t) es ≡ e ∷ each_changed change t es
    unfolding each_changed
    first_stays e [] t apart = refl
    first_stays e (x ∷ es) t apart =
        ap (λ u. each_changed change u es)
        (passed_by (λ _. change x.1) x.0 e t (same_key_swap x.0 e.0 ∙ apart.0))
        ∙ first_stays e es (change_row (λ _. change x.1) x.0 t) apart.1

    kept_first : (o : Option R) (k : Key) (es t : Table R) → Apart k es
        → each_changed change (cons_option (option_map (λ row. (k, row)) o) t) es
        ≡ cons_option (option_map (λ row. (k, row)) o) (each_changed change t es)
    kept_first None k es t apart = refl
    kept_first (Some r) k es t apart = first_stays (k, r) es t apart

    module _ (test : Key × R → Bool) where
      -- what is left of an entry
      abbrev pub left_of : Key × R → Option (Key × R)
      left_of e = if test e then option_map (λ row. (e.0, row)) (change e.1) else Some e

      step : (e : Key × R) (t : Table R) (b : Bool) → Apart e.0 t
          → each_changed change t (filter test t) ≡ filter_map left_of t
          → each_changed change (e ∷ t) (cond b (e ∷ filter test t) (filter test t))
          ≡ cons_option (if b then option_map (λ row. (e.0, row)) (change e.1) else Some e) (filter_map left_of t)
      unfolding each_changed
      step e t true apart rest =
          ap (λ u. each_changed change u (filter test t)) (first_changed (λ _. change e.1) e t apart)
          ∙ kept_first (change e.1) e.0 (filter test t) t (each_filter (λ x. same_key e.0 x.0 ≡ false) test t apart)
          ∙ ap (λ u. cons_option (option_map (λ row. (e.0, row)) (change e.1)) u) rest
      step e t false apart rest =
          first_stays e (filter test t) t (each_filter (λ x. same_key e.0 x.0 ≡ false) test t apart)
          ∙ ap (λ u. e ∷ u) rest

      all_changed : (t : Table R) → IsStrictlySortedBy key_cmp (map (λ e. e.0) t)
          → each_changed change t (filter test t) ≡ filter_map left_of t
      unfolding IsStrictlySortedBy each_changed
      all_changed [] rise = refl
      all_changed (e ∷ t) rise = step e t (test e) (apart_below e.0 t rise.0) (all_changed t rise.1)

      pub each_is_changed_once : (t : Table R) → IsStrictlySortedBy key_cmp (keys_in t)
          → each_changed change t (filter test t) ≡ filter_map left_of t
      unfolding keys_in
      each_is_changed_once t rise = all_changed t rise
