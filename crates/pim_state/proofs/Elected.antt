-- The set of the interfaces on which the router is the DR, after a change of the neighbours on one of them.
use Rattle.std.{proofs.{Common.{◌≡◌, ℕ, Bool, true, false, cond, not, filter, [], ◌∷◌, nat_lt, ◌==◌, ◌&&◌, Option, None, refl, sym, ap, eqb-true, subst, ◌∙◌, arith}, lemmas.Bool.Decides.nat_tests}, specs.Prelude.if◌then◌else◌}
use Rattle.pim_ifset.{specs.Members.{Members, has}}
use Rattle.pim_types.{specs.{declared.{fact.{Key.Key, NeighbourRow.NeighbourRow}}, Keys.{iface_in, is_on, neighbour_key}}}
use Rattle.pim_wire.{specs.declared.hello.Hello.Hello as HelloValue}
use Rattle.pim_model.{specs.{Hellos.neighbours_replaced, State.{Addressing, address_among, value_among}, Neighbours.is_dr_among, Tables.{Table, drop_at, drop_where, rows_on, rows_where, set_row}}}
use Rattle.law_settled.{proofs.{ListLaws.filter_within, RowChanges.set_elsewhere}}
use Rattle.pim_state.{specs.Shown.{Shows, is_dr_on}}

-- a change of a row on one interface leaves the rows on another
other_rows : (k : Key) (i : ℕ) → (iface_in k == i) ≡ false → (t : Table NeighbourRow) (row : Option NeighbourRow)
    → rows_on i (set_row t k row) ≡ rows_on i t
unfolding rows_on rows_where
other_rows k i other t row = set_elsewhere (is_on i) k other t row

module _ (configured : Addressing) (k : Key) (before after : Members) (old : Table NeighbourRow)
    (row : Option NeighbourRow) (b : Bool) where
  at : (i : ℕ) (same : Bool) → (iface_in k == i) ≡ same → b ≡ is_dr_on configured (set_row old k row) (iface_in k)
      → has before i ≡ (nat_lt i 120 && is_dr_on configured old i)
      → (if same then nat_lt i 120 && b else has before i) ≡ (nat_lt i 120 && is_dr_on configured (set_row old k row) i)
  at i true e elected shows =
      ap (λ c. nat_lt i 120 && c) (elected ∙ ap (λ n. is_dr_on configured (set_row old k row) n) (eqb-true (iface_in k) i e))
  at i false e elected shows =
      shows ∙ ap (λ (t : Table NeighbourRow). nat_lt i 120
      && is_dr_among (value_among (λ c. c.priority) configured i) (address_among configured i) t)
      (sym (other_rows k i e old row))

  pub elected_after : Shows before (is_dr_on configured old) → b ≡ is_dr_on configured (set_row old k row) (iface_in k)
      → ((i : ℕ) → has after i ≡ (if iface_in k == i then nat_lt i 120 && b else has before i))
      → Shows after (is_dr_on configured (set_row old k row))
  elected_after shows elected is i = is i ∙ at i (iface_in k == i) refl elected (shows i)

and_true : (b : Bool) → b ≡ (b && true)
and_true true = refl
and_true false = refl

-- where there are no neighbours it is the DR
pub elected_alone : (configured : Addressing) (set : Members) → ((i : ℕ) → has set i ≡ nat_lt i 120)
    → Shows set (is_dr_on configured [])
unfolding is_dr_among rows_on
elected_alone configured set all i = all i ∙ and_true (nat_lt i 120)

-- after the Hello of a neighbour
pub elected_after_hello : (configured : Addressing) (before after : Members) (old new : Table NeighbourRow)
    (i address present : ℕ) (h : HelloValue) (b : Bool) → new ≡ neighbours_replaced present i address h old
    → Shows before (is_dr_on configured old) → b ≡ is_dr_on configured new i
    → ((q : ℕ) → has after q ≡ (if i == q then nat_lt q 120 && b else has before q))
    → Shows after (is_dr_on configured new)
unfolding neighbours_replaced
elected_after_hello configured before after old new i address present h b is shows elected member =
    subst (λ (t : Table NeighbourRow). Shows after (is_dr_on configured t)) (sym is)
    (elected_after configured (neighbour_key i address) before after old _ b shows
    (elected ∙ ap (λ (t : Table NeighbourRow). is_dr_on configured t i) is) member)

-- after a neighbour's end
pub elected_after_end : (configured : Addressing) (before after : Members) (old new : Table NeighbourRow)
    (k : Key) (b : Bool) → new ≡ drop_at old k → Shows before (is_dr_on configured old)
    → b ≡ is_dr_on configured new (iface_in k)
    → ((q : ℕ) → has after q ≡ (if iface_in k == q then nat_lt q 120 && b else has before q))
    → Shows after (is_dr_on configured new)
unfolding set_row
elected_after_end configured before after old new k b is shows elected member =
    subst (λ (t : Table NeighbourRow). Shows after (is_dr_on configured t)) (sym is)
    (elected_after configured k before after old None b shows
    (elected ∙ ap (λ (t : Table NeighbourRow). is_dr_on configured t (iface_in k)) is) member)

-- ---- without the neighbours of an interface

module _ (i : ℕ) where
  none_step : (e : Key × NeighbourRow) (t : Table NeighbourRow) (b : Bool) → is_on i e.0 ≡ b
      → filter (λ x. is_on i x.0) t ≡ [] → filter (λ x. is_on i x.0) (cond (not b) (e ∷ t) t) ≡ []
  none_step e t true on later = later
  none_step e t false on later = rw on later

  none_on : (t : Table NeighbourRow) → rows_on i (drop_where (is_on i) t) ≡ []
  unfolding rows_on drop_where
  none_on [] = refl
  none_on (e ∷ t) = none_step e _ (is_on i e.0) refl (none_on t)

  apart : (q : ℕ) → (i == q) ≡ false → (e : Key × NeighbourRow) → is_on q e.0 ≡ true → not (is_on i e.0) ≡ true
  apart q other e here = grind (arith, nat_tests, other, here)

  elsewhere : (q : ℕ) → (i == q) ≡ false → (t : Table NeighbourRow) → rows_on q (drop_where (is_on i) t) ≡ rows_on q t
  unfolding rows_on drop_where
  elsewhere q other t = filter_within (λ e. is_on q e.0) (λ e. not (is_on i e.0)) (apart q other) t

  module _ (configured : Addressing) (before after : Members) (old : Table NeighbourRow) where
    left_at : (q : ℕ) (same : Bool) → (i == q) ≡ same → has before q ≡ (nat_lt q 120 && is_dr_on configured old q)
        → (if same then nat_lt q 120 && true else has before q)
        ≡ (nat_lt q 120 && is_dr_on configured (drop_where (is_on i) old) q)
    unfolding is_dr_among
    left_at q true e shows =
        ap (λ (t : Table NeighbourRow). nat_lt q 120
        && is_dr_among (value_among (λ c. c.priority) configured q) (address_among configured q) t)
        (sym (none_on old) ∙ ap (λ (n : ℕ). rows_on n (drop_where (is_on i) old)) (eqb-true i q e))
    left_at q false e shows =
        shows ∙ ap (λ (t : Table NeighbourRow). nat_lt q 120
        && is_dr_among (value_among (λ c. c.priority) configured q) (address_among configured q) t)
        (sym (elsewhere q e old))

    pub elected_after_down : (new : Table NeighbourRow) → new ≡ drop_where (is_on i) old
        → Shows before (is_dr_on configured old)
        → ((q : ℕ) → has after q ≡ (if i == q then nat_lt q 120 && true else has before q))
        → Shows after (is_dr_on configured new)
    elected_after_down new is shows member =
        subst (λ (t : Table NeighbourRow). Shows after (is_dr_on configured t)) (sym is)
        (λ q. member q ∙ left_at q (i == q) refl (shows q))
