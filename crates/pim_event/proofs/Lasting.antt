-- A Hello that only says that its neighbour lasts: it replaces the neighbour's row, needs no room, and leaves of which
-- interfaces the router is the DR.
use Rattle.std.{proofs.Common.{◌≡◌, ◌&&◌, ◌||◌, ◌==◌, ℕ, Bool, true, false, not, Option, Some, None, [], is_some, refl, ap, eqb-true, nat_le, sym, ◌∙◌}, specs.{Cmp.{first_so, second_so}, Option.option_map_or}}
use Rattle.pim_types.{specs.{declared.fact.NeighbourRow.NeighbourRow, Keys.{neighbour_key, star_key}}}
use Rattle.pim_wire.{specs.declared.hello.Hello.Hello as HelloValue}
use Rattle.pim_model.{specs.{Full.{hello_is_full, most_neighbours, passes_limit}, Hellos.{hello_holdtime_of, hello_received, is_generation_changed, neighbour_replaced}, Neighbours.{is_dr, neighbour_count}, State.State, Tables.{has_row, row_at, same_bool, same_option}}}
use Rattle.law_events.{specs.{Locality.{AgreesBut, touching}, Scopes.scope, Adjacent.hello_keeps_dr}, proofs.{RefreshedNeighbours.hello_again_touches_none, Unreached.dr_around}}
use Rattle.pim_neighbours.{specs.Refreshed.is_refreshed}
use Rattle.law_settled.{specs.Ready.Rises}
use Rattle.pim_plan.{proofs.Repeats.so_false}

kept_by_none : (s t : State) → AgreesBut (touching []) s t → (i : ℕ) → is_dr s i ≡ is_dr t i
unfolding scope touching
kept_by_none s t agree i =
    let same = agree (star_key 0 0) refl in
    dr_around s t
    (record {
      settings = ap (λ (u : State). u.settings) same;
      configured = ap (λ (u : State). u.configured) same;
      priorities = ap (λ (u : State). u.neighbours) same;
    })
    i

never : (a b : Bool) → (a && false && b) ≡ false
never true b = refl
never false b = refl

same_itself : (b : Bool) → same_bool b b ≡ true
same_itself true = refl
same_itself false = refl

same_priority : (m n : Option ℕ) → same_option m n ≡ true → n ≡ m
same_priority None None e = refl
same_priority None (Some n) e = cc
same_priority (Some m) None e = cc
same_priority (Some m) (Some n) e = ap Some (sym (eqb-true m n e))

module _ (s : State) (i a : ℕ) (h : HelloValue) where
  tests : Option NeighbourRow → Bool
  tests row =
      option_map_or (λ (r : NeighbourRow). same_option r.priority h.priority) row false
      && not (hello_holdtime_of h == 0)
      && not (is_generation_changed s i a h)

  received : (w : ℕ) → is_generation_changed s i a h ≡ false → has_row s.neighbours (neighbour_key i a) ≡ true
      → hello_received s i a h w ≡ neighbour_replaced s i a h
  unfolding hello_received
  received w unchanged known = rw (unchanged, known) refl

  unchanged_where : (b : Bool) → (b && not (is_generation_changed s i a h)) ≡ true → is_generation_changed s i a h ≡ false
  unchanged_where b e =
      so_false (is_generation_changed s i a h) (second_so b (not (is_generation_changed s i a h)) e)

  known_where : (row : Option NeighbourRow) → row_at s.neighbours (neighbour_key i a) ≡ row → tests row ≡ true
      → has_row s.neighbours (neighbour_key i a) ≡ true
  unfolding tests has_row
  known_where None at e = cc
  known_where (Some old) at e = ap (λ (o : Option NeighbourRow). is_some o) at

  pub refreshed_known : is_refreshed s.neighbours i a h ≡ true → has_row s.neighbours (neighbour_key i a) ≡ true
  unfolding is_refreshed is_generation_changed tests
  refreshed_known e = known_where (row_at s.neighbours (neighbour_key i a)) refl e

  pub refreshed_received : (w : ℕ) → is_refreshed s.neighbours i a h ≡ true
      → hello_received s i a h w ≡ neighbour_replaced s i a h
  unfolding is_refreshed is_generation_changed
  refreshed_received w e = received w (unchanged_where _ e) (refreshed_known e)

  pub refreshed_fits : is_refreshed s.neighbours i a h ≡ true → hello_is_full s i a (hello_holdtime_of h) ≡ false
  unfolding hello_is_full
  refreshed_fits e =
      ap (λ (b : Bool). not (hello_holdtime_of h == 0) && not b
      && (nat_le most_neighbours (neighbour_count s i) || passes_limit s 1)) (refreshed_known e)
      ∙ never (not (hello_holdtime_of h == 0)) (nat_le most_neighbours (neighbour_count s i) || passes_limit s 1)

  module _ (rises : Rises s.neighbours) where
    kept_where : (row : Option NeighbourRow) → row_at s.neighbours (neighbour_key i a) ≡ row → tests row ≡ true
        → hello_keeps_dr s i a h ≡ true
    unfolding tests hello_keeps_dr
    kept_where None at e = cc
    kept_where (Some old) at e =
        let first = first_so _ (not (is_generation_changed s i a h)) e in
        let unchanged : is_generation_changed s i a h ≡ false = unchanged_where _ e in
        let touches_none = hello_again_touches_none s i a h 0 old rises at
        (same_priority old.priority h.priority (first_so _ (not (hello_holdtime_of h == 0)) first))
        (so_false (hello_holdtime_of h == 0) (second_so _ (not (hello_holdtime_of h == 0)) first)) unchanged in
        ap (λ (t : State). same_bool (is_dr s i) (is_dr t i))
        (sym (received 0 unchanged (known_where (Some old) at e)))
        ∙ ap (same_bool (is_dr s i)) (sym (kept_by_none s (hello_received s i a h 0) touches_none i))
        ∙ same_itself (is_dr s i)

    pub refreshed_keeps_dr : is_refreshed s.neighbours i a h ≡ true → hello_keeps_dr s i a h ≡ true
    unfolding is_refreshed is_generation_changed tests
    refreshed_keeps_dr e = kept_where (row_at s.neighbours (neighbour_key i a)) refl e
