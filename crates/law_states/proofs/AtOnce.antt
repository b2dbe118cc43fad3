-- Time that goes on in two steps, of which the first ends nothing, goes on in one.
use Rattle.std.{proofs.Common.{◌≡◌, ◌≤◌, ℕ, Bool, false, List, ◌++◌, Ok, Option, Some, None, nat_lt, refl, sym, ap, ◌∙◌, arith}}
use Rattle.pim_ip.{specs.declared.refusal.Refusal.Refusal}
use Rattle.pim_types.{specs.{declared.{event.EventKind.EventKind, fact.{AssertRow.AssertRow, Key.Key}, outcome.{Emission.Emission, Verdict.Verdict}, upstream.SourceView.SourceView}, Keys.{rpt_key, source_key, star_key}}}
use Rattle.pim_model.{specs.{Clearing.{assert_must_go, assert_to_clear, clear, clear_all, is_rpf_at, to_clear}, declared.accepted.Accepted.Accepted, Firing.{fire_all, fire_once, fired, settled}, Full.is_full, Judging.{Judged, advance_judged, judged, last_moment, refuse_if, ◌>>◌}, Messages.Message, Repeat.and_then, State.State, Step.{Answered, advanced, concluded, ran, state_after, step, taken, taken_unless_full}, Timers.{Ending, next_due, timers}, Unicast.{route, rp_of, rp_route, rpf_interface, rpf_interface_rp}, Upstream.{Told, fact_keys, group_upstream, rpt_told, source_told, source_upstream, source_view, sources_of, star_told, star_view, upstream, with_join_timer, with_override_timer}, Querier.each_in_turn}}
use Rattle.law_settled.{proofs.FiringLaws.{ahead_is_ready, firing_goes_on_by_one, firing_stops}}
use Rattle.law_events.{specs.{Locality.touching, Rest.IsAtRest}, proofs.{OwnKeys.present_touches_none, Rest.step_is_at_rest, UntoldKeys.{same_by_scope, source_view_at, star_view_at}}}
use Rattle.law_plane.{proofs.Times.{passes, not_lt}}
use Rattle.law_states.{specs.AtOnce.AdvanceAtOnce}

-- ---- what follows of a change doesn't read the present of the state before it

module _ (o : State) (n : ℕ) where
  abbrev then : State
  then = record o { present = n }

  star_same : (g : ℕ) → star_view o g ≡ star_view then g
  unfolding touching
  star_same g =
      same_by_scope (star_key 0 g) (λ s. star_view s g) (star_view_at g) o then (present_touches_none o n (star_key 0 g) refl)

  source_same : (g src : ℕ) → source_view o g src ≡ source_view then g src
  unfolding touching
  source_same g src =
      same_by_scope (source_key 0 g src) (λ s. source_view s g src) (λ s. source_view_at g s src) o then
      (present_touches_none o n (source_key 0 g src) refl)

  rpf_same : (k : Key) → is_rpf_at o k ≡ is_rpf_at then k
  unfolding rpf_interface rpf_interface_rp rp_route route rp_of
  rpf_same k = refl

  must_same : (s : State) (e : Key × AssertRow) → assert_must_go o s e ≡ assert_must_go then s e
  unfolding assert_must_go
  must_same s e = grind (arith, rpf_same)

  goes_same : (s : State) → to_clear o s ≡ to_clear then s
  unfolding to_clear assert_to_clear
  goes_same s = grind (arith, must_same)

  clear_same : (s : State) → clear o s ≡ clear then s
  unfolding clear clear_all
  clear_same s = grind (arith, goes_same)

  source_step : (a : State) (w g : ℕ) (s : State) (src : ℕ) → source_upstream o a w g s src ≡ source_upstream then a w g s src
  unfolding source_upstream
  source_step a w g s src =
      ap (λ (old : SourceView).
      let new : SourceView = source_view a g src in
      let joins : Told = source_told a w g src old new in
      let prunes : Told = rpt_told a w g src old new in
      let all : State × List Message = (
        with_override_timer (with_join_timer s (source_key 0 g src) joins.timer) (rpt_key 0 g src) prunes.timer,
        joins.messages ++ prunes.messages,
      ) in all) (source_same g src)

  group_step : (a : State) (w : ℕ) (keys : List Key) (s : State) (g : ℕ)
      → group_upstream o a w keys s g ≡ group_upstream then a w keys s g
  unfolding group_upstream
  group_step a w keys s g = λ j.
      let star : Told = star_told a w g (star_same g j) (star_view a g) in
      let first : State = with_join_timer s (star_key 0 g) star.timer in
      let later : State × List Message = each_in_turn (λ t src. source_step a w g t src j) first (sources_of g keys) in
      (later.0, star.messages ++ later.1)

  upstream_same : (a : State) (w : ℕ) → upstream o a w ≡ upstream then a w
  unfolding upstream fact_keys
  upstream_same a w = grind (arith, group_step)

  settled_same : (c : State × List Message) (w : ℕ) → settled o c w ≡ settled then c w
  unfolding settled
  settled_same c w = grind (arith, clear_same, upstream_same)

-- ---- nor do the firings

module _ (s : State) (n w m : ℕ) (rests : IsAtRest s) (there : IsAtRest (record s { present = n })) where
  abbrev at_n : State
  at_n = record s { present = n }

  once_same : (e : Ending) → fire_once w s e ≡ fire_once w at_n e
  unfolding fire_once
  once_same e = settled_same s n (fired (record s { present = e.end }) e.timer.kind e.timer.key) w

  due_same : next_due m s ≡ next_due m at_n
  unfolding next_due timers
  due_same = refl

  abbrev arrived : State × List Emission → Answered
  arrived fires = record { answer = Ok Verdict.Done; emissions = fires.1; copies = 0; state = record (fires.0) { present = m } }

  arrives : (o : Option Ending) → next_due m s ≡ o → arrived (fire_all w m s) ≡ arrived (fire_all w m at_n)
  arrives None e = grind (arith, firing_stops, due_same)
  arrives (Some d) e =
      ap arrived
      (firing_goes_on_by_one w m s d (ahead_is_ready s.present s rests.settled.ahead) e
      ∙ (ap (λ (u : State × List Emission). and_then (next_due m) (fire_once w) (λ t. fire_all w m t) u) (once_same d)
      ∙ sym (firing_goes_on_by_one w m at_n d (ahead_is_ready n at_n there.settled.ahead) (sym due_same ∙ e))))

  advanced_same : advanced s w m ≡ advanced at_n w m
  unfolding advanced
  advanced_same = arrives (next_due m s) refl

-- ---- the event

module _ (s : State) (w m : ℕ) (on : s.present ≤ m) (early : m ≤ last_moment) where
  accepted : (b c : Bool) → b ≡ false → c ≡ false
      → (refuse_if b Refusal.MomentBack >> refuse_if c Refusal.MomentFar >> Ok (Accepted.Advance m)) ≡ Ok (Accepted.Advance m)
  accepted b c e f = grind arith

  judged_so : judged s (EventKind.Advance m) ≡ Ok (Accepted.Advance m)
  unfolding judged advance_judged
  judged_so = accepted (nat_lt m s.present) (nat_lt last_moment m) (not_lt s.present m on) (not_lt m last_moment early)

  steps_so : step s (record { draw = w; kind = EventKind.Advance m }) ≡ advanced s w m
  unfolding step taken_unless_full is_full taken
  steps_so = ap (λ (j : Judged). concluded s (taken_unless_full s w) j) judged_so

pub advance_at_once : AdvanceAtOnce
unfolding state_after ran
advance_at_once s w n m rests from on early ahead = grind (arith, passes, step_is_at_rest, steps_so, advanced_same)
