-- The facts that count beside the asserts: an event adds what it needs, and they stay within the limit.
use Rattle.std.{proofs.Common.{◌≡◌, ◌∙◌, ℕ, ◌≤◌, not, ◌&&◌, ◌||◌, cond, Bool, true, false, List, Ok, refl, sym, ap, subst, arith}}
use Rattle.pim_types.{specs.declared.{config.{Config.Config, Settings.Settings}, event.Event.Event}}
use Rattle.pim_wire.{specs.Values.{Encapsulated, Null}}
use Rattle.pim_model.{specs.{declared.accepted.Accepted.Accepted, Full.{assert_is_full, hello_is_full, is_full, join_prune_is_full, keys_are_full, passes_limit, report_is_full, source_is_full}, Judging.{Judged, judged}, Limits.config_test, Querier.{querier_up, querying}, Registers.register_stop_seen, State.{State, opening, settings_of}, Step.{Change, advanced, change, concluded, done, iface_up, rps_replaced, state_after, step, taken, taken_unless_full}}}
use Rattle.law_settled.{proofs.{UnchangedLaws.full_or_taken, RisingKeys.up_of_sorted, Steps.{opening_is_settled, step_is_settled}, StepLaws.kept_by_run}, specs.Ready.IsSettled}
use Rattle.law_streams.{specs.Bounded.{AddsAtMost, AddsNone, AddsWhatIsNeeded, IsWithinLimit, NothingNewAddsNone, counted_beside_asserts, needed_by, needed_of}, proofs.{Asserts.assert_adds, Fewer.{adds_itself, adds_none, time_adds_none}, Others.{down_none, query_none, seen_none}, Reports.report_adds, Settings.step_configured, Within.{data_adds, done_at_most, hello_adds, more_within, none_at_most, none_passes, register_adds, to_me_adds}}}

module _ (s : State) (w : ℕ) (settled : IsSettled s) where
  by_none : (n : ℕ) (c : Change) → AddsNone s c.state → AddsAtMost n s (done s w c).state
  by_none n c none = done_at_most n s w c (none_at_most n s c.state none)

  taken_adds : (a : Accepted) → AddsAtMost (needed_by s a) s (taken s w a).state
  unfolding taken needed_by change iface_up querier_up querying rps_replaced register_stop_seen
  taken_adds (Accepted.Advance moment) = none_at_most 0 s (advanced s w moment).state (time_adds_none s w moment)
  taken_adds (Accepted.Up i) = by_none _ _ (adds_none s _ refl)
  taken_adds (Accepted.Down i) = by_none _ _ (down_none s i.number)
  taken_adds (Accepted.Routes routes) = by_none _ _ (adds_none s _ refl)
  taken_adds (Accepted.Rps ranges) = by_none _ _ (adds_none s _ refl)
  taken_adds (Accepted.Hello i from h) =
      done_at_most _ s w _ (hello_adds s (up_of_sorted s.neighbours settled.ordered.neighbours) i.number from.bits h w)
  taken_adds (Accepted.JoinPruneToMe i m) =
      done_at_most _ s w _ (to_me_adds s i.number m (up_of_sorted s.downstream settled.ordered.downstream))
  taken_adds (Accepted.JoinPruneSeen i m) = by_none _ _ (seen_none s w i.number m)
  taken_adds (Accepted.Assert i from a) = done_at_most _ s w _ (assert_adds s i.number from.bits a)
  taken_adds (Accepted.Query i from q) = by_none _ _ (query_none s i.number from.bits q)
  taken_adds (Accepted.Report i records) = done_at_most _ s w _ (report_adds s settled i.number records)
  taken_adds (Accepted.Data i p) =
      done_at_most _ s w _ (data_adds s p.destination p.source (up_of_sorted s.sources settled.ordered.sources) i.number)
  taken_adds (Accepted.Register p (Encapsulated inner)) =
      done_at_most _ s w _ (register_adds s inner.destination inner.source (up_of_sorted s.sources settled.ordered.sources) p false)
  taken_adds (Accepted.Register p (Null source group)) =
      done_at_most _ s w _ (register_adds s group source (up_of_sorted s.sources settled.ordered.sources) p true)
  taken_adds (Accepted.RegisterStop from r) = by_none _ _ (adds_none s _ refl)

  full_adds : (a : Accepted) (b : Bool) → AddsAtMost (needed_by s a) s (full_or_taken s w a b).state
  full_adds a b = grind (arith, none_at_most, adds_itself, taken_adds)

  concluded_adds : (j : Judged) → AddsAtMost (needed_of s j) s (concluded s (taken_unless_full s w) j).state
  unfolding taken_unless_full
  concluded_adds j = grind (arith, none_at_most, adds_itself, full_adds)

pub adds_what_is_needed : AddsWhatIsNeeded
unfolding step
adds_what_is_needed s e settled = concluded_adds s e.draw settled (judged s e.kind)

none_needed : (s t : State) (n : ℕ) → n ≡ 0 → AddsAtMost n s t → AddsNone s t
none_needed s t n is f = grind arith

pub nothing_new_adds_none : NothingNewAddsNone
nothing_new_adds_none s e settled is = grind (arith, none_needed, adds_what_is_needed)

-- ---- within the limit

-- what isn't refused for want of room has room for what it needs
hello_room : (s : State) (ends there most : Bool) → (not ends && not there && (most || passes_limit s 1)) ≡ false
    → passes_limit s (cond (ends || there) 0 1) ≡ false
unfolding passes_limit
hello_room s ends there most e = grind arith

keys_room : (s : State) (ends : Bool) (n : ℕ) → (not ends && passes_limit s n) ≡ false → passes_limit s (cond ends 0 n) ≡ false
unfolding passes_limit
keys_room s ends n e = grind arith

register_room : (s : State) (here : Bool) (n : ℕ) → (here && passes_limit s n) ≡ false → passes_limit s (cond here n 0) ≡ false
unfolding passes_limit
register_room s here n e = grind arith

pub has_room : (s : State) (a : Accepted) → is_full s a ≡ false → passes_limit s (needed_by s a) ≡ false
unfolding is_full needed_by hello_is_full join_prune_is_full keys_are_full assert_is_full report_is_full source_is_full
has_room s a e = grind (arith, hello_room, keys_room, register_room, none_passes)

module _ (s : State) (w : ℕ) (settled : IsSettled s) (f : IsWithinLimit s) where
  full_within : (a : Accepted) (b : Bool) → is_full s a ≡ b → IsWithinLimit (full_or_taken s w a b).state
  full_within a true e = f
  full_within a false e = more_within (needed_by s a) s _ (taken_adds s w settled a) (has_room s a e) f

  concluded_within : (j : Judged) → IsWithinLimit (concluded s (taken_unless_full s w) j).state
  unfolding taken_unless_full
  concluded_within j = grind (arith, full_within)

pub step_stays_within : (s : State) (e : Event) → IsSettled s → IsWithinLimit s → IsWithinLimit (step s e).state
unfolding step
step_stays_within s e settled f = concluded_within s e.draw settled f (judged s e.kind)

record Both (limit : ℕ) (s : State) : Type 0 where
  settled : IsSettled s
  within : IsWithinLimit s
  same : s.settings.limit ≡ limit

both_stay : (limit : ℕ) (s : State) (e : Event) → Both limit s → Both limit (step s e).state
both_stay limit s e f = record {
  settled = step_is_settled s e f.settled;
  within = step_stays_within s e f.settled f.within;
  same = ap (λ (x : Settings). x.limit) (sym (step_configured s e).settings) ∙ f.same;
}

opening_both : (c : Config) → IsSettled (opening c) → Both c.limit (opening c)
unfolding opening settings_of
opening_both c settled = record { settled = settled; within = record { within = omega arith }; same = refl }

pub run_stays_within : (c : Config) (events : List Event) → config_test c ≡ Ok tt
    → counted_beside_asserts (state_after (opening c) events) ≤ c.limit
run_stays_within c events e =
    let both : Both c.limit (state_after (opening c) events) =
    kept_by_run (Both c.limit) (both_stay c.limit) (opening c) events (opening_both c (opening_is_settled c e)) in
    subst (λ (n : ℕ). counted_beside_asserts (state_after (opening c) events) ≤ n) both.same both.within.within
