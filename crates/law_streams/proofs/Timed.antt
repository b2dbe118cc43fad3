-- In every run a Join timer runs exactly where its tree is wanted.
use Rattle.std.{proofs.{Common.{◌≡◌, ◌∙◌, ℕ, ◌+◌, ◌-◌, true, Bool, false, List, [], ◌∷◌, length, refl, sym, ap, arith}, lemmas.Bool.{both_ways, false_from_ne_true}}, specs.List.list_any}
use Rattle.pim_types.{specs.{Keys.{is_of_group, names_source, source_key, star_key}, declared.{config.Config.Config, event.Event.Event, fact.Key.Key}}}
use Rattle.pim_model.{specs.{declared.accepted.Accepted.Accepted, Asserts.{assert_forgotten, without_spt_bit}, Clearing.clear, Desires.{join_desired, join_desired_star}, Firing.{fire_all, fire_instant, fire_once, settled}, Judging.{Judged, judged}, Messages.Message, Registers.settle_registers, State.{State, opening}, Step.{advanced, concluded, done, ran, state_after, step, taken, taken_unless_full}, Tables.{has_row, keys_in, row_at}, Timers.{Ending, next_due, timers}, Upstream.{fact_keys, source_view, star_view, upstream}, Writing.write_all}}
use Rattle.law_settled.{proofs.{SettlingLaws.kept_by_clearing, TurnLaws.kept_to_the_end, UnchangedLaws.full_or_taken}}
use Rattle.law_events.{specs.Locality.touching, proofs.{OwnKeys.present_touches_none, UntoldKeys.{join_desired_at, join_desired_star_at, same_by_scope}}}
use Rattle.law_streams.{specs.Timed.{AreTimed, FiringKeepsTimed, RunIsTimed, StepKeepsTimed}, proofs.{Joined.{source_told_so, star_told_so}, Leaves.{same_star_view, wanted_is_fact}, Sources.{same_source_view, wanted_is_named}, Timers.{SameTimers, change_keeps, fired_keeps}}}

module _ (o : State) (c : State × List Message) (w : ℕ) (f : AreTimed o) (same : SameTimers o c.0) where
  abbrev a : State
  a = (clear o c.0).0

  abbrev t : State
  t = (settled o c w).0

  cleared_keeps : SameTimers o a
  unfolding settle_registers assert_forgotten without_spt_bit
  cleared_keeps k =
      kept_by_clearing (λ x. has_row x.join_timers k ≡ has_row o.join_timers k) (λ x q g. g) (λ x q g. g) o c.0 (same k)

  told_stays : SameTimers (upstream o a w).0 t
  unfolding settled write_all
  told_stays k = refl

  star_settled : (g : ℕ) → has_row t.join_timers (star_key 0 g) ≡ join_desired_star t g
  unfolding star_view
  star_settled g = grind (arith, told_stays, star_told_so, cleared_keeps, same_star_view)

  source_settled : (g src : ℕ) → has_row t.join_timers (source_key 0 g src) ≡ join_desired t g src
  unfolding source_view
  source_settled g src = grind (arith, told_stays, source_told_so, cleared_keeps, same_source_view)

  pub settled_timed : AreTimed t
  settled_timed = record { stars = star_settled; sources = source_settled }

-- ---- time

pub firing_keeps_timed : FiringKeepsTimed
unfolding fire_once
firing_keeps_timed w s e f = settled_timed s _ w f (fired_keeps (record s { present = e.end }) e.timer.kind e.timer.key)

none_touched : (k : Key) → touching [] k ≡ false
unfolding touching
none_touched k = refl

module _ (w : ℕ) where
  instant_timed : (s : State) (e : Ending) → AreTimed s → AreTimed (fire_instant w s e).0
  unfolding fire_instant
  instant_timed s e f =
      kept_to_the_end (next_due e.end) (fire_once w) AreTimed (λ u d g there. firing_keeps_timed w u d g) (length (timers s) + 1)
      s f

  pub later_timed : (s : State) (m : ℕ) → AreTimed s → AreTimed (record s { present = m })
  later_timed s m f = record {
    stars = λ g.
        f.stars g
        ∙ same_by_scope (star_key 0 g) (λ x. join_desired_star x g) (join_desired_star_at g) s (record s { present = m })
        (present_touches_none s m (star_key 0 g) (none_touched (star_key 0 g)));
    sources = λ g src.
        f.sources g src
        ∙ same_by_scope (source_key 0 g src) (λ x. join_desired x g src) (λ x. join_desired_at g x src) s (record s { present = m })
        (present_touches_none s m (source_key 0 g src) (none_touched (source_key 0 g src)));
  }

  advanced_timed : (s : State) (moment : ℕ) → AreTimed s → AreTimed (advanced s w moment).state
  unfolding advanced fire_all
  advanced_timed s moment f =
      later_timed (fire_all w moment s).0 moment
      (kept_to_the_end (next_due moment) (fire_instant w) AreTimed (λ u d g there. instant_timed u d g) (moment + 2 - s.present)
      s f)

-- ---- every event

module _ (s : State) (w : ℕ) (f : AreTimed s) where
  taken_timed : (a : Accepted) → AreTimed (taken s w a).state
  unfolding taken done
  taken_timed a = grind (arith, advanced_timed, settled_timed, change_keeps)

  full_timed : (a : Accepted) (b : Bool) → AreTimed (full_or_taken s w a b).state
  full_timed a b = grind (arith, taken_timed)

  concluded_timed : (j : Judged) → AreTimed (concluded s (taken_unless_full s w) j).state
  unfolding taken_unless_full
  concluded_timed j = grind (arith, full_timed)

pub step_keeps_timed : StepKeepsTimed
unfolding step
step_keeps_timed s e f = concluded_timed s e.draw f (judged s e.kind)

-- ---- every run

module _ (config : Config) where
  no_facts : fact_keys (opening config) ≡ []
  unfolding fact_keys opening keys_in
  no_facts = refl

  opening_timed : AreTimed (opening config)
  unfolding opening has_row row_at
  opening_timed = record {
    stars = λ g. sym (false_from_ne_true (join_desired_star (opening config) g)
        (λ wanted. nothing (ap (list_any (λ k. is_of_group g k)) no_facts) (wanted_is_fact g (opening config) wanted)));
    sources = λ g src. sym (false_from_ne_true (join_desired (opening config) g src)
        (λ wanted. nothing (ap (list_any (names_source g src)) no_facts) (wanted_is_named g src (opening config) wanted)));
  }
    where
      nothing : {b : Bool} → b ≡ false → b ≡ true → ⊥
      nothing {b} e there = both_ways b e there

run_timed : (s : State) (events : List Event) → AreTimed s → AreTimed (state_after s events)
unfolding state_after ran
run_timed s [] f = f
run_timed s (e ∷ es) f = run_timed (step s e).state es (step_keeps_timed s e f)

pub run_is_timed : RunIsTimed
run_is_timed config events = run_timed (opening config) events (opening_timed config)
