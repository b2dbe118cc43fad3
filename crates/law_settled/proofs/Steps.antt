-- Every event leaves a settled state, and so do any events from the opening.
use Rattle.std.{proofs.Common.{◌≡◌, ℕ, nat_lt, Bool, true, false, List, Ok, refl, sym, subst, arith, lt-ltb, ltb-true}, specs.List.Sorted.IsStrictlySortedBy}
use Rattle.pim_ip.{specs.declared.refusal.Refusal.Refusal}
use Rattle.pim_types.{specs.declared.{config.Config.Config, event.{Event.Event, EventKind.EventKind}, outcome.Stop.Stop}}
use Rattle.pim_model.{specs.{declared.accepted.Accepted.Accepted, Judging.{Judged, advance_judged, judged, refuse_if, ◌>>◌}, Limits.config_test, State.{State, is_up, opening}, Step.{Answered, advanced, change, concluded, done, state_after, step, stopped, taken, taken_unless_full}, Tables.keys_in}}
use Rattle.law_settled.{specs.{Laws.IsAhead, Ready.{IsOrdered, IsSettled, IsTidy, IsTimeless}}, proofs.{FiringLaws.{advanced_is_ahead, ahead_is_ready, opening_is_ahead}, StepLaws.kept_by_run, Changes.{change_fine, done_fine}, Firing.{any, advanced_sound, IsSound}, Judgements.{IsHere, IsJudged, kind_is_judged}, LawfulFiring.lawful_is_sound, LawfulStates.{its_order, its_tidiness}, SettledStates.{fine_is_settled, its_ahead, settled_is_fine, settled_is_lawful}, FineStates.{Anyhow, IsFine, Lateness}}}

pub later_is_late : (m : ℕ) → Lateness m (nat_lt m)
later_is_late m = grind (arith, lt-ltb, ltb-true)

-- ---- what holds after an event

-- of the state as it was, after time that passes, and after a change with what follows from it
module _ (P : State → Type 0) (s : State) (w : ℕ) (stays : P s)
    (changes : (a : Accepted) → IsHere (is_up s) a → P (done s w (change s w a)).state) where
  abbrev Holds : Answered → Type 0
  Holds a = P a.state

  stopped_holds : (stop : Stop) → Holds (stopped s stop)
  stopped_holds stop = grind arith

  taken_holds : (a : Accepted) → IsHere (is_up s) a → Holds (taken s w a)
  unfolding taken
  taken_holds a none = grind arith

  -- where a test says whether it is full
  unless_full : (b : Bool) (a : Answered) → Holds a
      → Holds (elim b [ true ↦ stopped s (Stop.Refuse Refusal.Full) | false ↦ a ])
  unless_full b a next = grind arith

  concluded_holds : (r : Judged) → IsJudged (IsHere (is_up s)) r → Holds (concluded s (taken_unless_full s w) r)
  unfolding taken_unless_full
  concluded_holds r here = grind (arith, stopped_holds, unless_full, taken_holds)

  pub after_timeless : (kind : EventKind) → IsTimeless kind
      → Holds (concluded s (taken_unless_full s w) (judged s kind))
  after_timeless kind none = concluded_holds (judged s kind) (kind_is_judged s kind none)

  module _ (passes : (moment : ℕ) → Holds (advanced s w moment)) where
    moment_tested : (moment : ℕ) (back far : Bool)
        → Holds (concluded s (taken_unless_full s w)
        (refuse_if back Refusal.MomentBack >> refuse_if far Refusal.MomentFar >> Ok (Accepted.Advance moment)))
    unfolding taken_unless_full taken
    moment_tested moment back far = grind (arith, unless_full)

    after_kind : (kind : EventKind) → Holds (concluded s (taken_unless_full s w) (judged s kind))
    unfolding judged advance_judged
    after_kind kind = grind (arith, moment_tested, after_timeless)

pub after_event : (P : State → Type 0) (s : State) (e : Event) → P s
    → ((moment : ℕ) → P (advanced s e.draw moment).state)
    → ((a : Accepted) → IsHere (is_up s) a → P (done s e.draw (change s e.draw a)).state) → P (step s e).state
unfolding step
after_event P s e stays passes changes = after_kind P s e.draw stays changes passes e.kind

-- ---- what is settled

module _ (s : State) (f : IsSettled s) (w : ℕ) where
  fine : IsFine s.present (nat_lt s.present) (is_up s) s
  fine = settled_is_fine s f

  done_ups : (a : Accepted) → IsHere (is_up s) a → Anyhow s.present (nat_lt s.present) (done s w (change s w a)).state
  done_ups a here =
      let late : Lateness s.present (nat_lt s.present) = later_is_late s.present in
      done_fine s.present (nat_lt s.present) (is_up s) late s fine w (change s w a)
      (change_fine s.present (nat_lt s.present) (is_up s) late s fine w a here)

  done_settled : (a : Accepted) → IsHere (is_up s) a → IsSettled (done s w (change s w a)).state
  done_settled a here =
      fine_is_settled s.present (done_ups a here).ups (done s w (change s w a)).state (done_ups a here).fine

  done_ahead : (a : Accepted) → IsHere (is_up s) a → IsAhead s.present (done s w (change s w a)).state
  done_ahead a here = its_ahead s.present (done_ups a here).ups (done s w (change s w a)).state (done_ups a here).fine

  advanced_settled : (moment : ℕ) → IsSettled (advanced s w moment).state
  unfolding advanced
  advanced_settled moment =
      let sound : IsSound (is_up s) (advanced s w moment).state =
      advanced_sound (is_up s) w moment s (lawful_is_sound s (settled_is_lawful s f)) in
      record {
        ordered = its_order moment any (is_up s) (advanced s w moment).state sound;
        tidy = its_tidiness moment any (is_up s) (advanced s w moment).state sound;
        ahead = advanced_is_ahead w moment s (ahead_is_ready s.present s f.ahead);
      }

pub step_stays_ahead : (s : State) (e : Event) → IsTimeless e.kind → IsSettled s → IsAhead s.present (step s e).state
unfolding step
step_stays_ahead s e none f = after_timeless (IsAhead s.present) s e.draw f.ahead (done_ahead s f e.draw) e.kind none

pub step_is_settled : (s : State) (e : Event) → IsSettled s → IsSettled (step s e).state
step_is_settled s e f = after_event IsSettled s e f (advanced_settled s f e.draw) (done_settled s f e.draw)

-- ---- the opening

opening_is_ordered : (c : Config) → IsOrdered (opening c)
unfolding opening keys_in IsStrictlySortedBy
opening_is_ordered c = grind arith

opening_is_tidy : (c : Config) → IsTidy (opening c)
unfolding opening
opening_is_tidy c = grind arith

opening_now : (c : Config) → (opening c).present ≡ 0
unfolding opening
opening_now c = refl

pub opening_is_settled : (c : Config) → config_test c ≡ Ok tt → IsSettled (opening c)
opening_is_settled c e = record {
  ordered = opening_is_ordered c;
  tidy = opening_is_tidy c;
  ahead = subst (λ (n : ℕ). IsAhead n (opening c)) (sym (opening_now c)) (opening_is_ahead c e);
}

pub run_is_settled : (c : Config) (events : List Event) → config_test c ≡ Ok tt
    → IsSettled (state_after (opening c) events)
run_is_settled c events e = kept_by_run IsSettled step_is_settled (opening c) events (opening_is_settled c e)
