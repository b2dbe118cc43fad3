-- What led a router to its state: it is at rest, and without reloads it is a run.
use Rattle.std.{proofs.{Common.{◌≡◌, ℕ, nat_le, Bool, true, false, not, List, [], ◌∷◌, map, ◌++◌, Result, Ok, refl, sym, ap, subst, ◌∙◌}, lemmas.List.Elements.{All-cons, All-nil}}, specs.List.All}
use Rattle.pim_ip.{specs.declared.refusal.Refusal.Refusal}
use Rattle.pim_types.{specs.declared.{event.Event.Event, outcome.{Ignored.Ignored, Outcome.Outcome}}}
use Rattle.pim_model.{specs.{Cause.{Past, happened, past_after}, declared.accepted.Accepted.Accepted, Full.is_full, Judging.{down_judged, ignore_if, judged, refuse_if, ◌>>◌}, State.{State, iface_count, is_up, opening}, Step.{change, concluded, done, outcome_of, ran, run, state_after, step, taken, taken_unless_full}}}
use Rattle.law_states.{specs.{Reloading.{down_event, reload, removals}, Placing.reload_by, History.{AreAccepted, Given, past_given, state_given}, HistoryLaws.{CallsLeadOn, EventsAloneAreARun, EventsAloneAreThePast, LedStatesRest, ReadStateIsLedTo, RemovalsCopyNothing}}, proofs.Led.is_led}
use Rattle.law_plane.{specs.Keeping.keep}
use Rattle.pim_saved.{specs.{Reading.reading, Text.text}, proofs.SpelledStates.text_is_read}

-- ---- without reloads

pub events_alone_are_a_run : EventsAloneAreARun
unfolding state_given state_after ran
events_alone_are_a_run s [] = refl
events_alone_are_a_run s (e ∷ es) = events_alone_are_a_run (step s e).state es

past_alone : (past : Past) (s : State) (events : List Event)
    → past_given past s (map Given.Happening events) ≡ past_after past s events
unfolding past_given past_after
past_alone past s [] = refl
past_alone past s (e ∷ es) = past_alone (happened s e ∷ past) (step s e).state es

pub past_of_events : EventsAloneAreThePast
past_of_events s events = past_alone [] s events

-- ---- at rest

pub led_states_rest : LedStatesRest
led_states_rest c before s led = (is_led c before s led).rest

-- ---- no copy

module _ (s : State) (w i : ℕ) where
  down_copies : (a u : Bool)
      → (concluded s (taken_unless_full s w) (refuse_if a Refusal.NoInterface >> ignore_if (not u) Ignored.Already
      >> Ok (Accepted.Down (record { number = i })))).copies ≡ 0
  unfolding taken_unless_full is_full taken done change
  down_copies true u = refl
  down_copies false true = refl
  down_copies false false = refl

  step_copies : (step s (down_event w i)).copies ≡ 0
  unfolding step judged down_judged
  step_copies = down_copies (nat_le (iface_count s) i) (is_up s i)

downs_copy : (w : ℕ) (is : List ℕ) (s : State) → All (λ (o : Outcome). o.copies ≡ 0) (run s (map (down_event w) is))
unfolding run ran
downs_copy w [] s = All-nil (λ (o : Outcome). o.copies ≡ 0)
downs_copy w (i ∷ is) s =
    All-cons (λ (o : Outcome). o.copies ≡ 0) (outcome_of (step s (down_event w i)))
    (run (step s (down_event w i)).state (map (down_event w) is)) (step_copies s w i)
    (downs_copy w is (step s (down_event w i)).state)

pub removals_copy_nothing : RemovalsCopyNothing
unfolding removals
removals_copy_nothing s c w = downs_copy w _ s

-- ---- more calls

state_appended : (before later : List Given) (s : State)
    → state_given s (before ++ later) ≡ state_given (state_given s before) later
unfolding state_given
state_appended [] later s = refl
state_appended (Given.Happening e ∷ before) later s = state_appended before later (step s e).state
state_appended (Given.Reload c w ∷ before) later s = state_appended before later (reload s c w).0
state_appended (Given.Placed m c w ∷ before) later s = state_appended before later (reload_by s m c w).0
state_appended (Given.Kept g src m ∷ before) later s = state_appended before later (keep s g src m)

accepted_appended : (before later : List Given) (s : State) → AreAccepted s before → AreAccepted (state_given s before) later
    → AreAccepted s (before ++ later)
unfolding state_given
accepted_appended [] later s f g = g
accepted_appended (Given.Happening e ∷ before) later s f g = accepted_appended before later (step s e).state f g
accepted_appended (Given.Reload c w ∷ before) later s f g = (f.0, accepted_appended before later (reload s c w).0 f.1 g)
accepted_appended (Given.Placed m c w ∷ before) later s f g =
    (f.0, f.1, accepted_appended before later (reload_by s m c w).0 f.2 g)
accepted_appended (Given.Kept g' src m ∷ before) later s f g = accepted_appended before later (keep s g' src m) f g

pub calls_lead_on : CallsLeadOn
calls_lead_on c before later s led accepted = record {
  accepted = led.accepted;
  reloads = accepted_appended before later (opening c) led.reloads (subst (λ t. AreAccepted t later) led.led accepted);
  led = ap (λ t. state_given t later) led.led ∙ sym (state_appended before later (opening c));
}

same_ok : {E : Type 0} (r : Result State E) (t s : State) → r ≡ Ok t → r ≡ Ok s → t ≡ s
same_ok r t s e f = cc

pub read_state_is_led_to : ReadStateIsLedTo
read_state_is_led_to c before s t led fits is = record {
  accepted = led.accepted;
  reloads = led.reloads;
  led = same_ok (reading (text s)) t s is (text_is_read s fits) ∙ led.led;
}
