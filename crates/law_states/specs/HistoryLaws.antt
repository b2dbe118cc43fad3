-- What holds of a router after any events and reloads.
use Rattle.std.{specs.{List.All, Prelude.{List, Ok, [], length, map, ℕ, ◌*◌, ◌+◌, ◌++◌, ◌≡◌, ◌≤◌}}}
use Rattle.pim_types.{specs.declared.{config.Config.Config, event.Event.Event, outcome.Outcome.Outcome}}
use Rattle.law_events.{specs.Rest.IsAtRest}
use Rattle.pim_model.{specs.{Cause.{CopiesAreAsked, OutcomesAreAsked, past_after}, Full.counted, State.{State, opening}, Step.{outcome_of, run, state_after, step}}}
use Rattle.law_streams.{specs.Bounded.counted_beside_asserts}
use Rattle.law_states.{specs.{Reloading.removals, History.{AreAccepted, Given, IsLedTo, greatest_count, greatest_limit, past_given, state_given}}}
use Rattle.pim_saved.{specs.{Fits.FitsState, Reading.reading, Text.text}}

-- Without a reload the state and the past are those of the events.
abbrev pub EventsAloneAreARun : Type 0
EventsAloneAreARun = (s : State) (events : List Event) → state_given s (map Given.Happening events) ≡ state_after s events

abbrev pub EventsAloneAreThePast : Type 0
EventsAloneAreThePast = (s : State) (events : List Event)
    → past_given [] s (map Given.Happening events) ≡ past_after [] s events

-- A reload sends no copy of a packet: the events by which interfaces go down send none, and all else that it sends are
-- messages.
abbrev pub RemovalsCopyNothing : Type 0
RemovalsCopyNothing = (s : State) (c : Config) (w : ℕ)
    → All (λ (o : Outcome). o.copies ≡ 0) (run s (removals s c w))

-- Over any events and reloads nothing flows unasked: each copy that a later event makes on a link has its cause in an
-- earlier event, and the interface didn't go down since, by an event or because a reload removed it. Where a map of places
-- gave it another number since, the cause is under its number of then.
abbrev pub NothingFlowsUnaskedOverReloads : Type 0
NothingFlowsUnaskedOverReloads = (c : Config) (before : List Given) (s : State) (events : List Event) → IsLedTo c before s
    → OutcomesAreAsked (past_given [] (opening c) before) s events (run s events)

-- The facts that count, without the asserts, stay within the greatest limit of the configurations so far: a lower limit
-- removes none, and none is made above it.
abbrev pub FactsStayWithinTheGreatest : Type 0
FactsStayWithinTheGreatest = (c : Config) (before : List Given) (s : State) (events : List Event) → IsLedTo c before s
    → counted_beside_asserts (state_after s events) ≤ greatest_limit c.limit before

-- All facts that count stay within the greatest limit so far, once for each interface of the configuration that had the
-- most, and once more.
abbrev pub CountedStayWithinTheGreatest : Type 0
CountedStayWithinTheGreatest = (c : Config) (before : List Given) (s : State) (events : List Event) → IsLedTo c before s
    → counted (state_after s events) ≤ greatest_limit c.limit before * (greatest_count (length c.interfaces) before + 1)

-- A router is at rest after any events and reloads.
abbrev pub LedStatesRest : Type 0
LedStatesRest = (c : Config) (before : List Given) (s : State) → IsLedTo c before s → IsAtRest s

-- ---- calls

-- What one event sends is asked for by what led the router to its state.
abbrev pub CallIsAsked : Type 0
CallIsAsked = (c : Config) (before : List Given) (s : State) (e : Event) → IsLedTo c before s
    → CopiesAreAsked (past_given [] (opening c) before) (record { before = s; event = e }) (outcome_of (step s e))

-- Calls go on with what led the router to its state.
abbrev pub CallsLeadOn : Type 0
CallsLeadOn = (c : Config) (before later : List Given) (s : State) → IsLedTo c before s → AreAccepted s later
    → IsLedTo c (before ++ later) (state_given s later)

-- What is read of the bytes of a state that was saved was led to by what led to that state.
abbrev pub ReadStateIsLedTo : Type 0
ReadStateIsLedTo = (c : Config) (before : List Given) (s t : State) → IsLedTo c before s → FitsState s
    → reading (text s) ≡ Ok t → IsLedTo c before t
