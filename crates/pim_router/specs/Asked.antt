-- What a call sends is asked for by what led the router to its state.
use Rattle.std.{specs.Prelude.{List, Result, [], length, ℕ, ◌++◌, ◌∷◌}}
use Rattle.pim_ip.{specs.{Tests.{expect, ◌>>◌}, declared.refusal.Refusal.Refusal}}
use Rattle.pim_types.{specs.declared.{config.Config.Config, event.Event.Event, outcome.{Emission.Emission, Verdict.Verdict}}}
use Rattle.pim_model.{specs.{Cause.CopiesAreAsked, Limits.config_test, State.{State, iface_count, opening}}}
use Rattle.law_states.{specs.{Placing.{Places, are_places}, History.{Given, IsLedTo, past_given}}}

-- Whatever events, reloads and reports of a plane led to the state, each copy among these packets, which an event's call
-- sent, has its cause among them.
abbrev pub SentIsAsked : State → Event → Result Verdict Refusal → List Emission → ℕ → Type 0
SentIsAsked s e answer sent copies = (c : Config) (before : List Given) → IsLedTo c before s
    → CopiesAreAsked (past_given [] (opening c) before) (record { before = s; event = e })
    (record { answer = answer; emissions = sent; copies = copies })

-- Whatever led to the one state leads, with one call more, to the other.
abbrev pub LeadsOn : State → Given → State → Type 0
LeadsOn s one t = (c : Config) (before : List Given) → IsLedTo c before s → IsLedTo c (before ++ one ∷ []) t

-- The tests of a reload by a map of places: those of its configuration, and then of the map.
unfoldable pub places_test : State → Places → Config → Result (Unit {0}) Refusal
places_test s m c =
    config_test c >> expect (are_places (iface_count s) (length c.interfaces) m) Refusal.PlacesDontFit
