-- A split data plane whose core doesn't get the timestamps of the packets that passed: it hears of each source's last
-- packet just before an event of its own.
use Rattle.std.{specs.Prelude.{Bool, List, Ok, [], if◌then◌else◌, length, not, true, ◌∷◌, ◌≡◌, ◌≤◌}}
use Rattle.pim_types.{specs.declared.{config.Config.Config, event.{Event.Event, EventKind.EventKind}, outcome.Outcome.Outcome}}
use Rattle.pim_model.{specs.{declared.accepted.Accepted.Accepted, Judging.{Judged, judged, last_moment}, Limits.{config_test, most_ifaces}, State.{State, opening}, Step.{Answered, outcome_of, state_after, step}}}
use Rattle.law_events.{specs.{Rest.IsAtRest, Named.event_named}}
use Rattle.law_plane.{specs.{Offload.is_to_core, Split.{Split, caught_up, handled_by, passes_quietly, split_step, whole}, SplitLaws.{caught_late, packets_of}, ToldLaws.{AreTold, PlaneRows, no_plane_rows, told_anew}}}

-- ---- which events are the core's

-- An event as it was judged is the core's: a packet that the plane leaves to it, and whatever is no packet.
abbrev pub judged_the_cores : Split → Judged → Bool
judged_the_cores x (Ok (Accepted.Data i p)) = is_to_core (handled_by x i p)
judged_the_cores x _ = true

-- An event of some kind is for the core: time that doesn't pass quietly, or what is judged so.
abbrev pub kind_is_the_cores : Split → EventKind → Bool
kind_is_the_cores x (EventKind.Advance m) = not (passes_quietly x m)
kind_is_the_cores x kind = judged_the_cores x (judged x.core kind)

-- An event is for the core.
unfoldable pub is_the_cores : Split → Event → Bool
is_the_cores x e = kind_is_the_cores x e.kind

-- ---- a step

-- One event at a split data plane whose core hears late of the packets: its outcome, and what is left.
unfoldable pub late_step : Split → Event → Split × Outcome
late_step x e =
    let before : State = caught_late x in
    let a : Answered = step before e in
    if is_the_cores x e then (whole a.state (told_anew (event_named before e) a.state x.rows), outcome_of a)
    else split_step x e

-- Events at a split data plane whose core hears late: their outcomes, and what is left.
unfoldable pub late_ran : Split → List Event → List Outcome × Split
late_ran x [] = ([], x)
late_ran x (e ∷ es) =
    let first : Split × Outcome = late_step x e in
    let later : List Outcome × Split = late_ran first.0 es in
    (first.1 ∷ later.0, later.1)

-- ---- the router that a late data plane and its core are as good as

-- The state of a router to which, before each event of the core's, what is owed comes once more.
unfoldable pub owed_again : Split → State → Event → State
owed_again x r e = if is_the_cores x e then state_after r (packets_of x.owed) else r

-- Events at a router to which what is owed comes once more before each event of the core's.
unfoldable pub repeated_ran : Split → State → List Event → List Outcome × State
repeated_ran x r [] = ([], r)
repeated_ran x r (e ∷ es) =
    let a : Answered = step (owed_again x r e) e in
    let later : List Outcome × State = repeated_ran (late_step x e).0 a.state es in
    (outcome_of a ∷ later.0, later.1)

abbrev pub LateSplitIsSound : Type 0
LateSplitIsSound = (s : State) (rows : PlaneRows) (events : List Event) → IsAtRest s → s.present ≤ last_moment
    → length s.configured.interfaces ≤ most_ifaces → AreTold rows s
    → ((late_ran (whole s rows) events).0 ≡ (repeated_ran (whole s rows) s events).0)
    × (caught_up (late_ran (whole s rows) events).1 ≡ (repeated_ran (whole s rows) s events).1)

abbrev pub LateRouterIsSound : Type 0
LateRouterIsSound = (c : Config) (events : List Event) → config_test c ≡ Ok tt
    → ((late_ran (whole (opening c) no_plane_rows) events).0 ≡ (repeated_ran (whole (opening c) no_plane_rows) (opening c) events).0)
    × (caught_up (late_ran (whole (opening c) no_plane_rows) events).1
    ≡ (repeated_ran (whole (opening c) no_plane_rows) (opening c) events).1)
