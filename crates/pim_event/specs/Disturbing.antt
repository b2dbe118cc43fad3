-- What an event disturbs, exactly: what its change touches, by key or by group, what a timer of an Advance touches when it
-- expires, all sources where the router becomes the DR of an interface, or is no more, and the routes or RP ranges that it
-- replaces.
use Rattle.std.{specs.Prelude.{Bool, Err, List, Ok, [], false, if◌then◌else◌, is_some, length, ℕ, ◌&&◌, ◌+◌, ◌-◌, ◌∷◌, ◌≡◌}}
use Rattle.pim_types.{specs.declared.event.Event.Event}
use Rattle.pim_model.{specs.{declared.accepted.Accepted.Accepted, Firing.fire_once, Full.{is_full, passes_limit}, Judging.{Judged, judged}, Plain.fact_key, Repeat.until_none, State.State, Step.step, Tables.{has_row, same_bool}, Timers.{Ending, next_due, timers}}}
use Rattle.law_events.{specs.Decided.decided_by_answers}
use Rattle.pim_state.{specs.declared.touched.Touched.Touched}
use Rattle.pim_fanout.{specs.Disturbed.joined}
use Rattle.pim_event.{specs.{Ends.disturbed_by_end, Replacing.{Disturbance, event_replaced}, Staying.disturbed_by}}
use Rattle.pim_plan.{specs.Planning.touched_of}

-- ---- an Advance

-- What `told` says of each firing of an Advance, by the state before it and the timer that expires. The firings are those
-- of `fire_all`, in its order.
module _ {X : Type 0} (told : State → Ending → List X) (w : ℕ) where
  unfoldable pub ended_once : State → Ending → State × List X
  ended_once s e = ((fire_once w s e).0, told s e)

  unfoldable pub ended_instant : State → Ending → State × List X
  ended_instant s e = until_none (next_due e.end) ended_once (length (timers s) + 1) s

  unfoldable pub ended_all : ℕ → State → State × List X
  ended_all moment s = until_none (next_due moment) ended_instant (moment + 2 - s.present) s

-- What one firing disturbs, as a list of one.
abbrev pub disturbed_at : State → Ending → List Touched
disturbed_at s e = disturbed_by_end s e.timer.kind e.timer.key ∷ []

-- What several firings disturb together.
unfoldable pub joined_all : List Touched → Touched
joined_all [] = Touched.Keys []
joined_all (touched ∷ later) = joined touched (joined_all later)

-- ---- an event

-- What an accepted event disturbs, if there is room for it.
unfoldable pub disturbed_of : State → ℕ → Accepted → Touched
disturbed_of s w (Accepted.Advance moment) = joined_all (ended_all disturbed_at w moment s).1
disturbed_of s w a = disturbed_by s a (touched_of s a)

-- An event that is refused or ignored, or for which there is no room, disturbs nothing.
abbrev pub where_disturbed : State → (Accepted → Touched) → Judged → Touched
where_disturbed s told (Err stop) = Touched.Keys []
where_disturbed s told (Ok a) = if is_full s a then Touched.Keys [] else told a

-- Where the event takes the room for one more fact, or makes such room, it disturbs all sources, since each source without
-- a fact is then answered otherwise.
unfoldable pub disturbed_with_room : State → Event → Touched
disturbed_with_room s e =
    if same_bool (passes_limit s 1) (passes_limit (step s e).state 1)
    then where_disturbed s (disturbed_of s e.draw) (judged s e.kind) else Touched.All

-- The event is a packet of data of a source with a fact, and the answers of the source decide it.
abbrev pub goes_by_answers : State → Judged → Bool
goes_by_answers s (Ok (Accepted.Data i p)) = has_row s.sources (fact_key p) && is_some (decided_by_answers s i p)
goes_by_answers s _ = false

-- What an event touches of what is offered. A packet that the answers of its source decide touches nothing: it moves a
-- keepalive timer at most.
unfoldable pub event_touched : State → Event → Touched
event_touched s e =
    if goes_by_answers s (judged s e.kind) then Touched.Keys [] else disturbed_with_room s e

-- What an event disturbs. New routes and RP ranges touch all sources; what they replaced tells which of these are
-- disturbed.
abbrev pub event_disturbed : State → Event → Disturbance
event_disturbed s e = record { touched = event_touched s e; replaced = event_replaced s e }

-- What the last of a list of events disturbs.
abbrev pub IsLastDisturbed : State → List Event → Disturbance → Type 0
IsLastDisturbed s [] disturbed = Unit {0}
IsLastDisturbed s (e ∷ []) disturbed = disturbed ≡ event_disturbed s e
IsLastDisturbed s (e ∷ es) disturbed = IsLastDisturbed (step s e).state es disturbed
