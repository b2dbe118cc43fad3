-- Groups don't affect one another: an event that names one group leaves all answers of the macros about the others
-- unchanged.
use Rattle.std.{specs.{List.list_all, Prelude.{List, Some, false, length, true, ℕ, ◌==◌, ◌≡◌, ◌≤◌}}}
use Rattle.pim_types.{specs.{declared.{event.Event.Event, fact.Key.Key}, Keys.{group_in, is_of_group}}}
use Rattle.pim_model.{specs.{declared.accepted.Accepted.Accepted, Cause.done_as, Firing.fire_once, Limits.most_ifaces, State.State, Step.step, Timers.Ending}}
use Rattle.law_events.{specs.{Events.touched_by_event, Locality.IsQuiet, Touches.isnt_neighbour, Keeps.KeepsAnswers}}
use Rattle.law_streams.{specs.Copies.happens}

-- An event that was answered Done, and whose own change is about keys of one group: each Join/Prune, Assert, report,
-- query, packet, Register or Register-Stop of that group.
pub record NamesAlone (g : ℕ) (s : State) (e : Event) : Type 0 where
  pub accepted : Accepted
  pub done : done_as (happens s e) ≡ Some accepted
  pub keys : List Key
  pub touched : touched_by_event s accepted ≡ Some keys
  pub alone : list_all (is_of_group g) keys ≡ true

-- An event that names one group leaves the answers about each source of another group unchanged; an event that is
-- refused or ignored changes nothing at all.
abbrev pub OtherGroupsKeep : Type 0
OtherGroupsKeep = (s : State) (e : Event) (g : ℕ) → IsQuiet s → length s.configured.interfaces ≤ most_ifaces → NamesAlone g s e
    → (h src : ℕ) → (h == g) ≡ false → KeepsAnswers h src s (step s e).state

-- The expiry of a timer of one group (any but a neighbour's) leaves the answers about each source of another group
-- unchanged.
abbrev pub OtherGroupsOutlast : Type 0
OtherGroupsOutlast = (s : State) (w : ℕ) (e : Ending) → IsQuiet s → length s.configured.interfaces ≤ most_ifaces
    → isnt_neighbour e.timer.kind ≡ true
    → (h src : ℕ) → (h == group_in e.timer.key) ≡ false → KeepsAnswers h src s (fire_once w s e).0
