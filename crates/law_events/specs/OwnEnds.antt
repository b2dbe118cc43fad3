-- What an event, or the expiry of a timer, touches by the rows that differ after its own change, and not by the keys
-- that it names.
use Rattle.std.{specs.Prelude.{List, Ok, Some, [], true, ℕ, ◌≡◌}}
use Rattle.pim_types.{specs.declared.{event.EventKind.EventKind, fact.{AssertMetric.AssertMetric, AssertRow.AssertRow, Key.Key}}}
use Rattle.pim_model.{specs.{Asserts.loses, declared.accepted.Accepted.Accepted, Firing.{fire_once, fired, settled}, Judging.judged, Registers.with_keepalive, Rows.same_metric, Sets.{is_kept_alive, is_loser}, State.State, Step.change, Tables.row_at, Timers.Ending, Writing.write_all}}
use Rattle.law_settled.{specs.Ready.{IsLawful, IsOrdered, IsSettled, IsTimeless}}
use Rattle.law_events.{specs.{Differing.{differing, is_same_but_ends}, Events.{own_change, touched_by_event}, Locality.{AgreesBut, IsQuiet, own_settled, touching}, Rest.IsAtRest, Touches.isnt_neighbour}}

-- The event is accepted, and its own change touches the listed keys.
pub record IsTaken (s : State) (kind : EventKind) (a : Accepted) (keys : List Key) : Type 0 where
  pub timeless : IsTimeless kind
  pub accepted : judged s kind ≡ Ok a
  pub named : touched_by_event s a ≡ Some keys

-- ---- events

-- An event touches no keys but those whose rows differ after it.
abbrev pub EventTouchesDiffering : Type 0
EventTouchesDiffering = (s : State) → IsSettled s → (kind : EventKind) (a : Accepted) (keys : List Key)
    → IsTaken s kind a keys → (w : ℕ)
    → AgreesBut (touching (differing s (change s w a).state)) s (change s w a).state

-- At rest all that follows of an event follows of the keys whose rows differ after its own change.
abbrev pub EventFollowsOfDiffering : Type 0
EventFollowsOfDiffering = (s : State) → IsAtRest s → (kind : EventKind) (a : Accepted) (keys : List Key)
    → IsTaken s kind a keys → (w : ℕ)
    → settled s (own_change s w a) w ≡ own_settled (differing s (change s w a).state) s (own_change s w a) w

-- Nothing follows of an event, of whatever kind, that changes only when timers expire.
abbrev pub EventOfEnds : Type 0
EventOfEnds = (s : State) → IsQuiet s → (a : Accepted) (keys : List Key) → touched_by_event s a ≡ Some keys → (w : ℕ)
    → is_same_but_ends s (change s w a).state ≡ true
    → settled s (own_change s w a) w ≡ write_all (change s w a).state (change s w a).messages

-- ---- timers

abbrev pub FiringFollowsOfDiffering : Type 0
FiringFollowsOfDiffering =
    (s : State) → IsLawful s → IsQuiet s → (w : ℕ) (e : Ending) → isnt_neighbour e.timer.kind ≡ true
    → fire_once w s e
    ≡ own_settled (differing s (fired (record s { present = e.end }) e.timer.kind e.timer.key).0) s
    (fired (record s { present = e.end }) e.timer.kind e.timer.key) w

-- ---- what machines do that moves an end alone

-- Data of a source whose keepalive timer runs touches nothing by restarting it.
abbrev pub KeepaliveAgain : Type 0
KeepaliveAgain = (s : State) → IsOrdered s → (g src : ℕ) → is_kept_alive s g src ≡ true
    → AgreesBut (touching []) s (with_keepalive s g src)

-- A repeated Assert of the winner that the router lost to, with the metric that it had, touches nothing.
abbrev pub LosesAgain : Type 0
LosesAgain = (s : State) → IsOrdered s → (k : Key) (r : AssertRow) (theirs : AssertMetric)
    → row_at s.asserts k ≡ Some r → is_loser (Some r) ≡ true → same_metric r.winner theirs ≡ true
    → AgreesBut (touching []) s (loses s k theirs)
