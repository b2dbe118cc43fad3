-- The cost of an event depends on what it concerns: what follows of it is found by the keys that it touches.
use Rattle.std.{specs.Prelude.{List, None, Option, Some, [], true, ℕ, ◌++◌, ◌∷◌, ◌≡◌}}
use Rattle.pim_types.{specs.{Keys.source_key, declared.fact.Key.Key}}
use Rattle.pim_wire.{specs.RegisterParts.{registered_group, registered_source}}
use Rattle.pim_model.{specs.{declared.accepted.Accepted.Accepted, Downstream.{joined_keys, pruned_keys}, Firing.{fire_once, fired, settled}, Full.{asserted_keys, reported_groups}, Messages.Message, State.State, Step.change, Timers.Ending}}
use Rattle.law_events.{specs.{Locality.{AgreesBut, IsQuiet, own_settled, touching}, Touches.{isnt_neighbour, touched_by, packet_keys}}}

-- The keys that an event's own change touches; `None` where it concerns all groups.
unfoldable pub touched_by_event : State → Accepted → Option (List Key)
touched_by_event s (Accepted.JoinPruneToMe i m) = Some (joined_keys s i.number m ++ pruned_keys i.number m)
touched_by_event s (Accepted.JoinPruneSeen i m) = Some []
touched_by_event s (Accepted.Assert i from a) = Some (asserted_keys i.number a)
touched_by_event s (Accepted.Query i from q) = Some []
touched_by_event s (Accepted.Report i records) = Some (reported_groups i.number records)
touched_by_event s (Accepted.Data i p) = Some (packet_keys s p.destination p.source i.number)
touched_by_event s (Accepted.Register p r) = Some (source_key 0 (registered_group r) (registered_source r) ∷ [])
touched_by_event s (Accepted.RegisterStop from r) = Some (source_key 0 r.group.bits r.source.bits ∷ [])
touched_by_event s _ = None

-- An event's own change touches no keys but those of `touched_by_event`.
abbrev pub ChangeTouches : Type 0
ChangeTouches = (s : State) (w : ℕ) (a : Accepted) (keys : List Key) → touched_by_event s a ≡ Some keys
    → AgreesBut (touching keys) s (change s w a).state

-- The own change of an accepted event, with its messages.
abbrev pub own_change : State → ℕ → Accepted → State × List Message
own_change s w a = ((change s w a).state, (change s w a).messages)

-- From a quiet state all that follows of an event follows of the keys that it touches.
abbrev pub EventIsLocal : Type 0
EventIsLocal = (s : State) → IsQuiet s → (w : ℕ) (a : Accepted) (keys : List Key) → touched_by_event s a ≡ Some keys
    → settled s (own_change s w a) w ≡ own_settled keys s (own_change s w a) w

-- From a quiet state all that follows of the expiry of a timer follows of the keys that it touches.
abbrev pub FiringIsLocal : Type 0
FiringIsLocal = (s : State) → IsQuiet s → (w : ℕ) (e : Ending) → isnt_neighbour e.timer.kind ≡ true
    → fire_once w s e
    ≡ own_settled (touched_by e.timer.kind e.timer.key) s
    (fired (record s { present = e.end }) e.timer.kind e.timer.key) w
