-- The reach of an event: the sources with a fact of which a row, or a route, differs between two of the states that the
-- event passes through. The reach of an Advance is the reaches of the timers that expire, one after the other.
use Rattle.std.{specs.{List.list_any, Prelude.{Bool, Err, List, Ok, [], false, filter, if◌then◌else◌, length, not, ℕ, ◌&&◌, ◌++◌, ◌+◌, ◌-◌, ◌||◌, ◌∷◌}}}
use Rattle.pim_types.{specs.{Keys.{group_in, is_of_group, is_star, names_source, source_in}, declared.{event.Event.Event, fact.Key.Key}}}
use Rattle.pim_model.{specs.{Clearing.{Cleared, clear, clearable_count, cleared, to_clear}, Firing.{fire_once, fired}, Full.is_full, Judging.{Judged, judged}, Registers.settle_registers, Repeat.until_none, Rows.{same_assert, same_both, same_downstream, same_group_record, same_interface, same_neighbour, same_path, same_register, same_rows, same_source, same_source_record}, State.State, Step.change, Tables.{Table, has_row, keys_in, rows_where, same_option}, Timers.{Ending, next_due, timers}, Unicast.{route, rp_of, rp_route}, declared.accepted.Accepted.Accepted}}

-- ---- two states

-- the key is of (*,G), on some interface
abbrev pub names_star : ℕ → Key → Bool
names_star g k = is_of_group g k && is_star k

-- no row differs whose key passes the test
abbrev pub alike_where : {R : Type 0} → (R → R → Bool) → (Key → Bool) → Table R → Table R → Bool
alike_where same test t u = same_rows same (rows_where test t) (rows_where test u)

-- for a source no row of (S,G) or (S,G,rpt) differs, no group record, no downstream or assert row of (*,G), and none of
-- route(S), RP(G) and route(RP(G))
unfoldable pub agrees_for_source : ℕ → ℕ → State → State → Bool
agrees_for_source g src s t =
    alike_where same_source_record (names_source g src) s.source_records t.source_records
    && alike_where same_downstream (names_source g src) s.downstream t.downstream
    && alike_where same_assert (names_source g src) s.asserts t.asserts
    && alike_where same_source (names_source g src) s.sources t.sources
    && alike_where same_register (names_source g src) s.registers t.registers
    && alike_where same_group_record (names_star g) s.group_records t.group_records
    && alike_where same_downstream (names_star g) s.downstream t.downstream
    && alike_where same_assert (names_star g) s.asserts t.asserts
    && same_both same_path (route s src) (route t src) && same_option (rp_of s g) (rp_of t g)
    && same_both same_path (rp_route s g) (rp_route t g)

-- no interface row and no neighbour row differs
unfoldable pub keeps_neighbours : State → State → Bool
keeps_neighbours s t =
    same_rows same_interface s.interfaces t.interfaces && same_rows same_neighbour s.neighbours t.neighbours

-- ---- the states that a change passes through

-- the state after a fact that goes
abbrev pub to_next : State → Cleared → State × List State
to_next s c = let next : State = (cleared s c).0 in (next, next ∷ [])

-- the opening, the state after the event's own change, that with the registers settled, and the states after each fact
-- that goes
unfoldable pub passes : State → State → List State
passes o changed =
    let settled : State = settle_registers changed in
    let clearings : State × List State = until_none (to_clear o) to_next (clearable_count settled) settled in
    o ∷ changed ∷ settled ∷ clearings.1

-- two of the states differ for the source
unfoldable pub differs_among : ℕ → ℕ → List State → Bool
differs_among g src [] = false
differs_among g src (s ∷ later) =
    list_any (λ t. not (agrees_for_source g src s t)) later || differs_among g src later

-- ---- reach

-- the sources with a fact before or after
unfoldable pub with_facts : State → State → List Key
with_facts o a = keys_in o.sources ++ filter (λ k. not (has_row o.sources k)) (keys_in a.sources)

-- the reach of an event or of the expiry of a timer, by its opening and its own change
unfoldable pub reach : State → State → List Key
reach o changed =
    filter (λ k. differs_among (group_in k) (source_in k) (passes o changed)) (with_facts o (clear o changed).0)

-- ---- firings

-- the own change of a timer that expires
unfoldable pub own_firing : State → Ending → State
own_firing s e = (fired (record s { present = e.end }) e.timer.kind e.timer.key).0

-- what is listed for each timer that expires, by the opening and the own change; the timers expire as in `fire_all`
module _ {X : Type 0} (told : State → State → List X) (w : ℕ) where
  unfoldable pub told_once : State → Ending → State × List X
  told_once s e = ((fire_once w s e).0, told s (own_firing s e))

  unfoldable pub told_instant : State → Ending → State × List X
  told_instant s e = until_none (next_due e.end) told_once (length (timers s) + 1) s

  unfoldable pub told_all : ℕ → State → State × List X
  told_all moment s = until_none (next_due moment) told_instant (moment + 2 - s.present) s

-- the reach of an accepted event; that of an Advance is the reaches of the timers that expire, one after the other, so
-- that a source is in it once for each timer that reaches it
unfoldable pub reach_of : State → ℕ → Accepted → List Key
reach_of s w (Accepted.Advance moment) = (told_all reach w moment s).1
reach_of s w a = reach s (change s w a).state

-- what is listed for an event: nothing where it is refused or ignored, or there is no room for its facts
abbrev pub where_accepted : {X : Type 0} → State → (Accepted → List X) → Judged → List X
where_accepted s told (Err stop) = []
where_accepted s told (Ok a) = if is_full s a then [] else told a

-- the reach of an event
unfoldable pub event_reach : State → Event → List Key
event_reach s e = where_accepted s (reach_of s e.draw) (judged s e.kind)
