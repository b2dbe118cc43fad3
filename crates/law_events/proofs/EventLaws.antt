-- What follows of an event, and of the expiry of a timer, follows of the keys that it touches.
use Rattle.std.{proofs.Common.{◌≡◌, ℕ, true, List, [], Some, refl, arith}}
use Rattle.pim_types.{specs.declared.fact.Key.Key}
use Rattle.pim_wire.{specs.Values.Register}
use Rattle.pim_model.{specs.{declared.accepted.Accepted.Accepted, Firing.{fire_once, fired, settled}, Forwarding.Forwarded, Messages.Message, State.State, Step.{change, decapsulated}, Timers.Ending}}
use Rattle.law_events.{specs.{Events.{own_change, touched_by_event}, Locality.{AgreesBut, IsQuiet, own_settled, touching}, Touches.{isnt_neighbour, touched_by}}, proofs.{Events.assert_touches, Membership.report_touches, OtherEvents.{query_touches_none, register_received_touches, register_stop_touches}, OwnKeys.present_touches_none, Packets.packet_touches, Settling.settling_is_own, SilentEvents.{seen_touches_none, timer_touches}, Touches.{agrees_then, join_prune_touches, widened}}}

-- the keys by another name
renamed : (s t : State) (these keys : List Key) → Some these ≡ Some keys → AgreesBut (touching these) s t
    → AgreesBut (touching keys) s t
renamed s t these keys e agree = grind arith

decapsulated_state : (s : State) (keys : List Key) (r : Register) (f : Forwarded) → AgreesBut (touching keys) s f.state
    → AgreesBut (touching keys) s (decapsulated r f).state
decapsulated_state s keys r f agree = grind arith

pub change_touches : (s : State) (w : ℕ) (a : Accepted) (keys : List Key) → touched_by_event s a ≡ Some keys
    → AgreesBut (touching keys) s (change s w a).state
unfolding touched_by_event change
change_touches s w (Accepted.Advance moment) keys e = cc
change_touches s w (Accepted.Up i) keys e = cc
change_touches s w (Accepted.Down i) keys e = cc
change_touches s w (Accepted.Routes routes) keys e = cc
change_touches s w (Accepted.Rps ranges) keys e = cc
change_touches s w (Accepted.Hello i from h) keys e = cc
change_touches s w (Accepted.JoinPruneToMe i m) keys e = grind (arith, renamed, join_prune_touches)
change_touches s w (Accepted.JoinPruneSeen i m) keys e = renamed s _ [] keys e (seen_touches_none s w i.number m)
change_touches s w (Accepted.Assert i from a) keys e = grind (arith, renamed, assert_touches)
change_touches s w (Accepted.Query i from q) keys e = renamed s _ [] keys e (query_touches_none s i.number from.bits q)
change_touches s w (Accepted.Report i records) keys e = grind (arith, renamed, report_touches)
change_touches s w (Accepted.Data i p) keys e = grind (arith, renamed, packet_touches)
change_touches s w (Accepted.Register p r) keys e =
    grind (arith, renamed, decapsulated_state, register_received_touches)
change_touches s w (Accepted.RegisterStop from r) keys e = grind (arith, renamed, register_stop_touches)

pub event_is_local : (s : State) → IsQuiet s → (w : ℕ) (a : Accepted) (keys : List Key)
    → touched_by_event s a ≡ Some keys
    → settled s (own_change s w a) w ≡ own_settled keys s (own_change s w a) w
event_is_local s quiet w a keys e = grind (arith, settling_is_own, change_touches)

pub firing_is_local : (s : State) → IsQuiet s → (w : ℕ) (e : Ending) → isnt_neighbour e.timer.kind ≡ true
    → fire_once w s e
    ≡ own_settled (touched_by e.timer.kind e.timer.key) s
    (fired (record s { present = e.end }) e.timer.kind e.timer.key) w
unfolding fire_once
firing_is_local s quiet w e is =
    let keys : List Key = touched_by e.timer.kind e.timer.key in
    let opened : State = record s { present = e.end } in
    let change : State × List Message = fired opened e.timer.kind e.timer.key in
    settling_is_own keys s quiet change w
    (agrees_then (touching keys) s opened change.0 (widened [] keys s opened refl (present_touches_none s e.end))
    (timer_touches opened e.timer.key e.timer.kind is))
