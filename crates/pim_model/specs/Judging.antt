-- The judgement of an event, before anything changes: how it is read, its tests in their order, and what the router is
-- then to act on. An event that is refused or ignored changes nothing. Sections are those of RFC 7761.
use Rattle.std.{specs.Prelude.{Bool, Err, List, Ok, Result, false, if◌then◌else◌, length, nat_le, nat_lt, not, true, ℕ, ◌&&◌, ◌==◌, ◌^◌}}
use Rattle.pim_ip.{specs.{Addr.addr, Ipv4.{Packet, all_pim_routers, frame_limit, ipv4_reading, is_link_local, is_multicast, protocol_igmp, protocol_pim}, declared.refusal.Refusal.Refusal}}
use Rattle.pim_types.{specs.declared.{config.{IfaceId.IfaceId, Route.Route, RpCandidate.RpCandidate, RpRange.RpRange}, event.EventKind.EventKind, outcome.{Ignored.Ignored, Stop.Stop}}}
use Rattle.pim_wire.{specs.{Messages.pim_reading, RegisterParts.registered_group, Values.{JoinPrune, Register}, declared.{assert.Assert.Assert as AssertMessage, hello.Hello.Hello as HelloValue, register.RegisterStop.RegisterStop, view.PimView.PimView}}}
use Rattle.igmp_wire.{specs.{Messages.igmp_reading, declared.view.IgmpView.IgmpView}}
use Rattle.pim_model.{specs.{Hellos.hello_holdtime_of, Limits.{are_candidates, are_routes, are_rps}, Neighbours.is_neighbour, State.{State, iface_count, is_own, is_up, my_address}, Unicast.{is_rp, with_candidates, with_ranges}, declared.accepted.Accepted.Accepted}}

-- an accepted event, or why it is refused or ignored
abbrev pub Judged : Type 0
Judged = Result Accepted Stop

-- the event is refused if the condition holds; else the next test follows
abbrev pub refuse_if : Bool → Refusal → Result (Unit {0}) Stop
refuse_if true refusal = Err (Stop.Refuse refusal)
refuse_if false refusal = Ok tt

-- the event is ignored for a reason if the condition holds; else the next test follows
abbrev pub ignore_if : Bool → Ignored → Result (Unit {0}) Stop
ignore_if true reason = Err (Stop.Ignore reason)
ignore_if false reason = Ok tt

-- the second test where the first one passed, else what stopped at the first
infixr 20 ◌>>◌
-- two tests of an event in their order: the second counts where the first holds
abbrev pub ◌>>◌ : {A : Type 0} → Result (Unit {0}) Stop → Result A Stop → Result A Stop
◌>>◌ (Ok held) next = next
◌>>◌ (Err stop) next = Err stop

-- the judgement of a value that was read, or the refusal of what can't be read
abbrev pub of_read : {A B : Type 0} → Result A Refusal → (A → Result B Stop) → Result B Stop
of_read (Ok a) next = next a
of_read (Err refusal) next = Err (Stop.Refuse refusal)

-- ---- a packet on a link

-- a Hello from a link; one with holdtime 0 from no neighbour is ignored (4.3.2)
unfoldable pub hello_judged : State → IfaceId → ℕ → HelloValue → Judged
hello_judged s i from h =
    ignore_if ((hello_holdtime_of h == 0) && not (is_neighbour s i.number from)) Ignored.NoNeighbour
    >> Ok (Accepted.Hello i (addr from) h)

-- a Join/Prune from a neighbour on a link (4.5), to the router or to another
unfoldable pub join_prune_judged : State → IfaceId → ℕ → JoinPrune → Judged
join_prune_judged s i from m =
    ignore_if (not (is_neighbour s i.number from)) Ignored.NoNeighbour
    >> Ok (if m.upstream == my_address s i.number then Accepted.JoinPruneToMe i m else Accepted.JoinPruneSeen i m)

-- an Assert from a neighbour on a link (4.6), about one group that isn't link-local
unfoldable pub assert_judged : State → IfaceId → ℕ → AssertMessage → Judged
assert_judged s i from a =
    ignore_if (not (a.mask_length == 32)) Ignored.Mask
    >> ignore_if (is_link_local a.group.bits) Ignored.LinkLocal
    >> ignore_if (not (is_neighbour s i.number from)) Ignored.NoNeighbour
    >> Ok (Accepted.Assert i (addr from) a)

-- a PIM message on a link; Registers and Register-Stops come by unicast (4.9)
unfoldable pub pim_judged : State → IfaceId → ℕ → PimView → Judged
pim_judged s i from (PimView.Hello h) = hello_judged s i from h
pim_judged s i from (PimView.JoinPrune m) = join_prune_judged s i from m
pim_judged s i from (PimView.Assert a) = assert_judged s i from a
pim_judged s i from PimView.Other = Err (Stop.Ignore Ignored.OtherType)
pim_judged s i from (PimView.Register r) = Err (Stop.Ignore Ignored.NotForMe)
pim_judged s i from (PimView.RegisterStop r) = Err (Stop.Ignore Ignored.NotForMe)

-- a PIM message on a link: it is read whole first, and then judged (4.9)
unfoldable pub pim_message_judged : State → IfaceId → Packet → Judged
pim_message_judged s i p =
    of_read (pim_reading p.payload) (λ m. ignore_if (is_own s p.source) Ignored.Own >> pim_judged s i p.source m)

-- an IGMP message that is accepted: a query, or a report
abbrev pub igmp_accepted : IfaceId → ℕ → IgmpView → Accepted
igmp_accepted i from (IgmpView.Query q) = Accepted.Query i (addr from) q
igmp_accepted i from (IgmpView.Report records) = Accepted.Report i records

-- an IGMP message: from another router or a host, to a group
unfoldable pub igmp_judged : State → IfaceId → Packet → IgmpView → Judged
igmp_judged s i p m =
    ignore_if (is_own s p.source) Ignored.Own
    >> ignore_if (not (is_multicast p.destination)) Ignored.NotForMe
    >> Ok (igmp_accepted i p.source m)

-- an IGMP message on a link: it is read whole first, and then judged
unfoldable pub igmp_message_judged : State → IfaceId → Packet → Judged
igmp_message_judged s i p = of_read (igmp_reading p.payload) (igmp_judged s i p)

-- a packet of data, to a group that isn't link-local
unfoldable pub data_judged : State → IfaceId → Packet → Judged
data_judged s i p =
    ignore_if (is_own s p.source) Ignored.Own
    >> ignore_if (not (is_multicast p.destination)) Ignored.NotForMe
    >> ignore_if (is_link_local p.destination) Ignored.LinkLocal
    >> Ok (Accepted.Data i p)

-- protocol 103 to ALL-PIM-ROUTERS is PIM (4.9), protocol 2 IGMP, and the rest data
unfoldable pub packet_judged : State → IfaceId → Packet → Judged
packet_judged s i p =
    if (p.protocol == protocol_pim) && (p.destination == all_pim_routers)
    then pim_message_judged s i p
    else (if p.protocol == protocol_igmp then igmp_message_judged s i p else data_judged s i p)

-- a packet on a link, of at most 1500 bytes; longer ones are refused
unfoldable pub frame_judged : State → IfaceId → List ℕ → Judged
frame_judged s i bytes =
    refuse_if (nat_le (iface_count s) i.number) Refusal.NoInterface
    >> refuse_if (not (is_up s i.number)) Refusal.InterfaceDown
    >> refuse_if (nat_lt frame_limit (length bytes)) Refusal.BadLength
    >> of_read (ipv4_reading bytes) (packet_judged s i)

-- ---- a packet to the router's own address

-- a Register (4.4.2), about a group that isn't link-local
unfoldable pub register_judged : Packet → Register → Judged
register_judged p r = ignore_if (is_link_local (registered_group r)) Ignored.LinkLocal >> Ok (Accepted.Register p r)

-- a Register-Stop about one group (4.4.1); here: from RP(G)
unfoldable pub register_stop_judged : State → ℕ → RegisterStop → Judged
register_stop_judged s from r =
    ignore_if (not (r.mask_length == 32)) Ignored.Mask
    >> ignore_if (not (is_rp s r.group.bits from)) Ignored.NotRp
    >> Ok (Accepted.RegisterStop (addr from) r)

-- a PIM message by unicast
unfoldable pub pim_to_me_judged : State → Packet → PimView → Judged
pim_to_me_judged s p (PimView.Register r) = register_judged p r
pim_to_me_judged s p (PimView.RegisterStop r) = register_stop_judged s p.source r
pim_to_me_judged s p _ = Err (Stop.Ignore Ignored.NotForMe)

-- a PIM message by unicast to an address of the router
unfoldable pub unicast_packet_judged : State → Packet → Judged
unicast_packet_judged s p =
    if p.protocol == protocol_pim
    then of_read (pim_reading p.payload) (λ m.
    ignore_if (not (is_own s p.destination)) Ignored.NotForMe >> pim_to_me_judged s p m)
    else Err (Stop.Ignore Ignored.NotForMe)

-- a packet by unicast, of at most 1528 bytes; longer ones are refused
unfoldable pub unicast_judged : State → List ℕ → Judged
unicast_judged s bytes = of_read (ipv4_reading bytes) (unicast_packet_judged s)

-- ---- interfaces, time, routes, RP ranges and candidate RPs

-- Up of a configured interface that is down
unfoldable pub up_judged : State → IfaceId → Judged
up_judged s i =
    refuse_if (nat_le (iface_count s) i.number) Refusal.NoInterface
    >> ignore_if (is_up s i.number) Ignored.Already
    >> Ok (Accepted.Up i)

-- Down of a configured interface that is up
unfoldable pub down_judged : State → IfaceId → Judged
down_judged s i =
    refuse_if (nat_le (iface_count s) i.number) Refusal.NoInterface
    >> ignore_if (not (is_up s i.number)) Ignored.Already
    >> Ok (Accepted.Down i)

-- the latest timestamp that an event may have, in ms
abbrev pub last_moment : ℕ
last_moment = 2 ^ 62

-- an Advance to a timestamp that isn't past, nor later than the latest
unfoldable pub advance_judged : State → ℕ → Judged
advance_judged s moment =
    refuse_if (nat_lt moment s.present) Refusal.MomentBack
    >> refuse_if (nat_lt last_moment moment) Refusal.MomentFar
    >> Ok (Accepted.Advance moment)

-- new routes that pass their tests
unfoldable pub routes_judged : State → List Route → Judged
routes_judged s routes =
    refuse_if (not (are_routes s.configured routes)) Refusal.BadRoutes >> Ok (Accepted.Routes routes)

-- new RP ranges that pass their tests; the candidates stay
unfoldable pub rps_judged : State → List RpRange → Judged
rps_judged s ranges =
    refuse_if (not (are_rps ranges)) Refusal.BadRps >> Ok (Accepted.Rps (with_ranges s.ranges ranges))

-- new candidate RPs that pass their tests; the RP ranges stay
unfoldable pub candidates_judged : State → List RpCandidate → Judged
candidates_judged s candidates =
    refuse_if (not (are_candidates candidates)) Refusal.BadCandidates
    >> Ok (Accepted.Rps (with_candidates s.ranges candidates))

-- ---- events

-- the judgement of each kind of event
unfoldable pub judged : State → EventKind → Judged
judged s (EventKind.Advance moment) = advance_judged s moment
judged s (EventKind.Frame i bytes) = frame_judged s i bytes
judged s (EventKind.Unicast bytes) = unicast_judged s bytes
judged s (EventKind.Up i) = up_judged s i
judged s (EventKind.Down i) = down_judged s i
judged s (EventKind.Routes routes) = routes_judged s routes
judged s (EventKind.Rps rps) = rps_judged s rps
judged s (EventKind.RpCandidates candidates) = candidates_judged s candidates
