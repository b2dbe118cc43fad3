-- Worked runs of the forwarding cache: what its rows answer, and which packets they decide.
use Rattle.std.{specs.Prelude.{Bool, List, None, Option, Some, [], false, map, option_map, true, ℕ, ◌++◌, ◌+◌, ◌∷◌, ◌≡◌}}
use Rattle.pim_ip.{specs.Addr.addr}
use Rattle.pim_types.{specs.declared.config.{Config.Config, Route.Route}}
use Rattle.pim_rows.{specs.{declared.table.{Row.Row, Table.Table}, Printed.rows}}
use Rattle.pim_model.{specs.{Cache.{Answers, Plain, cached, plain}, Sets.members, State.State, Step.{run, state_after}, Tables.below}}
use Rattle.pim_runs.{specs.{Base.{after, base, base_routes, group, host, opened_with, prefix, route_by, rp_network, source, source_network}, Packets.{allow_source, copy_on_1, data_from, hello_of_10_0_2_9, host_packet, join_host_forever, join_source, join_source_200, join_source_forever, packet, prune_source_up, register_stop_received, to_exclude}, Words.{address, advance, done_with_copies, down, frame, join_prunes, routes_to, unicast_drawn}}}

-- ---- what is looked at

-- What is shown of a row: immediate, inherited and inherited (S,G,rpt), the tunnel, the interface of the source's
-- route, SPTbit.
pub record SeenRow : Type 0 where
  pub immediate : List ℕ
  pub inherited : List ℕ
  pub inherited_rpt : List ℕ
  pub tunnel : Bool
  pub rpf : Option ℕ
  pub spt : Bool

-- a row with one list as immediate and inherited outgoing list, no list of (S,G,rpt), and no tunnel
abbrev pub seen_row : List ℕ → ℕ → Bool → Option SeenRow
seen_row list rpf spt = Some (record {
  immediate = list;
  inherited = list;
  inherited_rpt = [];
  tunnel = false;
  rpf = Some rpf;
  spt = spt;
})

abbrev pub row_seen_in : State → Answers → SeenRow
row_seen_in s r = record {
  immediate = members s r.immediate;
  inherited = members s r.inherited;
  inherited_rpt = members s r.inherited_rpt;
  tunnel = r.has_tunnel;
  rpf = r.rpf;
  spt = r.spt;
}

abbrev pub seen_of : State → ℕ → Option SeenRow
seen_of s src = option_map (row_seen_in s) (cached s group src)

-- a packet's way: whether it sets the keepalive timer, and the interfaces that it leaves on
abbrev pub Way : Type 0
Way = Bool × List ℕ

-- what a row says of a packet on an interface, with this TTL: its way where it is plain; nothing where there is no row
abbrev pub decided_of : State → ℕ → ℕ → ℕ → Option (Option Way)
decided_of s src i ttl =
    option_map (λ (r : Answers). option_map (λ (p : Plain). (p.keeps, members s p.list)) (plain r i ttl)) (cached s group src)

abbrev pub goes : Bool → List ℕ → Option (Option Way)
goes keeps list = Some (Some (keeps, list))

-- the source has a row, and the packet isn't plain
abbrev pub not_plain : Option (Option Way)
not_plain = Some None

abbrev pub no_row : Option (Option Way)
no_row = None

-- ---- states

-- the printed row of a source with SPTbit and without a register
abbrev pub active : ℕ → Option ℕ → Row
active src keepalive = Row.Active (addr group) (addr src) keepalive true None

-- the source is joined on 1, and a packet of it came
abbrev pub joined_and_sent : State
joined_and_sent = after (frame 1 join_source ∷ frame 0 packet ∷ [])

-- a host was registered, and the RP stopped that
abbrev pub register_stopped : State
register_stopped = after (frame 2 host_packet ∷ unicast_drawn 60000 register_stop_received ∷ [])

-- the base, with the route to the RP over 1
abbrev pub rp_on_1 : Config
rp_on_1 = record base {
  routes = route_by 1 (address 10 0 1 2) rp_network ∷ route_by 0 (address 10 0 0 1) source_network ∷ [];
}

-- the base's routes, and one to 10.0.3.128/25 over 2
abbrev pub with_longer_route : List Route
with_longer_route = base_routes ++ route_by 2 (address 10 0 2 9) (prefix (address 10 0 3 128) 25) ∷ []

-- ---- rows

-- A source that is joined on 1 has a row once it sends; its next packet is plain, and leaves there. Another source of
-- the group has none.
abbrev pub JoinedSourceIsCached : Type 0
JoinedSourceIsCached =
    (seen_of (after (frame 1 join_source ∷ [])) source ≡ None)
    × (seen_of joined_and_sent source ≡ seen_row (1 ∷ []) 0 true)
    × (decided_of joined_and_sent source 0 64 ≡ goes true (1 ∷ []))
    × (run joined_and_sent (frame 0 packet ∷ []) ≡ done_with_copies 1 (copy_on_1 ∷ []) ∷ [])
    × (seen_of joined_and_sent (source + 1) ≡ None)

abbrev pub a_second_later : State
a_second_later = state_after joined_and_sent (advance 1000 ∷ [])

-- A plain packet leaves as a copy, and moves its source's keepalive timer.
abbrev pub PlainPacketMovesItsTimer : Type 0
PlainPacketMovesItsTimer =
    (decided_of a_second_later source 0 64 ≡ goes true (1 ∷ []))
    × (run a_second_later (frame 0 packet ∷ []) ≡ done_with_copies 1 (copy_on_1 ∷ []) ∷ [])
    × (rows (state_after a_second_later (frame 0 packet ∷ [])) Table.Active ≡ active source (Some 211000) ∷ [])

-- joined on 1 without an end, sent once, and silent until the keepalive timer ended
abbrev pub joined_and_silent : State
joined_and_silent = after (frame 1 join_source_forever ∷ frame 0 packet ∷ advance 210000 ∷ [])

-- A plain packet may also start the timer of a source that has only its SPTbit.
abbrev pub PlainPacketStartsTheTimer : Type 0
PlainPacketStartsTheTimer =
    (rows joined_and_silent Table.Active ≡ active source None ∷ [])
    × (seen_of joined_and_silent source ≡ seen_row (1 ∷ []) 0 true)
    × (decided_of joined_and_silent source 0 64 ≡ goes true (1 ∷ []))
    × (rows (state_after joined_and_silent (frame 0 packet ∷ [])) Table.Active
    ≡ active source (Some 420000) ∷ [])

-- packets of 10.0.3.6 to 10.0.3.205, which nobody joined
abbrev pub flooded : State
flooded = state_after joined_and_sent (map (λ n. frame 0 (data_from (n + 6))) (below 200))

-- Other events make no row, and the one row is unchanged.
abbrev pub OthersMakeNoRow : Type 0
OthersMakeNoRow =
    (rows flooded Table.Active ≡ active source (Some 210000) ∷ [])
    × (seen_of flooded source ≡ seen_row (1 ∷ []) 0 true)
    × (decided_of flooded source 0 64 ≡ goes true (1 ∷ []))

-- two sources are joined on 1 and send, and 10.0.2.9 is a neighbour on 2
abbrev pub two_sent : State
two_sent = after
    (frame 2 hello_of_10_0_2_9 ∷ frame 1 join_source ∷ frame 1 join_source_200 ∷ frame 0 packet ∷ frame 0 (data_from 200) ∷ [])

-- A longer route moves one of two rows to 2.
abbrev pub LongerRouteMovesOneRow : Type 0
LongerRouteMovesOneRow =
    (seen_of two_sent (source + 195) ≡ seen_row (1 ∷ []) 0 true)
    × (seen_of (state_after two_sent (routes_to with_longer_route ∷ [])) (source + 195) ≡ seen_row (1 ∷ []) 2 true)
    × (seen_of (state_after two_sent (routes_to with_longer_route ∷ [])) source ≡ seen_row (1 ∷ []) 0 true)

-- The state after a receiver on 2 requested the source, which sends.
abbrev pub asked_and_sent : State
asked_and_sent = after (frame 2 allow_source ∷ frame 0 packet ∷ [])

-- A better DR comes on 2, and all that the router did there for the receiver ends.
abbrev pub BetterDrEmptiesTheRow : Type 0
BetterDrEmptiesTheRow =
    (seen_of asked_and_sent source ≡ seen_row (2 ∷ []) 0 true)
    × (seen_of (state_after asked_and_sent (frame 2 hello_of_10_0_2_9 ∷ [])) source ≡ seen_row [] 0 false)
    × (map join_prunes (run asked_and_sent (frame 2 hello_of_10_0_2_9 ∷ [])) ≡ (prune_source_up ∷ []) ∷ [])

-- The link that joined goes down: the row is empty while the keepalive timer runs, and gone with it.
abbrev pub DownEmptiesTheRow : Type 0
DownEmptiesTheRow =
    (seen_of (state_after joined_and_sent (down 1 ∷ [])) source ≡ seen_row [] 0 false)
    × (map join_prunes (run joined_and_sent (down 1 ∷ [])) ≡ (prune_source_up ∷ []) ∷ [])
    × (seen_of (state_after joined_and_sent (down 1 ∷ advance 209999 ∷ [])) source ≡ seen_row [] 0 false)
    × (seen_of (state_after joined_and_sent (down 1 ∷ advance 210000 ∷ [])) source ≡ None)

-- ---- packets of each kind that aren't plain

-- A source without a fact has no row to decide its packets.
abbrev pub UnknownIsNotPlain : Type 0
UnknownIsNotPlain = decided_of joined_and_sent (source + 1) 0 64 ≡ no_row

-- receivers on 2, and the source sent once
abbrev pub watched_source : State
watched_source = after (frame 2 to_exclude ∷ frame 0 packet ∷ [])

-- The packet that sets SPTbit isn't plain, and the next is.
abbrev pub SptBitIsSetOnce : Type 0
SptBitIsSetOnce =
    (decided_of watched_source source 0 64 ≡ not_plain)
    × (decided_of (state_after watched_source (frame 0 packet ∷ [])) source 0 64 ≡ goes true (2 ∷ []))

-- A registered packet isn't plain, but where its TTL has run out, or the RP stopped the Registers.
abbrev pub RegisteredIsNotPlain : Type 0
RegisteredIsNotPlain =
    (decided_of (after (frame 2 host_packet ∷ [])) host 2 64 ≡ not_plain)
    × (decided_of (after (frame 2 host_packet ∷ [])) host 2 1 ≡ goes true [])
    × (decided_of register_stopped host 2 64 ≡ goes true [])

-- a host that is joined on 1 sent, and was silent until its keepalive timer ended
abbrev pub silent_host : State
silent_host = after (frame 1 join_host_forever ∷ frame 2 host_packet ∷ advance 210000 ∷ [])

-- The packet that opens the register tunnel isn't plain: the source has a row by its SPTbit alone.
abbrev pub OpeningIsNotPlain : Type 0
OpeningIsNotPlain =
    (rows silent_host Table.Active ≡ active host None ∷ [])
    × (seen_of silent_host host ≡ seen_row (1 ∷ []) 2 true)
    × (decided_of silent_host host 2 64 ≡ not_plain)
    × (decided_of silent_host host 2 1 ≡ not_plain)

-- Off its tree, where the router forwards the source, a packet makes it the winner of an assert, and isn't plain. The
-- next one there is dropped, as it is where the router doesn't forward.
abbrev pub StrayOfTheSourceIsNotPlain : Type 0
StrayOfTheSourceIsNotPlain =
    (decided_of joined_and_sent source 1 64 ≡ not_plain)
    × (decided_of (state_after joined_and_sent (frame 1 packet ∷ [])) source 1 64 ≡ goes false [])
    × (decided_of joined_and_sent source 2 64 ≡ goes false [])

-- A packet on a link to which the router forwards the group, while the source has no SPTbit, isn't plain.
abbrev pub StrayOfTheGroupIsNotPlain : Type 0
StrayOfTheGroupIsNotPlain =
    (decided_of watched_source source 2 64 ≡ not_plain)
    × (decided_of (state_after watched_source (frame 2 packet ∷ [])) source 2 64 ≡ goes false [])
    × (decided_of watched_source source 1 64 ≡ goes false [])

-- the RP is over 1, receivers are on 2, and a packet came by the RP
abbrev pub shared : State
shared = state_after (opened_with rp_on_1) (frame 2 to_exclude ∷ frame 1 packet ∷ [])

-- On the shared tree a packet of a watched source is plain, and sets its keepalive timer. On the source's tree it
-- sets SPTbit; from then on what comes by the RP is dropped.
abbrev pub WatchedIsPlain : Type 0
WatchedIsPlain =
    (decided_of shared source 1 64 ≡ goes true (2 ∷ []))
    × (decided_of shared source 0 64 ≡ not_plain)
    × (decided_of (state_after shared (frame 0 packet ∷ [])) source 0 64 ≡ goes true (2 ∷ []))
    × (decided_of (state_after shared (frame 0 packet ∷ [])) source 1 64 ≡ goes false [])
