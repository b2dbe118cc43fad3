-- Three routers in a line, with time between the deliveries of the Joins.
use Rattle.std.{specs.Prelude.{List, Some, [], length, suc, zero, ℕ, ◌++◌, ◌∷◌, ◌≡◌}}
use Rattle.pim_model.{specs.{Network.{At, Deliver, Move, Network, moved, network_ran, station_at}, Messages.entry, State.State}}
use Rattle.pim_runs.{specs.{Words.{address, advance, frame, unicast}, ServedChain.{asked_group, chain, content, first_place, register, report, root, second_place, sender}}}
use Rattle.law_streams.{specs.{Flows.IsFlowed, Joins.join_packet, Ways.Place, HostsServed.became, Climbing.delivered, Passing.{Passes, Receiver, Tree}, Streams.{IsStreamed, NoneEndsStream, later_place}}}
use Rattle.pim_wire.{specs.declared.join_prune.EntryKind.EntryKind}

-- the moves that bring all three routers to a timestamp
abbrev pub all_at : ℕ → List Move
all_at moment = At 0 (advance moment) ∷ At 1 (advance moment) ∷ At 2 (advance moment) ∷ []

-- a host asks, and the Joins climb, with two seconds between them
abbrev pub climb : List Move
climb =
    all_at 1000 ++ At 0 report ∷ (all_at 3000 ++ Deliver 1 0 6 7 ∷ (all_at 5000 ++ Deliver 2 0 7 7 ∷ []))

abbrev pub climbed : Network
climbed = (network_ran chain climb).1

abbrev pub way : List Place
way = later_place chain climb first_place ∷ later_place chain climb second_place ∷ []

-- the tree on which each router passes the stream on: the shared tree
abbrev pub trees : ℕ → Tree
trees r = Tree.Shared

abbrev pub receivers : ℕ → Receiver
receivers zero = Receiver.Host
receivers (suc r) = Receiver.Router

abbrev pub BothRoutersPass : Type 0
BothRoutersPass = IsStreamed trees receivers asked_group sender 3 way

-- a packet of the source comes to the RP in a Register, and its copies come to the second and to the first router; each
-- is the last frame that was sent
abbrev pub at_root : Network → Network
at_root n = (moved n (At 2 (unicast register))).1

abbrev pub at_second : Network → Network
at_second n = (moved (at_root n) (Deliver 1 1 (length (at_root n).frames) 7)).1

abbrev pub packet_comes : Network → List Move
packet_comes n =
    At 2 (unicast register)
    ∷ Deliver 1 1 (length (at_root n).frames) 7 ∷ Deliver 0 1 (length (at_second n).frames) 7 ∷ []

-- the host's report, and the first and the second router's Joins, once more
abbrev pub asked_again : List Move
asked_again =
    At 0 report
    ∷ At 1 (frame 0 (join_packet (address 10 0 1 1) (address 10 0 1 2) asked_group (entry EntryKind.Star root) []))
    ∷ At 2 (frame 0 (join_packet (address 10 0 2 1) root asked_group (entry EntryKind.Star root) [])) ∷ []

abbrev pub sooner : List Move
sooner = packet_comes climbed ++ all_at 90000

-- a packet, one and a half minutes, another packet, and so long that it is more than the first Join's holdtime
abbrev pub later : List Move
later = sooner ++ (packet_comes (network_ran climbed sooner).1 ++ (asked_again ++ all_at 290000))

abbrev pub NothingEndsStream : Type 0
NothingEndsStream = NoneEndsStream trees receivers asked_group sender climbed later way

-- The next packet of the stream, in a Register, comes down to the host's link, where its TTL is 1.
abbrev pub RegisteredPacketIsServed : Type 0
RegisteredPacketIsServed =
    IsFlowed (moved (network_ran climbed later).1 (At 2 (unicast register))).1 asked_group sender 3 content 1 way

-- the second router as the Join finds it, two seconds after the report
abbrev pub asked_then : List Move
asked_then = all_at 1000 ++ At 0 report ∷ all_at 3000

abbrev pub second_then : Place
second_then = later_place chain asked_then second_place

-- After the Join the router passes the stream.
abbrev pub SecondRouterBegins : Type 0
SecondRouterBegins = (state : State)
    → station_at (delivered (network_ran chain asked_then).1 second_then 6) 1 ≡ Some (became second_then state).station
    → Passes Tree.Shared Receiver.Router state asked_group sender 1 0
