-- Two routers on a link below a third. One repeats its Join, which the other sees, so that it holds its own back.
use Rattle.std.specs.Prelude.{List, Some, [], length, unwrap_or, ℕ, ◌++◌, ◌∷◌, ◌≡◌}
use Rattle.pim_ip.{specs.Ipv4.igmp_packet_text}
use Rattle.igmp_wire.{specs.Reports.report_text}
use Rattle.pim_types.{specs.declared.{config.Config.Config, event.Event.Event}}
use Rattle.pim_wire.{specs.declared.join_prune.EntryKind.EntryKind}
use Rattle.pim_model.{specs.{Messages.entry, Network.{At, Deliver, Move, Network, Station, network_ran, station_at}, Tables.{hop_at, row_at}}}
use Rattle.pim_runs.{specs.{Base.interface, Words.{address, advance, frame, up}, InTime.{joined, late, started}, ServedChain.{asked_group, first, first_meets, hello_from, report, request, root, second, second_meets, station}}}
use Rattle.law_streams.{specs.{Joins.join_packet, InTimeJoins.{Always, IsHeld, Pair, join_key}, Shared.AreOnLink}}

-- the first router and the second are those of the chain; the other one has a link of hosts of its own
abbrev pub other_address : ℕ
other_address = address 10 0 1 3

abbrev pub other : Config
other = record first { interfaces = interface (address 10 0 4 1) ∷ interface other_address ∷ [] }

abbrev pub pair : Pair
pair = record { lower = 0; upper = 1; link = 1; hop = hop_at 1 (address 10 0 1 2); from = address 10 0 1 1; down = 0 }

abbrev pub join_from : ℕ → Event
join_from from = frame 0 (join_packet from (address 10 0 1 2) asked_group (entry EntryKind.Star root) [])

-- a host of the other one asks at one second, a host of the first at two; the other one's minute is all but over
abbrev pub other_asked : List Event
other_asked =
    up 7 0 ∷ up 7 1 ∷ frame 1 (hello_from (address 10 0 1 2)) ∷ frame 1 (hello_from (address 10 0 1 1)) ∷ advance 1000
    ∷ frame 0 (igmp_packet_text (address 10 0 4 9) (address 224 0 0 22) (report_text (request ∷ [])))
    ∷ advance 60999 ∷ []

abbrev pub first_asked : List Event
first_asked = first_meets ++ (frame 1 (hello_from other_address) ∷ advance 2000 ∷ report ∷ advance 61000 ∷ [])

abbrev pub second_joined : List Event
second_joined =
    second_meets
    ++ (frame 0 (hello_from other_address) ∷ advance 1000 ∷ join_from other_address
    ∷ advance 2000 ∷ join_from (address 10 0 1 1) ∷ advance 61000 ∷ [])

abbrev pub three : Network
three = record {
  stations =
      station (3 ∷ 1 ∷ []) first first_asked ∷ station (1 ∷ 2 ∷ []) second second_joined
      ∷ station (4 ∷ 1 ∷ []) other other_asked ∷ [];
  frames = [];
}

-- the other one's Join timer expires, and the Join that leaves is delivered to both
abbrev pub shares : List Move
shares = At 2 (advance 61000) ∷ Deliver 1 0 1 7 ∷ Deliver 0 1 1 9 ∷ []

-- each frame is sent at 61 seconds
abbrev pub sent : ℕ → ℕ
sent number = 61000

abbrev pub JoinIsOverheardInTime : Type 0
JoinIsOverheardInTime = AreOnLink joined asked_group late started sent pair (length three.frames) three shares

abbrev pub first_at_end : Station
first_at_end =
    unwrap_or (station_at (network_ran three shares).1 0) (station (3 ∷ 1 ∷ []) first first_asked)

-- The first router sends its own Join no sooner than 66 seconds, with the draw of 9 ms more, after it saw the other one's.
abbrev pub JoinIsSuppressed : Type 0
JoinIsSuppressed = row_at (first_at_end.state).join_timers (join_key joined 0 asked_group) ≡ Some (record { end = 127009 })

-- yet the second holds what it joins, all the while
abbrev pub SharedStaysHeld : Type 0
SharedStaysHeld = Always (IsHeld joined asked_group pair) three shares
