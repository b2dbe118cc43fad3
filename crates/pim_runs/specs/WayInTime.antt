-- Three routers of the chain, of which the first and the second repeat their Joins in time.
use Rattle.std.{specs.Prelude.{List, [], ◌++◌, ◌∷◌}}
use Rattle.pim_types.{specs.declared.event.Event.Event}
use Rattle.pim_wire.{specs.declared.join_prune.EntryKind.EntryKind}
use Rattle.pim_model.{specs.{Messages.entry, Network.{At, Deliver, Move, Network}, Tables.hop_at}}
use Rattle.pim_runs.{specs.{Words.{address, advance, frame}, InTime.{first_events, joined, late, pair, second_events, started}, ServedChain.{asked_group, first, root, second, station, third, third_meets}}}
use Rattle.law_streams.{specs.{Joins.join_packet, InTimeJoins.{AreHeld, IsWayUp, Pair}}}

-- the RP took the second router's Join at one second
abbrev pub third_events : List Event
third_events =
    third_meets
    ++ (advance 1000 ∷ frame 0 (join_packet (address 10 0 2 1) root asked_group (entry EntryKind.Star root) [])
    ∷ advance 60999 ∷ [])

abbrev pub upper_pair : Pair
upper_pair = record { lower = 1; upper = 2; link = 2; hop = hop_at 1 root; from = address 10 0 2 1; down = 0 }

abbrev pub three : Network
three = record {
  stations =
      station (3 ∷ 1 ∷ []) first first_events ∷ station (1 ∷ 2 ∷ []) second second_events
      ∷ station (2 ∷ []) third third_events ∷ [];
  frames = [];
}

-- the Join timers expire, and the Joins that leave are delivered
abbrev pub repeats_twice : List Move
repeats_twice =
    At 0 (advance 61000) ∷ At 1 (advance 61000) ∷ Deliver 1 0 1 7 ∷ At 2 (advance 61000) ∷ Deliver 2 0 2 7 ∷ []

abbrev pub ChainJoinsInTime : Type 0
ChainJoinsInTime = IsWayUp joined asked_group late started three repeats_twice 0 (pair ∷ upper_pair ∷ [])

abbrev pub WayStaysHeld : Type 0
WayStaysHeld = AreHeld joined asked_group three repeats_twice (pair ∷ upper_pair ∷ [])
