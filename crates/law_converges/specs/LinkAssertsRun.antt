-- Two routers that both won the assert of a group on a link, of which one is left; computed by the kernel.
use Rattle.std.{specs.Prelude.{List, Some, [], true, ℕ, ◌++◌, ◌∷◌, ◌≡◌}}
use Rattle.pim_types.{specs.{declared.{config.Config.Config, event.Event.Event, fact.AssertMetric.AssertMetric}}}
use Rattle.pim_wire.{specs.declared.join_prune.EntryKind.EntryKind}
use Rattle.pim_model.{specs.{Messages.entry, Network.{At, Deliver, Move, Network, Sent, Station, moved}, Sets.metric_of}}
use Rattle.law_streams.{specs.{Adjacent.Adjacent, Joins.join_packet}}
use Rattle.pim_runs.{specs.{Base.{base, group, interface, opening_events, route_by, rp, rp_network}, Packets.{hello_of_10_0_0_1, hello_of_10_0_1_3}, ServedChain.{hello_from, station}, Words.{address, frame, up}}}
use Rattle.law_converges.{specs.LinkAsserts.{AnswersBy, CanGiveWay, IsToldOff, LosesTo, assert_packet}}

-- a router on the link, whose next hop is now one and now the other of the two
abbrev pub below : ℕ
below = address 10 0 1 3

-- its Join, and an Assert of the group with preference 110
abbrev pub joins_over : ℕ → List ℕ
joins_over to = join_packet below to group (entry EntryKind.Star rp) []

abbrev pub claim : (from metric : ℕ) → List ℕ
claim from metric = assert_packet from group 0 (metric_of true 110 metric from)

-- the second one is further away from the RP
abbrev pub farther : Config
farther = record base {
  interfaces = interface (address 10 0 1 2) ∷ interface (address 10 0 0 3) ∷ [];
  routes = record (route_by 1 (address 10 0 0 1) rp_network) { metric = 21 } ∷ [];
}

-- each wins against a worse Assert
abbrev pub nearer_events : List Event
nearer_events = opening_events ++ frame 1 hello_of_10_0_1_3 ∷ frame 1 (joins_over (address 10 0 1 1)) ∷ frame 1 (claim below 22) ∷ []

abbrev pub farther_events : List Event
farther_events =
    up 7 0 ∷ up 7 1 ∷ frame 1 hello_of_10_0_0_1 ∷ frame 0 hello_of_10_0_1_3 ∷ frame 0 (hello_from (address 10 0 1 1))
    ∷ frame 0 (joins_over (address 10 0 1 2)) ∷ frame 0 (claim below 22) ∷ []

abbrev pub farther_station : Station
farther_station = station (1 ∷ 10 ∷ []) farther farther_events

abbrev pub two_winners : Network
two_winners = record { stations = station (10 ∷ 1 ∷ 12 ∷ []) base nearer_events ∷ farther_station ∷ []; frames = [] }

abbrev pub beside : Adjacent
beside = record { lower = 0; iface = 1; link = 1; upper = 1; down = 0; address = address 10 0 1 1 }

-- the nearer one's metric
abbrev pub better : AssertMetric
better = metric_of true 110 20 (address 10 0 1 1)

-- the farther one's Assert comes to the nearer one
abbrev pub claims : Move
claims = At 0 (frame 1 (claim (address 10 0 1 2) 21))

abbrev pub NearerAnswers : Type 0
NearerAnswers = AnswersBy group 0 better beside two_winners claims

abbrev pub answer_sent : Sent
answer_sent = record { link = Some 1; bytes = assert_packet (address 10 0 1 1) group 0 better }

-- Its answer is the one frame that leaves, and by its delivery the farther one has lost.
abbrev pub FartherLoses : Type 0
FartherLoses =
    IsToldOff group 0 better beside two_winners (moved two_winners claims).1
    × (((moved two_winners claims).1).frames ≡ answer_sent ∷ [])
    × CanGiveWay group 0 better beside farther_station
    × LosesTo group 0 better beside farther_station (moved (moved two_winners claims).1 (Deliver 1 0 1 7)).1
