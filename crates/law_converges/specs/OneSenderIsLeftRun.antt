-- Two routers, over each of which another joined, both send a packet of the group on its link. Each hears the other's and asserts, and the nearer
-- one answers the other's Assert. Computed by the kernel.
use Rattle.std.{specs.Prelude.{List, Some, [], if◌then◌else◌, nat_le, slice_get, true, unwrap_or, ℕ, ◌++◌, ◌-◌, ◌∷◌, ◌≡◌}}
use Rattle.pim_types.{specs.declared.{event.Event.Event, fact.AssertMetric.AssertMetric}}
use Rattle.pim_model.{specs.{Network.{At, Deliver, Move, Network, Sent, moved, network_ran}, Sets.metric_of}}
use Rattle.law_streams.{specs.InTimeJoins.Always}
use Rattle.pim_runs.{specs.{Base.{base, group, opening_events}, InTime.started, Packets.{hello_of_10_0_0_1, hello_of_10_0_1_3, packet}, ServedChain.{hello_from, station}, Words.{address, advance, frame, up}}}
use Rattle.law_converges.{specs.{Carried.{Arrivals, Traffic}, LinkAsserts.assert_packet, LinkAssertsRun.{better, farther, joins_over}, LinkDr.{Member, between}, LinkLosers.HasLostAfter, OneSender.{IsOffTree, IsSilentAfter}, OneSenderIsLeft.AreTwoSenders, OneSenderRun.copied_there, Past.HoldsPast, Settles.{Contest, HasOneSender}}}

-- ---- what was before

abbrev pub nearer_events : List Event
nearer_events = opening_events ++ frame 1 hello_of_10_0_1_3 ∷ frame 1 (joins_over (address 10 0 1 1)) ∷ advance 7 ∷ []

abbrev pub farther_events : List Event
farther_events =
    up 7 0 ∷ up 7 1 ∷ frame 1 hello_of_10_0_0_1 ∷ frame 0 hello_of_10_0_1_3 ∷ frame 0 (hello_from (address 10 0 1 1))
    ∷ frame 0 (joins_over (address 10 0 1 2)) ∷ advance 7 ∷ []

abbrev pub both_joined : Network
both_joined = record {
  stations = station (10 ∷ 1 ∷ 12 ∷ []) base nearer_events ∷ station (1 ∷ 10 ∷ []) farther farther_events ∷ [];
  frames = [];
}

-- a packet comes to each from the RP's side, and each sends it on the link
abbrev pub one_sent : Network
one_sent = (moved both_joined (At 0 (frame 0 packet))).1

abbrev pub both_sent : Network
both_sent = (moved one_sent (At 1 (frame 1 packet))).1

-- ---- the moves

-- the other's packet comes to the nearer one, which asserts
abbrev pub comes : Move
comes = Deliver 0 1 2 7

-- so does its own to the farther one, whose Assert comes to the nearer one
abbrev pub hear : List Move
hear = Deliver 1 0 1 7 ∷ Deliver 0 1 4 7 ∷ []

-- then both Asserts of that come to the farther one, which prunes the group at its next hop
abbrev pub lose : List Move
lose = Deliver 1 0 3 7 ∷ Deliver 1 0 5 7 ∷ []

-- 101 ms later another packet comes to each
abbrev pub go_on : List Move
go_on = At 0 (advance 108) ∷ At 1 (advance 108) ∷ At 1 (frame 1 packet) ∷ At 0 (frame 0 packet) ∷ []

abbrev pub moves : List Move
moves = hear ++ lose ++ go_on

abbrev pub senders : List ℕ
senders = 0 ∷ 1 ∷ 0 ∷ 1 ∷ 0 ∷ 1 ∷ 0 ∷ 0 ∷ []

abbrev pub traffic : Traffic
traffic = record { sent = λ k. if nat_le k 6 then 7 else 108; by = λ k. unwrap_or (slice_get senders (k - 1)) 1 }

abbrev pub none_came : Arrivals
none_came r i = 0

-- what is sent comes within 100 ms, and timers are no later
abbrev pub soon : ℕ
soon = 100

-- so the bound is 100 ms after the nearer one's first Assert
abbrev pub one_left : ℕ
one_left = 107

abbrev pub nearer_there : Member
nearer_there = record { router = 0; iface = 1; address = address 10 0 1 1; priority = 1 }

abbrev pub farther_there : Member
farther_there = record { router = 1; iface = 0; address = address 10 0 1 2; priority = 1 }

abbrev pub worse : AssertMetric
worse = metric_of true 110 21 (address 10 0 1 2)

-- ---- what holds

abbrev pub BothSend : Type 0
BothSend =
    AreTwoSenders group 0 better worse soon soon one_left started traffic none_came 1 (nearer_there ∷ farther_there ∷ []) nearer_there farther_there 0
    both_sent comes moves

abbrev pub both_would : Contest
both_would = record { group = group; source = 0; metric = better; link = 1; winner = nearer_there; losers = farther_there ∷ [] }

-- So 100 ms later the farther one has lost, and sends none of the next packet there.
abbrev pub FartherIsSilent : Type 0
FartherIsSilent =
    HasLostAfter group 0 better started (between 1 nearer_there farther_there) one_left both_sent (comes ∷ moves)
    × Always (IsOffTree group 0 better (between 1 nearer_there farther_there)) both_sent (comes ∷ moves)
    × IsSilentAfter group 0 started (between 1 nearer_there farther_there) one_left both_sent (comes ∷ moves)
    × HoldsPast started one_left (λ n. HasOneSender n both_would) both_sent (comes ∷ moves)

abbrev pub assert_of : ℕ → AssertMetric → Sent
assert_of from metric = record { link = Some 1; bytes = assert_packet from group 0 metric }

-- Each sends the first packet, and an Assert by the other's; the nearer one answers that of the farther one.
abbrev pub BothAssert : Type 0
BothAssert =
    (network_ran both_sent (comes ∷ hear)).1.frames
    ≡ copied_there ∷ copied_there ∷ assert_of (address 10 0 1 1) better ∷ assert_of (address 10 0 1 2) worse
    ∷ assert_of (address 10 0 1 1) better ∷ []
