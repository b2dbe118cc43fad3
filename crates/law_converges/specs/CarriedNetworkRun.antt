-- Two LANs and the RP: two routers are on both, and would both send what a host of the first one asks for. One wins the assert; the
-- other has a source and a host of its own, and prunes the source off the group's tree, which the first one overrides. Computed by the
-- kernel.
use Rattle.std.{specs.{List.flat_map, Prelude.{List, Some, [], true, if◌then◌else◌, length, nat_le, slice_get, unwrap_or, ℕ, ◌+◌, ◌++◌, ◌-◌, ◌==◌, ◌∷◌, ◌≡◌}}}
use Rattle.pim_ip.{specs.{Addr.addr, Ipv4.{all_pim_routers, header_text, igmp_packet_text, pim_packet_text}}}
use Rattle.pim_types.{specs.declared.{config.Config.Config, event.Event.Event, fact.AssertMetric.AssertMetric}}
use Rattle.pim_wire.{specs.{JoinPrunes.join_prune_text, Registers.register_text, declared.join_prune.EntryKind.EntryKind}}
use Rattle.igmp_wire.{specs.Reports.report_text}
use Rattle.pim_model.{specs.{Messages.entry, Network.{At, Deliver, DeliverUnicast, Move, Network, Sent, frame_at, network_ran}, Sets.metric_of, Tables.hop_at}}
use Rattle.law_streams.{specs.{InTimeJoins.{Always, Join, Star}, Joins.join_packet}}
use Rattle.pim_runs.{specs.{Base.{base, interface, route_by, rp, rp_network}, InTime.started, ServedChain.{asked_group, content, hello_from, station}, Words.{address, advance, frame, unicast, up}}}
use Rattle.law_converges.{specs.{Carried.{Arrivals, Traffic}, CarriedNetwork.{Claim, IsQuietPlan, JoinOver, Lan, Plan, WayOver, layout_of}, CarriedPrunes.{Wish, wire_of}, LinkAsserts.assert_packet, LinkDr.Member, LinkMembersRun.wish as host_wish, LinkQuerierRun.settings, LinkRpt.override_packet, LinkRptOrder.{AreInOrder, IsUnpruned, Wire}, Settles.HasSettled}}

-- ---- the routers

-- the addresses of the first router, of the second one, which also has a host's link and a source's, of the RP, and of a router that left
abbrev pub nearer_low : ℕ
nearer_low = address 10 0 1 1

abbrev pub nearer_high : ℕ
nearer_high = address 10 0 2 1

abbrev pub farther_low : ℕ
farther_low = address 10 0 1 3

abbrev pub farther_high : ℕ
farther_high = address 10 0 2 2

abbrev pub rp_high : ℕ
rp_high = address 10 0 2 9

abbrev pub gone : ℕ
gone = address 10 0 1 2

abbrev pub source_there : ℕ
source_there = address 10 0 5 9

abbrev pub nearer_config : Config
nearer_config = record base {
  interfaces = interface nearer_low ∷ interface nearer_high ∷ [];
  routes = route_by 1 rp_high rp_network ∷ [];
}

abbrev pub farther_config : Config
farther_config = record base {
  interfaces = interface farther_low ∷ interface farther_high ∷ interface (address 10 0 4 1) ∷ interface (address 10 0 5 1) ∷ [];
  routes = record (route_by 1 rp_high rp_network) { metric = 21 } ∷ [];
}

abbrev pub rp_config : Config
rp_config = record base { interfaces = interface rp_high ∷ []; routes = []; addresses = addr rp ∷ [] }

-- a host's answer, an IS_EX of no source
abbrev pub answer_on : (i from : ℕ) → Event
answer_on i from = frame i (igmp_packet_text from (address 224 0 0 22) (report_text (host_wish ∷ [])))

-- ---- what was before

-- The routers come up, and meet after 91 seconds, and again later. A router that leaves then has joined over the first one, and its
-- worse Assert has both others take themselves for the winner. Hosts ask the second one on the first LAN and on its own link. Each takes
-- itself for the querier, and the RP holds no Join.
abbrev pub joins_it : List ℕ
joins_it = join_packet gone nearer_low asked_group (entry EntryKind.Star rp) []

abbrev pub claims_it : List ℕ
claims_it = assert_packet gone asked_group 0 (metric_of true 110 22 gone)

abbrev pub nearer_meets : List Event
nearer_meets = frame 0 (hello_from farther_low) ∷ frame 1 (hello_from farther_high) ∷ frame 1 (hello_from rp_high) ∷ []

abbrev pub farther_meets : List Event
farther_meets = frame 0 (hello_from nearer_low) ∷ frame 1 (hello_from nearer_high) ∷ frame 1 (hello_from rp_high) ∷ []

abbrev pub rp_meets : List Event
rp_meets = frame 0 (hello_from nearer_high) ∷ frame 0 (hello_from farther_high) ∷ []

abbrev pub nearer_before : List Event
nearer_before =
    up 7 0 ∷ up 7 1 ∷ advance 91000 ∷ nearer_meets ++ frame 0 (hello_from gone) ∷ frame 0 joins_it ∷ frame 0 claims_it ∷ advance 180000
    ∷ nearer_meets ++ advance 267900 ∷ []

abbrev pub farther_before : List Event
farther_before =
    up 7 0 ∷ up 7 1 ∷ up 1000 2 ∷ up 1000 3 ∷ advance 91000 ∷ farther_meets ++ frame 0 (hello_from gone) ∷ answer_on 0 (address 10 0 1 9)
    ∷ answer_on 2 (address 10 0 4 9) ∷ frame 0 claims_it ∷ advance 180000 ∷ farther_meets ++ advance 267900 ∷ []

abbrev pub rp_before : List Event
rp_before = up 7 0 ∷ advance 91000 ∷ rp_meets ++ advance 180000 ∷ rp_meets ++ advance 267900 ∷ []

abbrev pub before : Network
before = record {
  stations = station (1 ∷ 2 ∷ []) nearer_config nearer_before ∷ station (1 ∷ 2 ∷ 4 ∷ 5 ∷ []) farther_config farther_before
      ∷ station (2 ∷ []) rp_config rp_before ∷ [];
  frames = [];
}

-- ---- the moves

abbrev pub all_to : ℕ → List Move
all_to moment = At 0 (advance moment) ∷ At 1 (advance moment) ∷ At 2 (advance moment) ∷ []

abbrev pub source_sends : Event
source_sends = frame 3 (header_text [] 16 17 source_there asked_group (length content) ++ content)

-- The Assert, Join, Hello and query timers expire, and what leaves on the LANs comes to all there, in order. In between the source sends
-- a packet, the second router prunes it, and the first one overrides that after a second. The host answers the queries.
abbrev pub settling : List Move
settling =
    all_to 268000 ++ (Deliver 1 0 1 7 ∷ Deliver 0 0 2 7 ∷ Deliver 1 0 3 7 ∷ [])
    ++ all_to 271001
    ++ (Deliver 1 1 4 8000 ∷ Deliver 2 0 4 7 ∷ Deliver 1 0 5 7 ∷ Deliver 1 1 6 7 ∷ Deliver 2 0 6 7 ∷ Deliver 0 1 7 7 ∷ Deliver 2 0 7 7
    ∷ Deliver 0 0 8 7 ∷ Deliver 0 1 9 7 ∷ Deliver 2 0 9 7 ∷ Deliver 0 1 12 7 ∷ Deliver 1 1 12 7 ∷ [])
    ++ all_to 271500 ++ (At 1 source_sends ∷ Deliver 0 1 13 999 ∷ Deliver 2 0 13 7 ∷ [])
    ++ all_to 272500 ++ (Deliver 1 1 16 7 ∷ Deliver 2 0 16 7 ∷ [])
    ++ all_to 278000 ++ all_to 281250
    ++ (Deliver 1 0 17 7 ∷ Deliver 1 1 18 7 ∷ Deliver 2 0 18 7 ∷ Deliver 0 0 19 7 ∷ Deliver 0 1 20 7 ∷ Deliver 2 0 20 7 ∷ Deliver 0 1 23 7
    ∷ Deliver 1 1 23 7 ∷ At 0 (answer_on 0 (address 10 0 1 9)) ∷ At 1 (answer_on 0 (address 10 0 1 9))
    ∷ At 1 (answer_on 2 (address 10 0 4 9)) ∷ [])
    ++ all_to 281451

-- From then on only time passes, until a hop later. Hellos come to all, from a frame on, and the first router's Joins, for which the second
-- one holds its own back.
abbrev pub greets : ℕ → List Move
greets k =
    Deliver 1 0 k 7 ∷ Deliver 1 1 (k + 1) 7 ∷ Deliver 2 0 (k + 1) 7 ∷ Deliver 0 0 (k + 2) 7 ∷ Deliver 0 1 (k + 3) 7 ∷ Deliver 2 0 (k + 3) 7
    ∷ Deliver 0 1 (k + 6) 7 ∷ Deliver 1 1 (k + 6) 7 ∷ []

abbrev pub joins : ℕ → List Move
joins k = Deliver 1 1 k 17000 ∷ Deliver 2 0 k 7 ∷ []

abbrev pub waiting : List Move
waiting =
    flat_map all_to (287000 ∷ 293000 ∷ 299000 ∷ 301001 ∷ []) ++ greets 24
    ++ flat_map all_to (307000 ∷ 313000 ∷ 319000 ∷ 325000 ∷ 331001 ∷ []) ++ greets 31
    ++ all_to 331500 ++ all_to 337008 ++ joins 38
    ++ flat_map all_to (343000 ∷ 349000 ∷ 355000 ∷ 361001 ∷ []) ++ greets 39
    ++ flat_map all_to (367000 ∷ 373000 ∷ 379000 ∷ 385000 ∷ 391001 ∷ []) ++ greets 46
    ++ all_to 391500 ++ all_to 397008 ++ joins 53
    ++ all_to 402351

-- Then the source sends another packet. The second router's Register brings it to the RP, which sends it on the second LAN, and the first
-- router on the first one. An Assert of a source far away comes to the first router there, as of one that sends its packets by a worse
-- route, and is answered. A Register of another router brings the RP a packet of that source, which the second router sends to its host,
-- too.
abbrev pub by_register : Move
by_register = DeliverUnicast 2 55 7

abbrev pub far_source : ℕ
far_source = address 10 8 0 9

abbrev pub far_register : List ℕ
far_register =
    pim_packet_text 16 (address 10 8 0 1) rp
    (register_text (header_text [] 15 17 far_source asked_group (length content) ++ content))

abbrev pub claims_far : List ℕ
claims_far = assert_packet farther_low asked_group far_source (metric_of true 110 22 farther_low)

abbrev pub serving : List Move
serving =
    Deliver 0 1 56 7 ∷ Deliver 1 1 56 7 ∷ Deliver 1 0 57 7 ∷ At 0 (frame 0 claims_far) ∷ Deliver 1 0 58 7 ∷ all_to 402452
    ++ (At 2 (unicast far_register) ∷ Deliver 0 1 59 7 ∷ Deliver 1 1 59 7 ∷ Deliver 1 0 60 7 ∷ all_to 402553)

abbrev pub until_then : List Move
until_then = settling ++ waiting

abbrev pub moves : List Move
moves = until_then ++ At 1 source_sends ∷ by_register ∷ serving

-- when each frame was sent, and by whom
abbrev pub senders : List ℕ
senders =
    0 ∷ 1 ∷ 0 ∷ 0 ∷ 0 ∷ 0 ∷ 1 ∷ 1 ∷ 1 ∷ 1 ∷ 1 ∷ 2 ∷ 1 ∷ 1 ∷ 1 ∷ 0 ∷ 0 ∷ 0 ∷ 1 ∷ 1 ∷ 1 ∷ 1 ∷ 2 ∷ 0 ∷ 0 ∷ 1 ∷ 1 ∷ 1 ∷ 1 ∷ 2 ∷ 0 ∷ 0 ∷ 1 ∷ 1 ∷ 1
    ∷ 1 ∷ 2 ∷ 0 ∷ 0 ∷ 0 ∷ 1 ∷ 1 ∷ 1 ∷ 1 ∷ 2 ∷ 0 ∷ 0 ∷ 1 ∷ 1 ∷ 1 ∷ 1 ∷ 2 ∷ 0 ∷ 1 ∷ 1 ∷ 2 ∷ 0 ∷ 0 ∷ 2 ∷ 0 ∷ 1 ∷ []

abbrev pub traffic : Traffic
traffic = record {
  sent = λ k. if nat_le k 3 then 268000 else if nat_le k 12 then 271001 else if nat_le k 15 then 271500
      else if nat_le k 16 then 272500 else if nat_le k 23 then 281250 else if nat_le k 30 then 301001 else if nat_le k 37 then 331001
      else if nat_le k 38 then 337008 else if nat_le k 45 then 361001 else if nat_le k 52 then 391001 else if nat_le k 53 then 397008
      else if nat_le k 58 then 402351 else 402452;
  by = λ k. unwrap_or (slice_get senders (k - 1)) 1;
}

abbrev pub none_came : Arrivals
none_came r i = 0

-- what is sent comes within 100 ms, timers are no later, and no router is further than this ahead of another
abbrev pub soon : ℕ
soon = 100

abbrev pub lag : ℕ
lag = 6100

-- the next general queries leave at 281.25 s, and 100 ms twice later is the bound
abbrev pub bound : ℕ
bound = 281450

-- and a hop after the frames of before have come
abbrev pub limit : ℕ
limit = 402350

-- ---- what there is

abbrev pub nearer_on_low : Member
nearer_on_low = record { router = 0; iface = 0; address = nearer_low; priority = 1 }

abbrev pub farther_on_low : Member
farther_on_low = record { router = 1; iface = 0; address = farther_low; priority = 1 }

abbrev pub nearer_on_high : Member
nearer_on_high = record { router = 0; iface = 1; address = nearer_high; priority = 1 }

abbrev pub farther_on_high : Member
farther_on_high = record { router = 1; iface = 1; address = farther_high; priority = 1 }

abbrev pub rp_on_high : Member
rp_on_high = record { router = 2; iface = 0; address = rp_high; priority = 1 }

abbrev pub its_metric : AssertMetric
its_metric = metric_of true 110 20 nearer_low

abbrev pub claim : Claim
claim = record { group = asked_group; source = 0; metric = its_metric; winner = nearer_on_low; losers = farther_on_low ∷ [] }

abbrev pub low_lan : Lan
low_lan = record {
  link = record {
    number = 1;
    first = nearer_on_low;
    others = farther_on_low ∷ [];
    settings = settings;
    hold = 255000;
    groups = asked_group ∷ [];
  };
  joins = [];
  claims = claim ∷ [];
  wishes = [];
}

abbrev pub star : Join
star = Star rp

abbrev pub nearer_joins : JoinOver
nearer_joins = record { join = star; group = asked_group; lower = nearer_on_high; upper = rp_on_high }

abbrev pub farther_joins : JoinOver
farther_joins = record { join = star; group = asked_group; lower = farther_on_high; upper = rp_on_high }

-- the Prune is the 13th frame, and the Join that overrides it the 16th
abbrev pub its_wish : Wish
its_wish = record {
  group = asked_group;
  source = source_there;
  lower = nearer_on_high;
  upper = rp_on_high;
  prunes = λ k. k == 13;
  joins = λ k. k == 16;
  propagation = 500;
  interval = 2500;
}

abbrev pub high_lan : Lan
high_lan = record {
  link = record {
    number = 2;
    first = nearer_on_high;
    others = farther_on_high ∷ rp_on_high ∷ [];
    settings = settings;
    hold = 255000;
    groups = [];
  };
  joins = nearer_joins ∷ farther_joins ∷ [];
  claims = [];
  wishes = its_wish ∷ [];
}

abbrev pub way : WayOver
way = record { join = star; group = asked_group; first = 0; hops = record { lan = high_lan; lower = nearer_on_high; upper = rp_on_high } ∷ [] }

abbrev pub plan : Plan
plan = record { lans = low_lan ∷ high_lan ∷ []; ways = way ∷ [] }

-- ---- what holds

abbrev pub PlanIsQuiet : Type 0
PlanIsQuiet = IsQuietPlan soon soon lag bound started traffic none_came plan before moves

abbrev pub PlanSettles : Type 0
PlanSettles = HasSettled (layout_of soon soon started traffic plan) (network_ran before moves).1

abbrev pub its_wire : Wire
its_wire = wire_of soon soon started traffic 2 its_wish

abbrev pub prune_sent : Sent
prune_sent = record {
  link = Some 2;
  bytes = pim_packet_text 1 farther_high all_pim_routers
      (join_prune_text rp_high asked_group [] (entry EntryKind.SourceRpt source_there ∷ []));
}

abbrev pub override_sent : Sent
override_sent = record { link = Some 2; bytes = override_packet asked_group source_there (hop_at 1 rp_high) nearer_high }

-- The Prune and the Join that overrides it are these, and come in order.
abbrev pub OverrideComesInOrder : Type 0
OverrideComesInOrder =
    AreInOrder its_wire 0 0 before moves
    × (frame_at (network_ran before moves).1 13 ≡ Some prune_sent)
    × (frame_at (network_ran before moves).1 16 ≡ Some override_sent)

-- So the Prune never takes effect at the RP.
abbrev pub PruneHasNoEffect : Type 0
PruneHasNoEffect = Always (IsUnpruned its_wire) before moves
