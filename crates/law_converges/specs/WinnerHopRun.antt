-- A router whose route to the RP names one that has left. On that LAN the RP itself has won the assert of the group, and so is the next hop;
-- over it a host on the router's own link is served. Computed by the kernel.
use Rattle.std.{specs.{List.flat_map, Prelude.{List, None, Option, Some, [], if◌then◌else◌, nat_le, option_map, suc, unwrap_or, slice_get, true, zero, ℕ, ◌++◌, ◌+◌, ◌-◌, ◌∷◌, ◌≡◌}}}
use Rattle.pim_types.{specs.declared.{config.Config.Config, event.Event.Event, path.Path.Path}}
use Rattle.pim_wire.{specs.declared.join_prune.EntryKind.EntryKind}
use Rattle.pim_model.{specs.{Messages.entry, Network.{At, Deliver, Move, Network}, Sets.metric_of, Unicast.rp_route}}
use Rattle.law_streams.{specs.Joins.join_packet}
use Rattle.pim_runs.{specs.{Base.{route_by, rp, rp_network}, InTime.started, ServedChain.{asked_group, hello_from, station}, Words.{address, advance, frame, unicast, up}}}
use Rattle.law_converges.{specs.{Carried.Traffic, CarriedNetwork.{HopOn, IsQuietPlan, Lan, Plan}, CarriedNetworkRun.{answer_on, bound, far_register, far_source, farther_high, lag, limit, nearer_config, nearer_high, nearer_on_high, nearer_on_low, none_came, rp_config, rp_high, rp_on_high, soon, star}, EachMember.{EachComesOver, IsReached, IsServed}, LinkAsserts.assert_packet, LinkDr.Member, LinkQuerierRun.settings, LoserJoins.YieldsTo, Past.HoldsPast, RoutesToRp.{AllCanJoin, IsRpf, RoutesLead, Routing}}}

-- ---- the routers

-- the route names a router that has left
abbrev pub below_config : Config
below_config = record nearer_config { routes = route_by 1 farther_high rp_network ∷ [] }

abbrev pub host : ℕ
host = address 10 0 1 9

-- The one that has left had joined over the RP, and its worse Assert has the RP take itself for the winner; that one's Assert has come to
-- the first router, which has lost by it. A host asks this for the group.
abbrev pub below_before : List Event
below_before =
    up 1000 0 ∷ up 7 1 ∷ advance 91000 ∷ frame 1 (hello_from rp_high) ∷ frame 1 (hello_from farther_high) ∷ answer_on 0 host
    ∷ frame 1 (assert_packet rp_high asked_group 0 (metric_of true 0 0 rp_high)) ∷ advance 180000 ∷ frame 1 (hello_from rp_high)
    ∷ answer_on 0 host ∷ advance 267900 ∷ []

abbrev pub above_before : List Event
above_before =
    up 7 0 ∷ advance 91000 ∷ frame 0 (hello_from nearer_high) ∷ frame 0 (hello_from farther_high)
    ∷ frame 0 (join_packet farther_high rp_high asked_group (entry EntryKind.Star rp) [])
    ∷ frame 0 (assert_packet farther_high asked_group 0 (metric_of true 110 22 farther_high)) ∷ advance 180000
    ∷ frame 0 (hello_from nearer_high) ∷ advance 267900 ∷ []

abbrev pub at_first : Network
at_first = record {
  stations = station (1 ∷ 2 ∷ []) below_config below_before ∷ station (2 ∷ []) rp_config above_before ∷ [];
  frames = [];
}

-- ---- the moves

abbrev pub both_to : ℕ → List Move
both_to moment = At 0 (advance moment) ∷ At 1 (advance moment) ∷ []

-- the first router's Join and its Hello come to the RP, and the RP's Hello to the first router
abbrev pub joins_and_greets : ℕ → List Move
joins_and_greets k = Deliver 1 0 k 7 ∷ Deliver 1 0 (k + 2) 7 ∷ Deliver 0 1 (k + 3) 7 ∷ []

-- one of each
abbrev pub one_and_one : ℕ → List Move
one_and_one k = Deliver 1 0 k 7 ∷ Deliver 0 1 (k + 1) 7 ∷ []

-- The RP asserts again; the first router joins, both greet and ask, and the host answers. At the end a Register of another router brings
-- the RP a packet of a source far away.
abbrev pub joining_over : List Move
joining_over =
    both_to 268000 ++ Deliver 0 1 1 7 ∷ both_to 271001 ++ joins_and_greets 2 ++ flat_map both_to (277000 ∷ 281250 ∷ []) ++ one_and_one 7
    ++ At 0 (answer_on 0 host) ∷ flat_map both_to (287000 ∷ 293000 ∷ 299000 ∷ 301001 ∷ []) ++ one_and_one 10
    ++ flat_map both_to (307000 ∷ 313000 ∷ 319000 ∷ 325000 ∷ 331001 ∷ []) ++ joins_and_greets 12
    ++ flat_map both_to (337000 ∷ 343000 ∷ 349000 ∷ 355000 ∷ 361001 ∷ []) ++ one_and_one 17
    ++ flat_map both_to (367000 ∷ 373000 ∷ 379000 ∷ 385000 ∷ 391001 ∷ []) ++ joins_and_greets 19
    ++ flat_map both_to (397000 ∷ 402351 ∷ []) ++ At 1 (unicast far_register) ∷ Deliver 0 1 23 7 ∷ both_to 402452

-- when each frame was sent, and by whom
abbrev pub who_sent : List ℕ
who_sent = 1 ∷ 0 ∷ 0 ∷ 0 ∷ 1 ∷ 0 ∷ 0 ∷ 1 ∷ 0 ∷ 0 ∷ 1 ∷ 0 ∷ 0 ∷ 0 ∷ 1 ∷ 0 ∷ 0 ∷ 1 ∷ 0 ∷ 0 ∷ 0 ∷ 1 ∷ 1 ∷ 0 ∷ []

abbrev pub their_traffic : Traffic
their_traffic = record {
  sent = λ k. if nat_le k 1 then 268000 else if nat_le k 5 then 271001 else if nat_le k 8 then 281250 else if nat_le k 11 then 301001
      else if nat_le k 15 then 331001 else if nat_le k 18 then 361001 else if nat_le k 22 then 391001 else 402351;
  by = λ k. unwrap_or (slice_get who_sent (k - 1)) 0;
}

-- ---- the links

abbrev pub winner : Member
winner = record rp_on_high { router = 1 }

abbrev pub host_lan : Lan
host_lan = record {
  link = record { number = 1; first = nearer_on_low; others = []; settings = settings; hold = 255000; groups = asked_group ∷ [] };
  joins = [];
  claims = [];
  wishes = [];
}

abbrev pub winner_lan : Lan
winner_lan = record {
  link = record { number = 2; first = nearer_on_high; others = winner ∷ []; settings = settings; hold = 255000; groups = [] };
  joins = [];
  claims = [];
  wishes = [];
}

abbrev pub two_lans : Plan
two_lans = record { lans = host_lan ∷ winner_lan ∷ []; ways = [] }

-- the winner is the next hop, and the RP
abbrev pub winner_hop : HopOn
winner_hop = record { lan = winner_lan; lower = nearer_on_high; upper = winner }

abbrev pub one_hop : ℕ → Option ℕ
one_hop zero = Some 1
one_hop (suc zero) = Some 0
one_hop (suc (suc r)) = None

abbrev pub to_winner : Routing
to_winner = record { next = λ r. winner_hop; distance = one_hop }

-- ---- what holds

abbrev pub TwoLansAreQuiet : Type 0
TwoLansAreQuiet = IsQuietPlan soon soon lag bound started their_traffic none_came two_lans at_first joining_over

-- The first router gives way to the winner's Asserts.
abbrev pub FirstYields : Type 0
FirstYields = YieldsTo star asked_group soon bound started winner_hop at_first joining_over

-- So from the bound on the winner is RPF'(*,G), while the route names another router.
abbrev pub WinnerIsRpf : Type 0
WinnerIsRpf =
    HoldsPast started bound (IsRpf star asked_group winner_hop) at_first joining_over
    × (option_map (λ (p : Path). p.next_hop.bits) (rp_route (station (1 ∷ 2 ∷ []) below_config below_before).state asked_group) ≡ Some farther_high)

-- The routes lead over the winner, and the host's link is reached.
abbrev pub HostIsReached : Type 0
HostIsReached =
    RoutesLead star asked_group two_lans.lans to_winner at_first joining_over
    × EachComesOver rp asked_group soon bound started to_winner at_first joining_over
    × AllCanJoin star asked_group their_traffic to_winner at_first joining_over
    × IsReached asked_group far_source soon lag bound limit 1 started two_lans to_winner at_first joining_over host_lan nearer_on_low winner_hop []

-- So it is served, as by the packet that the Register brings.
abbrev pub HostIsServed : Type 0
HostIsServed =
    IsServed asked_group far_source rp soon bound limit started their_traffic two_lans at_first joining_over host_lan nearer_on_low winner_hop []
