-- Two routers in a line, a host of a source-specific group on the first one's link and the source on the second one's: each packet of the
-- source comes to the host's link once, and none needs an RP. Computed by the kernel.
use Rattle.std.{specs.{List.flat_map, Prelude.{List, None, Option, Some, [], if◌then◌else◌, length, nat_le, slice_get, suc, unwrap_or, zero, ℕ, ◌++◌, ◌-◌, ◌∷◌}}}
use Rattle.pim_ip.{specs.Ipv4.{header_text, igmp_packet_text}}
use Rattle.pim_types.{specs.declared.{config.Config.Config, event.Event.Event}}
use Rattle.igmp_wire.{specs.{Reports.report_text, Values.Record, declared.report.RecordType.RecordType}}
use Rattle.pim_model.{specs.Network.{At, Deliver, Move, Network, network_ran}}
use Rattle.law_streams.{specs.InTimeJoins.{Join, Source}}
use Rattle.pim_runs.{specs.{Base.{base, interface, prefix, route_by}, InTime.started, ServedChain.{content, hello_from, station}, Words.{address, advance, frame, up}}}
use Rattle.law_converges.{specs.{Carried.{Arrivals, Traffic}, CarriedNetwork.{HopOn, IsQuietPlan, Lan, Plan}, ComesOnce.ComesOnce, LinkDr.Member, LinkQuerierRun.settings, RoutesToRp.{AllCanJoin, AreChosen, RoutesLead, Routing}, SourceWays.{IsReachedBySource, IsServedBySource, source_root_of, to_member}}}

-- ---- the routers

abbrev pub ssm_group : ℕ
ssm_group = address 232 1 1 1

abbrev pub its_source : ℕ
its_source = address 10 0 5 9

abbrev pub its_join : Join
its_join = Source its_source

-- the host's link is 3, the source's 5; link 1 is between both routers
abbrev pub last_address : ℕ
last_address = address 10 0 1 1

abbrev pub near_address : ℕ
near_address = address 10 0 1 2

abbrev pub last_config : Config
last_config = record base {
  interfaces = interface (address 10 0 3 1) ∷ interface last_address ∷ [];
  routes = route_by 1 near_address (prefix (address 10 0 5 0) 24) ∷ [];
}

abbrev pub near_config : Config
near_config = record base { interfaces = interface near_address ∷ interface (address 10 0 5 1) ∷ []; routes = [] }

-- the host's report, an IS_IN of the source
abbrev pub source_wish : Record
source_wish = record { type = RecordType.IsInclude; group = ssm_group; sources = its_source ∷ [] }

abbrev pub source_report : Event
source_report = frame 0 (igmp_packet_text (address 10 0 3 9) (address 224 0 0 22) (report_text (source_wish ∷ [])))

-- The routers come up, and meet after 91 seconds; a millisecond later the host asks the first one, whose Join nobody hears. Each takes
-- itself for the querier.
abbrev pub last_before : List Event
last_before = up 1000 0 ∷ up 7 1 ∷ advance 91000 ∷ frame 1 (hello_from near_address) ∷ advance 91001 ∷ source_report ∷ advance 150000 ∷ []

abbrev pub near_before : List Event
near_before = up 7 0 ∷ up 1000 1 ∷ advance 91000 ∷ frame 0 (hello_from last_address) ∷ advance 150000 ∷ []

abbrev pub unserved : Network
unserved = record {
  stations = station (3 ∷ 1 ∷ []) last_config last_before ∷ station (1 ∷ 5 ∷ []) near_config near_before ∷ [];
  frames = [];
}

-- ---- the moves

abbrev pub both_to : ℕ → List Move
both_to moment = At 0 (advance moment) ∷ At 1 (advance moment) ∷ []

-- a frame of each comes to the other
abbrev pub meets : ℕ → List Move
meets k = Deliver 1 0 k 7 ∷ Deliver 0 1 (suc k) 7 ∷ []

-- Hellos, the first one's Joins, and queries come to the other, until a hop after the frames of before have come.
abbrev pub coming_up : List Move
coming_up =
    both_to 151001 ++ Deliver 1 0 1 7 ∷ meets 3 ++ both_to 156250 ++ meets 7
    ++ flat_map both_to (161001 ∷ 171001 ∷ 181001 ∷ []) ++ meets 11
    ++ flat_map both_to (191001 ∷ 201001 ∷ 211001 ∷ []) ++ Deliver 1 0 14 7 ∷ meets 16
    ++ flat_map both_to (221001 ∷ 231001 ∷ 241001 ∷ []) ++ meets 20
    ++ flat_map both_to (251001 ∷ 261001 ∷ 271001 ∷ []) ++ Deliver 1 0 23 7 ∷ meets 25
    ++ flat_map both_to (281001 ∷ 281250 ∷ []) ++ Deliver 1 0 29 7 ∷ flat_map both_to (291001 ∷ 301001 ∷ [])
    ++ meets 32 ++ both_to 301352

-- Then the source sends a packet, which goes down.
abbrev pub source_packet : List ℕ
source_packet = header_text [] 16 17 its_source ssm_group (length content) ++ content

abbrev pub source_sends : Move
source_sends = At 1 (frame 1 source_packet)

abbrev pub coming_down : List Move
coming_down = Deliver 0 1 35 7 ∷ both_to 301453

abbrev pub source_moves : List Move
source_moves = coming_up ++ source_sends ∷ coming_down

-- when each frame was sent, and by whom
abbrev pub its_senders : List ℕ
its_senders =
    0 ∷ 0 ∷ 0 ∷ 1 ∷ 1 ∷ 0 ∷ 0 ∷ 1 ∷ 1 ∷ 0 ∷ 0 ∷ 1 ∷ 1 ∷ 0 ∷ 0 ∷ 0 ∷ 1 ∷ 1 ∷ 0 ∷ 0 ∷ 1 ∷ 1 ∷ 0 ∷ 0 ∷ 0 ∷ 1 ∷ 1 ∷ 0 ∷ 0 ∷ 1 ∷ 0 ∷ 0 ∷ 1 ∷ 1 ∷ 1 ∷ 0 ∷ []

abbrev pub its_traffic : Traffic
its_traffic = record {
  sent = λ k. if nat_le k 5 then 151001 else if nat_le k 9 then 156250 else if nat_le k 13 then 181001 else if nat_le k 18 then 211001
      else if nat_le k 22 then 241001 else if nat_le k 27 then 271001 else if nat_le k 30 then 281250 else if nat_le k 34 then 301001
      else 301352;
  by = λ k. unwrap_or (slice_get its_senders (k - 1)) 1;
}

abbrev pub nothing_came : Arrivals
nothing_came r i = 0

-- what is sent comes within 100 ms, timers are no later, and no router is further than this ahead of another
abbrev pub within : ℕ
within = 100

abbrev pub its_lag : ℕ
its_lag = 10000

-- the next general queries leave at 156.25 s, and 100 ms twice later is the bound
abbrev pub its_bound : ℕ
its_bound = 156450

-- what was sent before it has come by then, and a hop later is the limit
abbrev pub its_first : ℕ
its_first = 186550

abbrev pub its_limit : ℕ
its_limit = 300750

-- ---- what there is

abbrev pub last_on_lan : Member
last_on_lan = record { router = 0; iface = 1; address = last_address; priority = 1 }

abbrev pub near_on_lan : Member
near_on_lan = record { router = 1; iface = 0; address = near_address; priority = 1 }

abbrev pub its_lan : Lan
its_lan = record {
  link = record { number = 1; first = last_on_lan; others = near_on_lan ∷ []; settings = settings; hold = 255000; groups = [] };
  joins = [];
  claims = [];
  wishes = [];
}

abbrev pub its_plan : Plan
its_plan = record { lans = its_lan ∷ []; ways = [] }

abbrev pub hop_to_source : HopOn
hop_to_source = record { lan = its_lan; lower = last_on_lan; upper = near_on_lan }

-- the first router is one hop from the source's link
abbrev pub to_source : ℕ → Option ℕ
to_source zero = Some 1
to_source (suc zero) = Some 0
to_source (suc (suc r)) = None

abbrev pub its_routing : Routing
its_routing = record { next = λ r. hop_to_source; distance = to_source }

-- The plan is quiet, the routes lead to the source, and the host is reached.
abbrev pub SourceIsReached : Type 0
SourceIsReached =
    IsQuietPlan within within its_lag its_bound started its_traffic nothing_came its_plan unserved source_moves
    × RoutesLead its_join ssm_group its_plan.lans its_routing unserved source_moves
    × AreChosen its_join ssm_group its_bound started its_routing unserved source_moves
    × AllCanJoin its_join ssm_group its_traffic its_routing unserved source_moves
    × IsReachedBySource ssm_group its_source within its_lag its_bound its_first its_limit 1 started its_routing unserved source_moves 0 0 3
    hop_to_source []

-- So the member is served.
abbrev pub SourceMemberIsServed : Type 0
SourceMemberIsServed =
    IsServedBySource ssm_group its_source within started its_limit its_traffic unserved source_moves hop_to_source [] (to_member 0 3 hop_to_source)

-- when the source sends its packet
abbrev pub joined_up : Network
joined_up = (network_ran unserved coming_up).1

-- That packet, with a TTL of 16, is on the host's link in exactly one frame, within 100 ms.
abbrev pub SentComesOnce : Type 0
SentComesOnce =
    ComesOnce ssm_group its_source 3 content 14 301452 its_traffic (source_root_of hop_to_source []) (to_member 0 3 hop_to_source ∷ []) joined_up
    source_sends coming_down
