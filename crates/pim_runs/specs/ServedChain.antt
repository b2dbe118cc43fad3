-- Three routers in a line: a host's, one between, and the RP.
use Rattle.std.{specs.Prelude.{List, [], length, ℕ, ◌++◌, ◌∷◌}}
use Rattle.pim_ip.{specs.Ipv4.{all_pim_routers, header_text, igmp_packet_text, pim_packet_text}}
use Rattle.pim_types.{specs.declared.{config.Config.Config, event.Event.Event}}
use Rattle.pim_wire.{specs.{Hellos.hello_text, Registers.register_text}}
use Rattle.igmp_wire.{specs.{Reports.report_text, Values.Record, declared.report.RecordType.RecordType}}
use Rattle.pim_model.{specs.{Network.{At, Network, Station, moved, network_ran}, State.opening, Step.state_after, Tables.hop_at}}
use Rattle.pim_runs.{specs.{Base.{all_groups, base, interface, prefix, route_by, rp_for}, Words.{address, frame, unicast, up}}}
use Rattle.law_streams.{specs.{Flows.IsFlowed, Ways.Place, Whole.IsServedFrom}}

abbrev pub asked_group : ℕ
asked_group = address 239 1 1 1

abbrev pub root : ℕ
root = address 10 0 2 2

abbrev pub sender : ℕ
sender = address 10 9 9 9

-- the host's link is 3; link 1 is between the first and the second router, link 2 between the second and the RP
abbrev pub first : Config
first = record base {
  interfaces = interface (address 10 0 3 1) ∷ interface (address 10 0 1 1) ∷ [];
  routes = route_by 1 (address 10 0 1 2) (prefix (address 10 0 2 0) 24) ∷ [];
  rps = rp_for all_groups root ∷ [];
}

abbrev pub second : Config
second = record base {
  interfaces = interface (address 10 0 1 2) ∷ interface (address 10 0 2 1) ∷ [];
  routes = [];
  rps = rp_for all_groups root ∷ [];
}

abbrev pub third : Config
third = record base { interfaces = interface root ∷ []; routes = []; rps = rp_for all_groups root ∷ [] }

-- The routers come up, and hear each other's Hellos.
abbrev pub hello_from : ℕ → List ℕ
hello_from from = pim_packet_text 1 from all_pim_routers (hello_text 500 2500 1 7)

abbrev pub first_meets : List Event
first_meets = up 7 0 ∷ up 7 1 ∷ frame 1 (hello_from (address 10 0 1 2)) ∷ []

abbrev pub second_meets : List Event
second_meets = up 7 0 ∷ up 7 1 ∷ frame 0 (hello_from (address 10 0 1 1)) ∷ frame 1 (hello_from root) ∷ []

abbrev pub third_meets : List Event
third_meets = up 7 0 ∷ frame 0 (hello_from (address 10 0 2 1)) ∷ []

abbrev pub station : List ℕ → Config → List Event → Station
station links c events = record { links = links; state = state_after (opening c) events }

abbrev pub first_station : Station
first_station = station (3 ∷ 1 ∷ []) first first_meets

abbrev pub second_station : Station
second_station = station (1 ∷ 2 ∷ []) second second_meets

abbrev pub third_station : Station
third_station = station (2 ∷ []) third third_meets

abbrev pub chain : Network
chain = record { stations = first_station ∷ second_station ∷ third_station ∷ []; frames = [] }

abbrev pub first_place : Place
first_place = record {
  router = 0;
  station = first_station;
  down = 0;
  next = hop_at 1 (address 10 0 1 2);
  next_link = 1;
  draw = 0;
}

abbrev pub second_place : Place
second_place = record { router = 1; station = second_station; down = 0; next = hop_at 1 root; next_link = 2; draw = 0 }

abbrev pub third_place : Place
third_place = record { router = 2; station = third_station; down = 0; next = hop_at 0 0; next_link = 0; draw = 0 }

-- a host's report TO_EX of no source
abbrev pub request : Record
request = record { type = RecordType.ToExclude; group = asked_group; sources = [] }

abbrev pub report : Event
report = frame 0 (igmp_packet_text (address 10 0 3 9) (address 224 0 0 22) (report_text (request ∷ [])))

-- The chain's host is served.
abbrev pub ChainIsServed : Type 0
ChainIsServed = IsServedFrom chain asked_group root sender 3 first_place second_place report (third_place ∷ [])

-- a packet of the source, of 16 bytes behind its header, and the Register round it that a router far away sends to the
-- RP
abbrev pub content : List ℕ
content = 0x13 ∷ 0x8C ∷ 0x13 ∷ 0x8C ∷ 0 ∷ 16 ∷ 0 ∷ 0 ∷ 1 ∷ 2 ∷ 3 ∷ 4 ∷ 5 ∷ 6 ∷ 7 ∷ 8 ∷ []

abbrev pub packet_living : ℕ → List ℕ
packet_living time_to_live = header_text [] time_to_live 17 sender asked_group (length content) ++ content

-- three routers are to pass it on
abbrev pub sent_packet : List ℕ
sent_packet = packet_living 4

abbrev pub register : List ℕ
register = pim_packet_text 16 (address 10 9 0 1) root (register_text sent_packet)

-- The packet comes to the host's link, where its TTL doesn't let it go further.
abbrev pub PacketIsServed : Type 0
PacketIsServed = (f : ChainIsServed)
    → IsFlowed (moved (network_ran chain (At 0 report ∷ f.joins)).1 (At 2 (unicast register))).1 asked_group sender 3 content 1
    (first_place ∷ second_place ∷ [])
