-- Three routers in a line, the last of which has the source on a link: a Join(S,G) climbs from one to the next, with time
-- between the deliveries, and the first packet of the source sets SPTbit as it comes down.
use Rattle.std.{specs.Prelude.{List, [], ℕ, ◌++◌, ◌∷◌}}
use Rattle.pim_types.{specs.declared.{config.Config.Config, event.Event.Event}}
use Rattle.pim_model.{specs.{Network.{At, Deliver, Move, Network, network_ran}, Tables.hop_at}}
use Rattle.pim_runs.{specs.{Base.{all_groups, base, interface, prefix, route_by, rp_for}, Words.{address, frame, up}, ServedChain.{asked_group, content, hello_from, root, sender, sent_packet, station}, StreamChain.all_at}}
use Rattle.law_streams.{specs.{Ways.Place, Climbing.Stop, Streams.later_place, SourceTreeClimbing.{IsSourceClimbedOver, join_source_packet}, Turning.IsTurned}}

-- link 3 is below the first router, link 1 between the first and the second, link 2 between the second and the last
abbrev pub lower : Config
lower = record base {
  interfaces = interface (address 10 0 3 1) ∷ interface (address 10 0 1 1) ∷ [];
  routes = route_by 1 (address 10 0 1 2) (prefix (address 10 9 9 0) 24) ∷ [];
  rps = rp_for all_groups root ∷ [];
}

abbrev pub middle : Config
middle = record base {
  interfaces = interface (address 10 0 1 2) ∷ interface (address 10 0 2 1) ∷ [];
  routes = route_by 1 (address 10 0 2 2) (prefix (address 10 9 9 0) 24) ∷ [];
  rps = rp_for all_groups root ∷ [];
}

abbrev pub upper : Config
upper = record base {
  interfaces = interface (address 10 0 2 2) ∷ interface (address 10 9 9 1) ∷ [];
  routes = [];
  rps = rp_for all_groups root ∷ [];
}

-- The first router has a neighbour below it, whose Join was sent.
abbrev pub edge : ℕ
edge = address 10 0 3 7

abbrev pub lower_meets : List Event
lower_meets = up 7 0 ∷ up 7 1 ∷ frame 0 (hello_from edge) ∷ frame 1 (hello_from (address 10 0 1 2)) ∷ []

abbrev pub middle_meets : List Event
middle_meets = up 7 0 ∷ up 7 1 ∷ frame 0 (hello_from (address 10 0 1 1)) ∷ frame 1 (hello_from (address 10 0 2 2)) ∷ []

abbrev pub upper_meets : List Event
upper_meets = up 7 0 ∷ up 7 1 ∷ frame 0 (hello_from (address 10 0 2 1)) ∷ []

abbrev pub joining : Network
joining = record {
  stations =
      station (3 ∷ 1 ∷ []) lower lower_meets ∷ station (1 ∷ 2 ∷ []) middle middle_meets
      ∷ station (2 ∷ 4 ∷ []) upper upper_meets ∷ [];
  frames = join_source_packet asked_group sender edge (address 10 0 3 1) 3 ∷ [];
}

abbrev pub lower_place : Place
lower_place = record {
  router = 0;
  station = station (3 ∷ 1 ∷ []) lower lower_meets;
  down = 0;
  next = hop_at 1 (address 10 0 1 2);
  next_link = 1;
  draw = 7;
}

abbrev pub middle_place : Place
middle_place = record {
  router = 1;
  station = station (1 ∷ 2 ∷ []) middle middle_meets;
  down = 0;
  next = hop_at 1 (address 10 0 2 2);
  next_link = 2;
  draw = 7;
}

abbrev pub upper_place : Place
upper_place = record {
  router = 2;
  station = station (2 ∷ 4 ∷ []) upper upper_meets;
  down = 0;
  next = hop_at 1 sender;
  next_link = 4;
  draw = 7;
}

-- two seconds pass before the Join comes to the next router
abbrev pub to_lower : List Move
to_lower = all_at 1000

abbrev pub to_middle : List Move
to_middle = to_lower ++ Deliver 0 0 1 7 ∷ all_at 3000

abbrev pub to_upper : List Move
to_upper = to_middle ++ Deliver 1 0 8 7 ∷ all_at 5000

abbrev pub stops : List Stop
stops =
    record { waits = all_at 1000; place = later_place joining to_lower lower_place }
    ∷ record { waits = all_at 3000; place = later_place joining to_middle middle_place }
    ∷ record { waits = all_at 5000; place = later_place joining to_upper upper_place } ∷ []

abbrev pub SourceIsJoined : Type 0
SourceIsJoined = IsSourceClimbedOver asked_group sender edge (address 10 0 3 1) 3 joining stops

-- then a packet of the source comes to the last router, and its copy to the others
abbrev pub to_the_copy : List Move
to_the_copy = to_upper ++ Deliver 2 0 9 7 ∷ At 2 (frame 1 sent_packet) ∷ []

abbrev pub copied_there : Network
copied_there = (network_ran joining to_the_copy).1

abbrev pub below_copy : List Place
below_copy = later_place joining to_the_copy lower_place ∷ later_place joining to_the_copy middle_place ∷ []

-- by one delivery for each it comes down, and both pass the stream on the source's tree then
abbrev pub TreeBegins : Type 0
TreeBegins = IsTurned copied_there asked_group sender 3 content 1 below_copy
