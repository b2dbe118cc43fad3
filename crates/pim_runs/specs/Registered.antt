-- The DR of a source sends its packet in a Register to the RP, below which two routers pass the stream.
use Rattle.std.{specs.Prelude.{List, [], ℕ, ◌++◌, ◌∷◌}}
use Rattle.pim_types.{specs.declared.{config.Config.Config, event.Event.Event}}
use Rattle.pim_wire.{specs.declared.join_prune.EntryKind.EntryKind}
use Rattle.pim_model.{specs.{Messages.entry, Network.Network, Tables.hop_at}}
use Rattle.pim_runs.{specs.{Base.{all_groups, base, interface, prefix, route_by, rp_for}, Words.{address, frame, up}, ServedChain.{asked_group, content, first, first_meets, first_place, packet_living, report, root, second, second_meets, second_place, sender, station, third, third_meets, third_place}}}
use Rattle.law_streams.{specs.{Joins.join_packet, Ways.Place, Registered.IsRegistered}}

-- the source is on the link of the DR's first interface, and the RP behind the second
abbrev pub dr : Config
dr = record base {
  interfaces = interface (address 10 9 9 1) ∷ interface (address 10 0 4 1) ∷ [];
  routes = route_by 1 (address 10 0 4 2) (prefix (address 10 0 2 0) 24) ∷ [];
  rps = rp_for all_groups root ∷ [];
}

abbrev pub dr_meets : List Event
dr_meets = up 7 0 ∷ up 7 1 ∷ []

-- the host asked, and each router took the Join of the one below
abbrev pub join_of : ℕ → ℕ → Event
join_of from to = frame 0 (join_packet from to asked_group (entry EntryKind.Star root) [])

abbrev pub first_asked : List Event
first_asked = first_meets ++ (report ∷ [])

abbrev pub second_asked : List Event
second_asked = second_meets ++ (join_of (address 10 0 1 1) (address 10 0 1 2) ∷ [])

abbrev pub third_asked : List Event
third_asked = third_meets ++ (join_of (address 10 0 2 1) root ∷ [])

abbrev pub first_there : Place
first_there = record first_place { station = station (3 ∷ 1 ∷ []) first first_asked }

abbrev pub second_there : Place
second_there = record second_place { station = station (1 ∷ 2 ∷ []) second second_asked }

abbrev pub root_there : Place
root_there = record third_place { station = station (2 ∷ []) third third_asked }

abbrev pub dr_there : Place
dr_there = record {
  router = 3;
  station = station (5 ∷ 6 ∷ []) dr dr_meets;
  down = 0;
  next = hop_at 1 (address 10 0 4 2);
  next_link = 6;
  draw = 0;
}

abbrev pub with_dr : Network
with_dr = record {
  stations =
      station (3 ∷ 1 ∷ []) first first_asked ∷ station (1 ∷ 2 ∷ []) second second_asked
      ∷ station (2 ∷ []) third third_asked ∷ station (5 ∷ 6 ∷ []) dr dr_meets ∷ [];
  frames = [];
}

-- the source's packet, with a TTL that is just enough for the DR, the RP and two routers
abbrev pub from_source : Event
from_source = frame 0 (packet_living 5)

abbrev pub SourceIsRegistered : Type 0
SourceIsRegistered =
    IsRegistered with_dr asked_group root sender 3 content 1 dr_there root_there from_source 7 (first_there ∷ second_there ∷ [])
