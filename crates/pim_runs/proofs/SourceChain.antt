-- The premises, computed.
use Rattle.std.{proofs.Common.{◌≡◌, ◌∙◌, ℕ, ◌+◌, [], ◌∷◌, length, Ok, None, Some, true, false, refl, sym, ap, subst, lit≤, lit<}}
use Rattle.pim_ip.{specs.Ipv4.{copy_text, is_link_local, is_multicast, packet_of}}
use Rattle.pim_model.{specs.{Limits.config_test, Network.{Network, frame_at, network_ran, station_at}}}
use Rattle.law_streams.{specs.{Networks.events_in, Flows.IsCarried, Joins.join_packet, Ways.{Place, state_of, up_address}, Climbing.delivered, Streams.later_place, SourceTreeClimbing.{CanGoOnToSource, CanTakeSource, IsSource, IsSourceWayOver, join_source_packet}, Turning.{TurnsAt, may_turn}}, proofs.{Networks.runs_alone, Passing.stays_settled, Streams.later_stand, SourceTreeClimbing.source_join_climbs_over, SourceTreeWays.source_tree_begins, Computed.alike_delivered}}
use Rattle.law_settled.{specs.Ready.IsSettled, proofs.Steps.run_is_settled}
use Rattle.pim_runs.{specs.{ServedChain.{asked_group, content, sender, sent_packet}, SourceChain.{SourceIsJoined, TreeBegins, below_copy, copied_there, edge, joining, lower, lower_meets, lower_place, middle, middle_meets, middle_place, stops, to_lower, to_middle, to_the_copy, to_upper, upper_place}, StreamChain.all_at, Words.address}, proofs.OnLiterals.machine_on_literals}

accepted_lower : config_test lower ≡ Ok tt
unfolding machine_on_literals
accepted_lower = refl

accepted_middle : config_test middle ≡ Ok tt
unfolding machine_on_literals
accepted_middle = refl

-- ---- each router takes the Join when it comes

abbrev one : Place
one = later_place joining to_lower lower_place

abbrev two : Place
two = later_place joining to_middle middle_place

abbrev three : Place
three = later_place joining to_upper upper_place

one_takes : CanTakeSource edge (address 10 0 3 1) 3 one
unfolding machine_on_literals events_in network_ran join_packet
one_takes = record {
  hears = record { configured = lit≤ tt; up = refl; neighbour = refl; other = refl };
  from_host = refl;
  to_fits = lit< tt;
  own = refl;
  on_link = refl;
  room = refl;
}

two_takes : CanTakeSource (up_address one) (address 10 0 1 2) 1 two
unfolding machine_on_literals events_in network_ran join_packet
two_takes = record {
  hears = record { configured = lit≤ tt; up = refl; neighbour = refl; other = refl };
  from_host = refl;
  to_fits = lit< tt;
  own = refl;
  on_link = refl;
  room = refl;
}

three_takes : CanTakeSource (up_address two) (address 10 0 2 2) 2 three
unfolding machine_on_literals events_in network_ran join_packet
three_takes = record {
  hears = record { configured = lit≤ tt; up = refl; neighbour = refl; other = refl };
  from_host = refl;
  to_fits = lit< tt;
  own = refl;
  on_link = refl;
  room = refl;
}

one_goes_on : CanGoOnToSource asked_group sender one
unfolding machine_on_literals events_in network_ran join_packet
one_goes_on = record { unwanted = refl; next = refl; unlost = refl; linked = refl }

two_goes_on : CanGoOnToSource asked_group sender two
unfolding machine_on_literals events_in network_ran join_packet
two_goes_on = record { unwanted = refl; next = refl; unlost = refl; linked = refl }

-- ---- the way

-- the networks in which the Joins come to the first and to the second router
abbrev at_one : Network
at_one = (network_ran joining to_lower).1

abbrev after_one : Network
after_one = delivered at_one one 1

abbrev at_two : Network
at_two = (network_ran after_one (all_at 3000)).1

abbrev after_two : Network
after_two = delivered at_two two 8

first_join : frame_at at_one 1 ≡ Some (join_source_packet asked_group sender edge (address 10 0 3 1) 3)
unfolding machine_on_literals network_ran join_packet
first_join = refl

up_from_one : up_address one ≡ address 10 0 1 1
unfolding machine_on_literals events_in network_ran join_packet
up_from_one = refl

second_frame : frame_at (network_ran joining to_middle).1 8 ≡ Some (join_source_packet asked_group sender (address 10 0 1 1) (address 10 0 1 2) 1)
unfolding machine_on_literals network_ran join_packet
second_frame = refl

second_join : frame_at at_two 8 ≡ Some (join_source_packet asked_group sender (up_address one) (address 10 0 1 2) 1)
unfolding network_ran
second_join =
    second_frame ∙ ap (λ (from : ℕ). Some (join_source_packet asked_group sender from (address 10 0 1 2) 1)) (sym up_from_one)

one_stands : station_at at_one 0 ≡ Some one.station
unfolding station_at
one_stands = (runs_alone 0 to_lower joining).stands lower_place.station refl

two_stands : station_at at_two 1 ≡ Some two.station
unfolding network_ran station_at
two_stands = (runs_alone 1 to_middle joining).stands middle_place.station refl

three_stands : station_at (network_ran after_two (all_at 5000)).1 2 ≡ Some three.station
unfolding network_ran station_at
three_stands = (runs_alone 2 to_upper joining).stands upper_place.station refl

way_from_two : IsSourceWayOver asked_group sender (up_address one) (address 10 0 1 2) 1 after_one
    (record { waits = all_at 3000; place = two } ∷ record { waits = all_at 5000; place = three } ∷ [])
way_from_two = (
  two_stands,
  two_takes,
  two_goes_on,
  λ k is.
      subst (λ (n : Network). IsSourceWayOver asked_group sender (up_address two) (address 10 0 2 2) 2 n
      (record { waits = all_at 5000; place = three } ∷ []))
      (sym (alike_delivered at_two 1 0 7 k 8 (is ∙ sym second_join))) (three_stands, three_takes),
)

way : IsSourceWayOver asked_group sender edge (address 10 0 3 1) 3 joining stops
way = (
  one_stands,
  one_takes,
  one_goes_on,
  λ k is.
      subst (λ (n : Network). IsSourceWayOver asked_group sender (up_address one) (address 10 0 1 2) 1 n
      (record { waits = all_at 3000; place = two } ∷ record { waits = all_at 5000; place = three } ∷ []))
      (sym (alike_delivered at_one 0 0 7 k 1 (is ∙ sym first_join))) way_from_two,
)

is_source : IsSource asked_group sender
unfolding machine_on_literals
is_source = record { multicast = refl; goes_far = refl; host = refl }

edge_sent : frame_at joining 1 ≡ Some (join_source_packet asked_group sender edge (address 10 0 3 1) 3)
unfolding frame_at
edge_sent = refl

pub source_is_joined : SourceIsJoined
source_is_joined =
    source_join_climbs_over joining asked_group sender edge (address 10 0 3 1) 3 1 stops is_source way edge_sent

-- ---- the first packet

abbrev low : Place
low = later_place joining to_the_copy lower_place

abbrev mid : Place
mid = later_place joining to_the_copy middle_place

low_settled : IsSettled (state_of low)
low_settled = stays_settled (state_of lower_place) (events_in 0 joining to_the_copy) (run_is_settled lower lower_meets accepted_lower)

mid_settled : IsSettled (state_of mid)
mid_settled = stays_settled (state_of middle_place) (events_in 1 joining to_the_copy) (run_is_settled middle middle_meets accepted_middle)

low_turns : TurnsAt asked_group sender 3 low
unfolding machine_on_literals events_in network_ran join_packet may_turn
low_turns = record {
  turns = record {
    settled = low_settled;
    configured = lit≤ tt;
    is_up = refl;
    foreign = refl;
    way = refl;
    may = refl;
    goes_out = record {
      configured = lit≤ tt;
      group = refl;
      source = refl;
      wanted = record { row = record { expiry = Some 211000; pending = None }; found = refl };
    };
    on = refl;
  };
  room = refl;
  down_linked = refl;
  up_linked = refl;
}

mid_turns : TurnsAt asked_group sender 1 mid
unfolding machine_on_literals events_in network_ran join_packet may_turn
mid_turns = record {
  turns = record {
    settled = mid_settled;
    configured = lit≤ tt;
    is_up = refl;
    foreign = refl;
    way = refl;
    may = refl;
    goes_out = record {
      configured = lit≤ tt;
      group = refl;
      source = refl;
      wanted = record { row = record { expiry = Some 213000; pending = None }; found = refl };
    };
    on = refl;
  };
  room = refl;
  down_linked = refl;
  up_linked = refl;
}

the_copy : frame_at copied_there 10 ≡ Some (record { link = Some 2; bytes = copy_text (packet_of sent_packet) })
unfolding machine_on_literals network_ran join_packet
the_copy = refl

carried : IsCarried copied_there asked_group sender 2 content (1 + length below_copy)
unfolding machine_on_literals
carried = record {
  bytes = copy_text (packet_of sent_packet);
  packet = packet_of (copy_text (packet_of sent_packet));
  on_link = record { number = 10; is = the_copy };
  reads = refl;
  fits = lit≤ tt;
  group = refl;
  source = refl;
  is_data = refl;
  same = refl;
  time_to_live = refl;
}

multicast : is_multicast asked_group ≡ true
unfolding machine_on_literals
multicast = refl

far : is_link_local asked_group ≡ false
unfolding machine_on_literals
far = refl

pub tree_begins : TreeBegins
unfolding station_at
tree_begins =
    source_tree_begins copied_there asked_group sender 3 1 content below_copy multicast far (lit≤ tt) (low_turns, (mid_turns, tt))
    (later_stand joining to_the_copy (lower_place ∷ middle_place ∷ []) (refl, (refl, tt))) ((refl, tt), (tt, tt)) carried
