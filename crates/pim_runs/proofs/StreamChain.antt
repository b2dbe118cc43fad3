-- The premises, computed.
use Rattle.std.{proofs.Common.{◌≡◌, ◌+◌, [], ◌∷◌, length, Some, None, Ok, false, refl, lit≤}}
use Rattle.pim_runs.{specs.{ServedChain.{asked_group, chain, content, first, first_meets, first_place, register, root, second, second_meets, second_place, sender, sent_packet, third, third_meets, third_place}, Words.{address, unicast}, StreamChain.{RegisteredPacketIsServed, NothingEndsStream, SecondRouterBegins, BothRoutersPass, asked_then, second_then, receivers, trees, climb, climbed, later, way}}, proofs.OnLiterals.machine_on_literals}
use Rattle.pim_model.{specs.{Limits.config_test, Network.{network_ran, station_at, frame_at}, Sets.prunes, State.State}}
use Rattle.law_streams.{specs.{Networks.events_in, Joins.join_packet, Ways.{Place, state_of, CanTake, IsGroup}, Roots.{IsBrought, IsRegister}, Passing.{Receiver, Tree, any_ends_passing, ends_passing, has_expired, has_moved, is_lost, membership_ends, takes_effect}, Climbing.{CanStream, join_frame}, Streams.{PassesAt, later_place}, StreamRoots.{Sends, any_ends_sending, ends_sending}}, proofs.{Networks.runs_alone, Begins.join_begins_stream, Passing.{none_ends, stays_settled}, Streams.later_stand, StreamRoots.{each_of_stream_is_served, each_register_is_brought, none_ends_sending}}}
use Rattle.law_settled.{specs.Ready.IsSettled, proofs.Steps.run_is_settled}
use Rattle.pim_ip.{specs.Ipv4.packet_of}

accepted_first : config_test first ≡ Ok tt
unfolding machine_on_literals
accepted_first = refl

accepted_second : config_test second ≡ Ok tt
unfolding machine_on_literals
accepted_second = refl

abbrev one : Place
one = later_place chain climb first_place

abbrev two : Place
two = later_place chain climb second_place

one_settled : IsSettled (state_of one)
one_settled = stays_settled (state_of first_place) (events_in 0 chain climb) (run_is_settled first first_meets accepted_first)

two_settled : IsSettled (state_of two)
two_settled = stays_settled (state_of second_place) (events_in 1 chain climb) (run_is_settled second second_meets accepted_second)

pub first_passes : PassesAt Tree.Shared Receiver.Host asked_group sender 3 one
unfolding machine_on_literals events_in network_ran
first_passes = record {
  passes = record {
    settled = one_settled;
    matched = tt;
    comes_in = record { configured = lit≤ tt; is_up = refl; foreign = refl; on = record { on_tree = refl; source_too = refl } };
    goes_out = record { configured = lit≤ tt; group = refl; source = refl; wanted = refl };
    room = refl;
    on = refl;
  };
  down_linked = refl;
  up_linked = refl;
}

pub second_passes : PassesAt Tree.Shared Receiver.Router asked_group sender 1 two
unfolding machine_on_literals events_in network_ran
second_passes = record {
  passes = record {
    settled = two_settled;
    matched = tt;
    comes_in = record { configured = lit≤ tt; is_up = refl; foreign = refl; on = record { on_tree = refl; source_too = refl } };
    goes_out = record {
      configured = lit≤ tt;
      group = refl;
      source = refl;
      wanted = record { row = record { expiry = Some 213000; pending = None }; found = refl; none_prunes = refl };
    };
    room = refl;
    on = refl;
  };
  down_linked = refl;
  up_linked = refl;
}

pub both_routers_pass : BothRoutersPass
both_routers_pass = (first_passes, (second_passes, tt))

first_goes_on : any_ends_passing Tree.Shared Receiver.Host (state_of one) (events_in 0 climbed later) asked_group sender 1 0 ≡ false
unfolding machine_on_literals events_in network_ran any_ends_passing ends_passing has_expired has_moved is_lost membership_ends join_packet takes_effect prunes
first_goes_on = refl

second_goes_on : any_ends_passing Tree.Shared Receiver.Router (state_of two) (events_in 1 climbed later) asked_group sender 1 0 ≡ false
unfolding machine_on_literals events_in network_ran any_ends_passing ends_passing has_expired has_moved is_lost membership_ends join_packet takes_effect prunes
second_goes_on = refl

pub nothing_ends_stream : NothingEndsStream
nothing_ends_stream = (
  none_ends Tree.Shared Receiver.Host (state_of one) (events_in 0 climbed later) asked_group sender 1 0 first_goes_on,
  (none_ends Tree.Shared Receiver.Router (state_of two) (events_in 1 climbed later) asked_group sender 1 0 second_goes_on, tt),
)

-- ---- the RP

abbrev last : Place
last = later_place chain climb third_place

accepted_third : config_test third ≡ Ok tt
unfolding machine_on_literals
accepted_third = refl

third_settled : IsSettled (state_of last)
third_settled = stays_settled (state_of third_place) (events_in 2 chain climb) (run_is_settled third third_meets accepted_third)

pub third_sends : Sends (state_of last) asked_group sender 0
unfolding machine_on_literals events_in network_ran
third_sends = record {
  settled = third_settled;
  goes_out = record {
    configured = lit≤ tt;
    group = refl;
    source = refl;
    wanted = record { row = record { expiry = Some 215000; pending = None }; found = refl; none_prunes = refl };
  };
}

third_goes_on : any_ends_sending (state_of last) (events_in 2 climbed later) asked_group sender 0 ≡ false
unfolding machine_on_literals events_in network_ran any_ends_sending ends_sending has_expired has_moved is_lost membership_ends join_packet takes_effect prunes
third_goes_on = refl

-- ---- all together

-- the packet in the Register needs a TTL of one more than the routers that forward it
is_register : IsRegister asked_group sender root register content (1 + length way)
unfolding machine_on_literals
is_register = record {
  outer = packet_of register;
  reads = refl;
  of_pim = refl;
  destination = refl;
  inner = sent_packet;
  packet = packet_of sent_packet;
  is = refl;
  inner_reads = refl;
  fits = lit≤ tt;
  group = refl;
  source = refl;
  is_data = refl;
  same = refl;
  time_to_live = refl;
}

abbrev end_state : State
end_state = state_of (later_place climbed later last)

brought : IsBrought end_state (unicast register) asked_group sender 0 content (1 + length way)
unfolding machine_on_literals events_in network_ran join_packet
brought = each_register_is_brought end_state asked_group root sender 0 0 (1 + length way) register content refl refl refl refl refl is_register

pub registered_packet_is_served : RegisteredPacketIsServed
unfolding machine_on_literals
registered_packet_is_served =
    each_of_stream_is_served trees receivers climbed later asked_group sender 3 1 content last way (unicast register) refl refl
    (lit≤ tt) third_sends refl both_routers_pass
    (later_stand chain climb (third_place ∷ first_place ∷ second_place ∷ []) (refl, (refl, (refl, tt))))
    ((refl, (refl, tt)), ((refl, tt), (tt, tt)))
    (none_ends_sending (state_of last) (events_in 2 climbed later) asked_group sender 0 third_goes_on)
    nothing_ends_stream brought

-- ---- the second router from its Join on

is_group : IsGroup asked_group root
unfolding machine_on_literals
is_group = record { multicast = refl; goes_far = refl; rp_host = refl }

takes_it : CanTake asked_group root (address 10 0 1 1) (address 10 0 1 2) 1 second_then
unfolding machine_on_literals events_in network_ran
takes_it = record {
  hears = record { configured = lit≤ tt; up = refl; neighbour = refl; other = refl };
  from_host = refl;
  to_fits = lit≤ tt;
  own = refl;
  on_link = refl;
  rp_known = refl;
  room = refl;
}

can_stream : CanStream asked_group sender second_then
unfolding machine_on_literals events_in network_ran
can_stream = record {
  settled = stays_settled (state_of second_place) (events_in 1 chain asked_then) (run_is_settled second second_meets accepted_second);
  configured = lit≤ tt;
  is_up = refl;
  foreign = refl;
  on_tree = refl;
  source_too = refl;
  unlost = refl;
  room = refl;
  on = refl;
}

the_frame : frame_at (network_ran chain asked_then).1 6 ≡ Some (join_frame asked_group root (address 10 0 1 1) (address 10 0 1 2) 1)
unfolding machine_on_literals network_ran join_packet
the_frame = refl

pub second_router_begins : SecondRouterBegins
unfolding station_at
second_router_begins state is =
    join_begins_stream asked_group root (address 10 0 1 1) (address 10 0 1 2) 1 sender 6 second_then (network_ran chain asked_then).1
    is_group takes_it can_stream ((runs_alone 1 asked_then chain).stands (second_place).station refl) the_frame state is
