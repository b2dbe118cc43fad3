-- The premises, computed.
use Rattle.std.proofs.Common.{◌≡◌, ◌+◌, inl, [], ◌∷◌, length, Ok, None, Some, false, refl, lit≤, lit<}
use Rattle.pim_ip.{specs.Ipv4.{is_link_local, packet_of}}
use Rattle.pim_model.{specs.{Limits.config_test, Network.station_at, Registers.registering_address}}
use Rattle.law_settled.{specs.Ready.IsSettled, proofs.Steps.run_is_settled}
use Rattle.law_streams.{specs.{Joins.join_packet, Ways.{StandIn, state_of}, Passing.{Receiver, Tree}, StreamRoots.Sends, Sources.{IsSent, Registers}, Streams.{IsStreamed, PassesAt}, Registered.{AreAddresses, CanDecapsulate}}, proofs.SourceTreeRegistered.registered_is_served}
use Rattle.pim_runs.{specs.{Registered.{SourceIsRegistered, dr_there, first_asked, first_there, from_source, root_there, second_asked, second_there, third_asked, with_dr}, ServedChain.{asked_group, content, first, packet_living, root, second, sender, third}, StreamChain.{receivers, trees}}, proofs.OnLiterals.machine_on_literals}

accepted_first : config_test first ≡ Ok tt
unfolding machine_on_literals
accepted_first = refl

accepted_second : config_test second ≡ Ok tt
unfolding machine_on_literals
accepted_second = refl

accepted_third : config_test third ≡ Ok tt
unfolding machine_on_literals
accepted_third = refl

first_settled : IsSettled (state_of first_there)
first_settled = run_is_settled first first_asked accepted_first

second_settled : IsSettled (state_of second_there)
second_settled = run_is_settled second second_asked accepted_second

third_settled : IsSettled (state_of root_there)
third_settled = run_is_settled third third_asked accepted_third

first_passes : PassesAt Tree.Shared Receiver.Host asked_group sender 3 first_there
unfolding machine_on_literals join_packet
first_passes = record {
  passes = record {
    settled = first_settled;
    matched = tt;
    comes_in = record { configured = lit≤ tt; is_up = refl; foreign = refl; on = record { on_tree = refl; source_too = refl } };
    goes_out = record { configured = lit≤ tt; group = refl; source = refl; wanted = refl };
    room = refl;
    on = refl;
  };
  down_linked = refl;
  up_linked = refl;
}

second_passes : PassesAt Tree.Shared Receiver.Router asked_group sender 1 second_there
unfolding machine_on_literals join_packet
second_passes = record {
  passes = record {
    settled = second_settled;
    matched = tt;
    comes_in = record { configured = lit≤ tt; is_up = refl; foreign = refl; on = record { on_tree = refl; source_too = refl } };
    goes_out = record {
      configured = lit≤ tt;
      group = refl;
      source = refl;
      wanted = record { row = record { expiry = Some 210000; pending = None }; found = refl; none_prunes = refl };
    };
    room = refl;
    on = refl;
  };
  down_linked = refl;
  up_linked = refl;
}

streamed : IsStreamed trees receivers asked_group sender 3 (first_there ∷ second_there ∷ [])
streamed = (first_passes, (second_passes, tt))

root_sends : Sends (state_of root_there) asked_group sender 0
unfolding machine_on_literals join_packet
root_sends = record {
  settled = third_settled;
  goes_out = record {
    configured = lit≤ tt;
    group = refl;
    source = refl;
    wanted = record { row = record { expiry = Some 210000; pending = None }; found = refl; none_prunes = refl };
  };
}

-- ---- the DR

registers : Registers (state_of dr_there) asked_group sender 0 root
unfolding machine_on_literals
registers = record {
  at = record { connected = refl; way = refl };
  dr = refl;
  rp_known = refl;
  other = refl;
  unstopped = inl refl;
}

sent : IsSent (state_of dr_there) from_source asked_group sender 0 content (1 + length (first_there ∷ second_there ∷ []) + 1)
unfolding machine_on_literals
sent = record {
  bytes = packet_living 5;
  packet = packet_of (packet_living 5);
  reads = refl;
  fits = lit≤ tt;
  group = refl;
  source = refl;
  is_data = refl;
  same = refl;
  time_to_live = refl;
  done = refl;
}

addresses : AreAddresses asked_group sender (registering_address (state_of dr_there) sender) root
unfolding machine_on_literals
addresses = record { multicast = refl; host = refl; from_host = refl; to_fits = lit< tt }

decapsulates : CanDecapsulate asked_group root sender (state_of root_there)
unfolding machine_on_literals join_packet
decapsulates = record { own = refl; rp_known = refl; unset = refl; room = refl }

-- ---- all together

far : is_link_local asked_group ≡ false
unfolding machine_on_literals
far = refl

stand_there : StandIn with_dr (root_there ∷ first_there ∷ second_there ∷ [])
unfolding station_at
stand_there = (refl, (refl, (refl, tt)))

dr_stands : station_at with_dr 3 ≡ Some dr_there.station
unfolding station_at
dr_stands = refl

pub source_is_registered : SourceIsRegistered
source_is_registered =
    registered_is_served trees receivers with_dr asked_group root sender 3 0 1 7 content dr_there root_there (first_there ∷ second_there ∷ [])
    from_source far (lit≤ tt) addresses root_sends refl streamed stand_there ((refl, (refl, tt)), ((refl, tt), (tt, tt))) dr_stands
    (refl, (refl, (refl, tt))) registers sent decapsulates
