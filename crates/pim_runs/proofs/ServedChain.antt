-- The premises, computed.
use Rattle.std.{proofs.Common.{◌≡◌, ◌+◌, [], ◌∷◌, length, Some, Ok, refl, lit≤}}
use Rattle.pim_ip.{specs.Ipv4.packet_of}
use Rattle.pim_model.{specs.{declared.accepted.Accepted.Accepted, Cause.done_as, Limits.config_test, Network.{At, network_ran}}}
use Rattle.igmp_wire.{specs.declared.report.RecordType.RecordType}
use Rattle.law_settled.{proofs.Steps.run_is_settled}
use Rattle.pim_runs.{specs.{Words.unicast, ServedChain.{ChainIsServed, PacketIsServed, asked_group, chain, content, first, first_meets, first_place, register, report, request, root, second, second_meets, second_place, sender, sent_packet, third, third_meets, third_place}}, proofs.OnLiterals.machine_on_literals}
use Rattle.law_streams.{specs.{Copies.happens, Roots.{CanRegister, IsRegister}, HostsServed.{Asks, CanCarry, CanServeHost}, Ways.{CanGoOn, CanTake, IsGroup, IsNew, state_of, up_address}}, proofs.{Hosts.host_asks, ServedRegistered.register_is_brought, Whole.each_packet_is_served}}

is_group : IsGroup asked_group root
unfolding machine_on_literals
is_group = record { multicast = refl; goes_far = refl; rp_host = refl }

first_is_new : IsNew (state_of first_place) asked_group
unfolding machine_on_literals
first_is_new = record { unwanted = refl; sourceless = λ src. refl; unlost = λ i. refl; unlost_source = λ src i. refl }

second_is_new : IsNew (state_of second_place) asked_group
unfolding machine_on_literals
second_is_new = record { unwanted = refl; sourceless = λ src. refl; unlost = λ i. refl; unlost_source = λ src i. refl }

first_goes_on : CanGoOn asked_group first_place
unfolding machine_on_literals
first_goes_on = record { new = first_is_new; next = refl; linked = refl }

second_goes_on : CanGoOn asked_group second_place
unfolding machine_on_literals
second_goes_on = record { new = second_is_new; next = refl; linked = refl }

accepted_first : config_test first ≡ Ok tt
unfolding machine_on_literals
accepted_first = refl

accepted_second : config_test second ≡ Ok tt
unfolding machine_on_literals
accepted_second = refl

accepted_third : config_test third ≡ Ok tt
unfolding machine_on_literals
accepted_third = refl

first_carries : CanCarry sender first_place
unfolding machine_on_literals
first_carries = record {
  settled = run_is_settled first first_meets accepted_first;
  configured = lit≤ tt;
  is_up = refl;
  foreign = refl;
  room = refl;
  on = refl;
}

second_carries : CanCarry sender second_place
unfolding machine_on_literals
second_carries = record {
  settled = run_is_settled second second_meets accepted_second;
  configured = lit≤ tt;
  is_up = refl;
  foreign = refl;
  room = refl;
  on = refl;
}

is_report : done_as (happens (state_of first_place) report) ≡ Some (Accepted.Report (record { number = 0 }) (request ∷ []))
unfolding machine_on_literals
is_report = refl

answers : CanServeHost asked_group root sender 3 first_place
unfolding machine_on_literals
answers = record {
  can_go_on = first_goes_on;
  can_carry = first_carries;
  rp_known = refl;
  is_dr = refl;
  down_configured = lit≤ tt;
  down_linked = refl;
}

asks : Asks asked_group root sender 3 first_place report
asks =
    host_asks asked_group root sender 3 first_place report (request ∷ [])
    (record { record_type = RecordType.ToExclude; excluding = refl; is = refl }) is_report answers

second_takes : CanTake asked_group root (up_address first_place) (first_place.next).address.bits first_place.next_link second_place
unfolding machine_on_literals
second_takes = record {
  hears = record { configured = lit≤ tt; up = refl; neighbour = refl; other = refl };
  from_host = refl;
  to_fits = lit≤ tt;
  own = refl;
  on_link = refl;
  rp_known = refl;
  room = refl;
}

third_takes : CanTake asked_group root (up_address second_place) (second_place.next).address.bits second_place.next_link third_place
unfolding machine_on_literals
third_takes = record {
  hears = record { configured = lit≤ tt; up = refl; neighbour = refl; other = refl };
  from_host = refl;
  to_fits = lit≤ tt;
  own = refl;
  on_link = refl;
  rp_known = refl;
  room = refl;
}

pub chain_is_served : ChainIsServed
unfolding machine_on_literals
chain_is_served =
    each_packet_is_served chain asked_group root sender 3 first_place second_place report (third_place ∷ []) is_group asks
    (second_takes, second_goes_on, third_takes) (second_carries, tt) refl (refl, (refl, (refl, tt))) ((refl, (refl, tt)), ((refl, tt), (tt, tt)))

-- ---- a packet in a Register

third_registers : CanRegister asked_group root sender (state_of third_place)
unfolding machine_on_literals
third_registers = record {
  settled = run_is_settled third third_meets accepted_third;
  own = refl;
  rp_known = refl;
  unknown = refl;
  room = refl;
}

-- the packet in the Register needs a TTL of one more than the routers that forward it
is_register : IsRegister asked_group sender root register content (1 + length (first_place ∷ second_place ∷ []))
unfolding machine_on_literals
is_register = record {
  outer = packet_of register;
  reads = refl;
  of_pim = refl;
  destination = refl;
  inner = sent_packet;
  packet = packet_of sent_packet;
  is = refl;
  inner_reads = refl;
  fits = lit≤ tt;
  group = refl;
  source = refl;
  is_data = refl;
  same = refl;
  time_to_live = refl;
}

pub packet_is_served : PacketIsServed
unfolding machine_on_literals
packet_is_served f =
    f.served (unicast register) content 1 (lit≤ tt)
    (register_is_brought (network_ran chain (At 0 report ∷ f.joins)).1 asked_group root sender 0
    (1 + length (first_place ∷ second_place ∷ [])) register content third_place f.root refl third_registers is_register)
