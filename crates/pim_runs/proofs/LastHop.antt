-- The premises, computed.
use Rattle.std.proofs.Common.{◌≡◌, Ok, refl, lit≤, lit<}
use Rattle.pim_ip.{specs.Ipv4.packet_of}
use Rattle.pim_model.{specs.Limits.config_test}
use Rattle.law_settled.{specs.Ready.IsSettled, proofs.Steps.run_is_settled}
use Rattle.law_streams.{specs.{Passing.Receiver, Turning.may_turn}, proofs.{Passing.stays_settled, LastHop.last_hop_sets_spt_bit}}
use Rattle.pim_runs.{specs.{ServedChain.sent_packet, Switch.{asked, first_on_source, meets, on_shared, still_shared, switching}, LastHop.{LastHopCanChange, LastHopChanges}}, proofs.OnLiterals.machine_on_literals}

accepted : config_test switching ≡ Ok tt
unfolding machine_on_literals
accepted = refl

settled : IsSettled still_shared
settled = stays_settled asked on_shared (run_is_settled switching meets accepted)

pub last_hop_can_change : LastHopCanChange
unfolding machine_on_literals may_turn
last_hop_can_change = record {
  settled = settled;
  configured = lit≤ tt;
  is_up = refl;
  foreign = refl;
  way = refl;
  may = refl;
  goes_out = record { configured = lit≤ tt; group = refl; source = refl; wanted = refl };
  serving = refl;
  alive = refl;
  on = refl;
}

pub last_hop_changes : LastHopChanges
unfolding machine_on_literals
last_hop_changes =
    last_hop_sets_spt_bit Receiver.Host still_shared first_on_source (packet_of sent_packet) 2 0 last_hop_can_change
    (record { done = refl; lives = lit< tt })
