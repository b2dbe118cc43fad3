use Rattle.std.{proofs.Common.{◌≡◌, map}}
use Rattle.pim_ip.{specs.Ipv4.copy_text}
use Rattle.pim_model.{specs.Writing.on_link}
use Rattle.pim_types.{specs.declared.config.IfaceId.IfaceId as IfaceValue}
use Rattle.pim_data.proofs.leaving.copies_on.Given as goal

abbrev pub invariant-loop-iface : goal.invariant-loop-iface
invariant-loop-iface l = l.copies.items ≡ map (λ (iface : IfaceValue). on_link iface.number (copy_text l.packet)) l.yielded
