use Rattle.std.{proofs.Common.{◌≡◌, drop}}
use Rattle.pim_model.{specs.Limits.is_in_subnet}
use Rattle.pim_ifaces.proofs.limits.is_in_subnet.Given as goal

abbrev pub invariant-loop-interface : goal.invariant-loop-interface
invariant-loop-interface l =
    is_in_subnet (drop l.interface-index l.configured) l.address.bits ≡ is_in_subnet l.configured l.address.bits
