use Rattle.std.{proofs.Common.{◌≡◌, drop}}
use Rattle.pim_model.{specs.Limits.are_apart}
use Rattle.pim_ifaces.proofs.limits.are_apart.Given as goal

abbrev pub invariant-loop-number : goal.invariant-loop-number
invariant-loop-number l = are_apart (drop l.number l.configured) ≡ are_apart l.configured
