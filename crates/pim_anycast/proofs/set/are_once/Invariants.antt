use Rattle.std.{proofs.Common.{◌≡◌, drop}}
use Rattle.pim_model.{specs.Limits.are_once}
use Rattle.pim_anycast.proofs.set.are_once.Given as goal

abbrev pub invariant-loop-number : goal.invariant-loop-number
invariant-loop-number l = are_once (drop l.number l.addresses) ≡ are_once l.addresses
