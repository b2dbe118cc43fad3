use Rattle.std.{proofs.Common.{◌≡◌, drop}}
use Rattle.pim_model.{specs.Limits.are_once}
use Rattle.pim_anycast.{proofs.Once.shared_addresses}
use Rattle.pim_anycast.proofs.set.are_shared_once.Given as goal

abbrev pub invariant-loop-number : goal.invariant-loop-number
invariant-loop-number l = are_once (shared_addresses (drop l.number l.sets)) ≡ are_once (shared_addresses l.sets)
