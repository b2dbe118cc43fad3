use Rattle.std.{proofs.Common.{◌≡◌, ◌++◌, drop, length}}
use Rattle.pim_ifaces.{specs.Subnets.owns_from}
use Rattle.pim_ifaces.proofs.configured.owns_of.Given as goal

abbrev pub invariant-loop-number : goal.invariant-loop-number
invariant-loop-number l =
    (l.owns.items ++ owns_from l.number (drop l.number l.configured) ≡ owns_from 0 l.configured)
    × (length l.owns.items ≡ l.number)
