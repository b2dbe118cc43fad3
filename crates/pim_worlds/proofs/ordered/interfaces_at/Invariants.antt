use Rattle.std.{proofs.Common.{◌≡◌, ◌++◌, drop}}
use Rattle.law_states.{specs.Placing.interfaces_at}
use Rattle.pim_worlds.proofs.ordered.interfaces_at.Given as goal

abbrev pub invariant-loop-place : goal.invariant-loop-place
invariant-loop-place l =
    l.made.items ++ interfaces_at l.configured (drop l.place-index l.order) ≡ interfaces_at l.configured l.order
