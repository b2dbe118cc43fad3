use Rattle.std.{proofs.Common.{◌≡◌, drop}}
use Rattle.law_states.{specs.Placing.are_once}
use Rattle.pim_worlds.proofs.orders.are_once.Given as goal

abbrev pub invariant-loop-index : goal.invariant-loop-index
invariant-loop-index l = are_once (drop l.index l.numbers) ≡ are_once l.numbers
