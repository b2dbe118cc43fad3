use Rattle.std.{proofs.Common.{◌≡◌, drop}}
use Rattle.law_states.{specs.Placing.index_from}
use Rattle.pim_worlds.proofs.numbers.index_of.Given as goal

abbrev pub invariant-loop-index : goal.invariant-loop-index
invariant-loop-index l = index_from l.index l.number (drop l.index l.numbers) ≡ index_from 0 l.number l.numbers
