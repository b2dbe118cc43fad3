use Rattle.std.{proofs.Common.{◌≡◌, map}, specs.List.range_with_len}
use Rattle.law_states.{specs.Placing.index_of}
use Rattle.pim_worlds.proofs.orders.indices.Given as goal

abbrev pub invariant-loop-number : goal.invariant-loop-number
invariant-loop-number l = l.indices.items ≡ map (index_of l.order) (range_with_len 0 l.number)
