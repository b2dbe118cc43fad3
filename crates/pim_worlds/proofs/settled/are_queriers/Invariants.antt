use Rattle.std.{proofs.Common.◌≡◌, specs.List.list_all}
use Rattle.law_settled.{specs.Laws.is_querier_entry}
use Rattle.pim_worlds.proofs.settled.are_queriers.Given as goal

abbrev pub invariant-loop-key : goal.invariant-loop-key
invariant-loop-key l = list_all is_querier_entry l.key-iterator ≡ list_all is_querier_entry l.fn.rows
