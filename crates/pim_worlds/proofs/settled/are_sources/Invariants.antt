use Rattle.std.{proofs.Common.◌≡◌, specs.List.list_all}
use Rattle.law_settled.{specs.Laws.is_under_source}
use Rattle.pim_worlds.proofs.settled.are_sources.Given as goal

abbrev pub invariant-loop-key : goal.invariant-loop-key
invariant-loop-key g l = list_all is_under_source l.key-iterator ≡ list_all is_under_source l.fn.rows
