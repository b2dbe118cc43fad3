use Rattle.std.{proofs.Common.◌≡◌, specs.List.list_all}
use Rattle.law_settled.{specs.Laws.is_under_star}
use Rattle.pim_worlds.proofs.settled.are_stars.Given as goal

abbrev pub invariant-loop-key : goal.invariant-loop-key
invariant-loop-key g l = list_all is_under_star l.key-iterator ≡ list_all is_under_star l.fn.rows
