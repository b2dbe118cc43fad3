use Rattle.std.{proofs.Common.{◌≡◌, ◌++◌, filter, take}}
use Rattle.pim_model.{specs.Tables.same_bool}
use Rattle.pim_downstream.proofs.full.push_where.Given as goal

abbrev pub invariant-loop-key : goal.invariant-loop-key
invariant-loop-key l =
    l.found.items ≡ l.fn.found.items ++ filter (λ k. same_bool l.is_rpt k.rpt) (take l.key-index l.keys)
