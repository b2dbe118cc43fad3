use Rattle.std.{proofs.Common.{◌≡◌, drop, fold}}
use Rattle.pim_downstream.{specs.Naming.row_set}
use Rattle.pim_downstream.proofs.message.set_rows.Given as goal

abbrev pub invariant-loop-change : goal.invariant-loop-change
invariant-loop-change l = fold row_set l.world (drop l.change-index l.changes) ≡ fold row_set l.fn.world l.changes
