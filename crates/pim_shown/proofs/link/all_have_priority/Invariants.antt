use Rattle.std.{proofs.Common.◌≡◌}
use Rattle.pim_model.{specs.{Neighbours.all_have_priority, Tables.rows_on}}
use Rattle.pim_shown.proofs.link.all_have_priority.Given as goal

abbrev pub invariant-loop-row : goal.invariant-loop-row
invariant-loop-row l = all_have_priority l.row-iterator ≡ all_have_priority (rows_on l.fn.iface.number l.known)
