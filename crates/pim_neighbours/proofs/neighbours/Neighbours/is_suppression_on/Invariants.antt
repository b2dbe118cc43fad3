use Rattle.std.{proofs.Common.◌≡◌}
use Rattle.pim_model.{specs.{Neighbours.is_suppression_among, Tables.rows_on}}
use Rattle.pim_neighbours.proofs.neighbours.Neighbours.is_suppression_on.Given as goal

abbrev pub invariant-loop-row : goal.invariant-loop-row
invariant-loop-row l = is_suppression_among l.row-iterator ≡ is_suppression_among (rows_on l.fn.iface.number l.self)
