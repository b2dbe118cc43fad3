use Rattle.std.{proofs.Common.{◌≡◌, length, ◌+◌}}
use Rattle.pim_model.{specs.Tables.rows_on}
use Rattle.pim_tables.proofs.facts.Facts.count_on.Given as goal

abbrev pub invariant-loop-row : goal.invariant-loop-row
invariant-loop-row g l = l.count + length l._row-iterator ≡ length (rows_on l.fn.iface.number l.self)
