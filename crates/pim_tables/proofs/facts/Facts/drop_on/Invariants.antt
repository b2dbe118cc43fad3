use Rattle.std.{proofs.Common.{◌≡◌, length}}
use Rattle.pim_types.{specs.Keys.is_on}
use Rattle.pim_model.{specs.Tables.drop_where}
use Rattle.pim_tables.proofs.facts.Facts.drop_on.Given as goal

abbrev pub invariant-loop-first : goal.invariant-loop-first
invariant-loop-first g l = drop_where (is_on l.iface.number) l.self ≡ drop_where (is_on l.iface.number) l.fn.self

abbrev pub decreases-loop-first : goal.decreases-loop-first
decreases-loop-first g l = length l.self
