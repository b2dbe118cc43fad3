use Rattle.std.{proofs.Common.{ap, length, subst, sym}}
use Rattle.pim_model.{specs.Tables.Table}
use Rattle.pim_tables.{specs.RowsIn.rows_in}
use Rattle.pim_store.{specs.{JoinTimers.AreTimersInStep, Said.timers_in, declared.marks.Marks.Marks}, proofs.Writes.no_entries}
use Rattle.pim_store.proofs.index.Index.new.Goals as goal

pub invariant_of-result : goal.invariant_of-result
unfolding timers_in rows_in
invariant_of-result c = record {
  entries = no_entries _ c.new.ensures;
  in_step = subst (λ (u : Table Marks). AreTimersInStep c.new-2.result u) (sym c.new.ensures) c.new-2.ensures;
  counted = ap (λ (u : Table Marks). length (timers_in u)) (sym c.new.ensures);
}
