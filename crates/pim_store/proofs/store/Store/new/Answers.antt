use Rattle.std.{proofs.Common.{ap, refl}}
use Rattle.pim_tables.{specs.RowsIn.rows_in}
use Rattle.pim_store.{specs.Said.timers_in, proofs.Indexed.none_told}
use Rattle.pim_store.proofs.store.Store.new.Goals as goal

pub invariant_of-result : goal.invariant_of-result
invariant_of-result c = record {
  downstream = none_told c.new-6.ensures c.new.ensures;
  asserts = none_told c.new-6.ensures c.new-2.ensures;
  join_timers = refl;
  override_timers = none_told c.new-6.ensures c.new-3.ensures;
  sources = none_told c.new-6.ensures c.new-4.ensures;
  registers = none_told c.new-6.ensures c.new-5.ensures;
}

pub returns : goal.returns
unfolding timers_in rows_in
returns c = λ j. record {
  downstream = c.new.ensures j;
  asserts = c.new-2.ensures j;
  join_timers = ap timers_in c.new-6.ensures j;
  override_timers = c.new-3.ensures j;
  sources = c.new-4.ensures j;
  registers = c.new-5.ensures j;
}
