-- Rows of a saved state put into tables, one after the other.
use Rattle.std.{specs.Prelude.{[], ◌∷◌}}
use Rattle.pim_model.{specs.Tables.{Table, put}}
use Rattle.pim_saver.{specs.declared.state.SavedTrees.SavedTrees}
use Rattle.pim_store.{specs.PimTables.PimTables}

-- a table with these rows put into it
abbrev pub refilled : {R : Type 0} → Table R → Table R → Table R
refilled t [] = t
refilled t (e ∷ rows) = refilled (put t e.0 e.1) rows

-- PIM's facts as they were read
abbrev pub tables_in : SavedTrees → PimTables
tables_in r = record {
  downstream = r.downstream.items;
  asserts = r.asserts.items;
  join_timers = r.join_timers.items;
  override_timers = r.override_timers.items;
  sources = r.sources.items;
  registers = r.registers.items;
}

abbrev pub all_refilled : PimTables → PimTables → PimTables
all_refilled t rows = record {
  downstream = refilled t.downstream rows.downstream;
  asserts = refilled t.asserts rows.asserts;
  join_timers = refilled t.join_timers rows.join_timers;
  override_timers = refilled t.override_timers rows.override_timers;
  sources = refilled t.sources rows.sources;
  registers = refilled t.registers rows.registers;
}
