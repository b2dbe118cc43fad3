-- A store: its tables, and the entries of groups and sources. No public clause cites this module.
use Rattle.std.{specs.Prelude.◌≡◌}
use Rattle.pim_model.{specs.Tables.Table}
use Rattle.pim_store.{specs.{PimTables.PimTables, Said.{IsTold, is_of_iface, is_plain_of_iface, is_rpt_of_router, is_source_of_router, timers_in}, Telling.{assert_says, assert_table, downstream_says, downstream_table, is_there, is_told_by, override_timer_table, register_table, source_table}, declared.{marks.Marks.Marks, store.Store.TheInside.Inside}}}

-- The tables of a store; the Join timers are those of the index.
abbrev pub tables_of : Inside → PimTables
tables_of s = record {
  downstream = s.downstream;
  asserts = s.asserts;
  join_timers = timers_in s.index;
  override_timers = s.override_timers;
  sources = s.sources;
  registers = s.registers;
}

-- The marks are as the rows of all tables say, and the Join timers are in the same entries.
pub record IsIndexed (marks : Table Marks) (f : PimTables) : Type 0 where
  pub downstream : IsTold (is_told_by downstream_table) downstream_says is_of_iface marks f.downstream
  pub asserts : IsTold (is_told_by assert_table) assert_says is_plain_of_iface marks f.asserts
  pub join_timers : f.join_timers ≡ timers_in marks
  pub override_timers : IsTold (is_told_by override_timer_table) is_there is_rpt_of_router marks f.override_timers
  pub sources : IsTold (is_told_by source_table) is_there is_source_of_router marks f.sources
  pub registers : IsTold (is_told_by register_table) is_there is_source_of_router marks f.registers
