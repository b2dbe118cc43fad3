-- Rows of IGMP put one after the other.
use Rattle.igmp_membership.{specs.MembershipTables.MembershipTables}
use Rattle.pim_types.{specs.declared.fact.QuerierRow.QuerierRow}
use Rattle.pim_model.{specs.Tables.Table}
use Rattle.pim_saver.{specs.declared.state.SavedRecords.SavedRecords}
use Rattle.pim_worlds.{specs.Refilled.refilled}

-- IGMP's facts as they were read
abbrev pub tables_in : Table QuerierRow → SavedRecords → MembershipTables
tables_in queriers r = record {
  queriers = queriers;
  group_records = r.group_records.items;
  source_records = r.source_records.items;
  group_repeats = r.group_repeats.items;
  source_repeats = r.source_repeats.items;
  sendings = r.sendings.items;
}

abbrev pub all_refilled : MembershipTables → MembershipTables → MembershipTables
all_refilled t rows = record {
  queriers = refilled t.queriers rows.queriers;
  group_records = refilled t.group_records rows.group_records;
  source_records = refilled t.source_records rows.source_records;
  group_repeats = refilled t.group_repeats rows.group_repeats;
  source_repeats = refilled t.source_repeats rows.source_repeats;
  sendings = refilled t.sendings rows.sendings;
}
