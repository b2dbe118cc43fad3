-- The tables of the state that are borrowed: what the state is with another value of one.
use Rattle.std.{specs.Borrow.{Fml, Lends, MutBor}}
use Rattle.pim_model.{specs.State.State}
use Rattle.igmp_membership.{specs.{MembershipTables.MembershipTables, contracts.membership.Membership.the_row as membership_row}}
use Rattle.pim_store.{specs.{PimTables.PimTables, contracts.store.Store.the_row as store_row}}
use Rattle.pim_state.{specs.contracts.world.World.the_row}

-- the tables of IGMP's facts of a state
abbrev pub membership_tables : State → MembershipTables
membership_tables s = record {
  queriers = s.queriers;
  group_records = s.group_records;
  source_records = s.source_records;
  group_repeats = s.group_repeats;
  source_repeats = s.source_repeats;
  sendings = s.sendings;
}

-- a state with other tables of IGMP's facts
abbrev pub with_membership : State → MembershipTables → State
with_membership s m = record s {
  queriers = m.queriers;
  group_records = m.group_records;
  source_records = m.source_records;
  group_repeats = m.group_repeats;
  source_repeats = m.source_repeats;
  sendings = m.sendings;
}

-- a state with other tables of PIM's facts
abbrev pub with_store : State → PimTables → State
with_store s f = record s {
  downstream = f.downstream;
  asserts = f.asserts;
  join_timers = f.join_timers;
  override_timers = f.override_timers;
  sources = f.sources;
  registers = f.registers;
}

-- The state ends with the last value of the borrowed table.
abbrev pub LendsMembership : MutBor State → MutBor MembershipTables → Fml
LendsMembership s r = Lends the_row membership_row s r (with_membership s.now)

-- A world lends its tables of PIM's facts.
abbrev pub LendsStore : MutBor State → MutBor PimTables → Fml
LendsStore s r = Lends the_row store_row s r (with_store s.now)
