-- What the machines of a key read of a state: the rows under some keys, and what all groups share.
use Rattle.std.{specs.{List.list_any, Option.option_map_or, Prelude.{Bool, None, Option, Some, [], is_some, map, false, ℕ, ◌&&◌, ◌==◌, ◌||◌}}}
use Rattle.pim_types.{specs.{declared.fact.{AssertRow.AssertRow, DownstreamRow.DownstreamRow, GroupRecordRow.GroupRecordRow, InterfaceRow.InterfaceRow, NeighbourRow.NeighbourRow, Key.Key, RegisterRow.RegisterRow, RegisterState.RegisterState, SourceRecordRow.SourceRecordRow, SourceRow.SourceRow}, Keys.{group_in, iface_in, is_of_group, source_in}}}
use Rattle.pim_model.{specs.{State.State, Records.is_at_group, Tables.{Table, row_at, rows_where}}}

-- Which keys the machines of a key read. They are the machine of (*,G), or those of (S,G) and (S,G,rpt). They read the
-- rows of (*,G), and those of their own source.
unfoldable pub reads : Key → Key → Bool
reads k q = (group_in q == group_in k) && ((source_in q == 0) || (source_in q == source_in k))

-- the rows of a group
abbrev pub rows_of : {R : Type 0} → ℕ → Table R → Table R
rows_of g t = rows_where (is_of_group g) t

-- An interface row as macros read it: without its Hellos.
abbrev pub only_up : Key × InterfaceRow → Key × InterfaceRow
only_up e = (e.0, record { generation = 0; hello_end = 0; is_hello_owed = false })

-- A neighbour row as macros read it: its priority alone.
abbrev pub only_priority : Key × NeighbourRow → Key × NeighbourRow
only_priority e = (e.0, record e.1 { end = None; lan_delay = None; generation = None })

-- Whether a timer runs, without when it expires.
abbrev pub only_running : Option ℕ → Option ℕ
only_running None = None
only_running (Some end) = Some 0

-- A group record with its mode alone: no macro reads when its timer expires.
abbrev pub only_mode : Key × GroupRecordRow → Key × GroupRecordRow
only_mode e = (e.0, record { end = only_running (e.1).end })

-- A source record with its side alone, included or excluded: no macro reads when its timer expires.
abbrev pub only_side : Key × SourceRecordRow → Key × SourceRecordRow
only_side e = (e.0, record { end = only_running (e.1).end })

-- A downstream state as macros read it: whether its Expiry Timer and its Prune-Pending Timer run.
abbrev pub only_kind : Key × DownstreamRow → Key × DownstreamRow
only_kind e = (e.0, record { expiry = only_running (e.1).expiry; pending = only_running (e.1).pending })

-- An assert as macros read it: its role and its winner.
abbrev pub only_winner : Key × AssertRow → Key × AssertRow
only_winner e = (e.0, record e.1 { end = 0 })

-- A source fact as macros read it: whether KAT(S,G) runs, and SPTbit(S,G).
abbrev pub only_kept : Key × SourceRow → Key × SourceRow
only_kept e = (e.0, record { keepalive = only_running (e.1).keepalive; spt = (e.1).spt })

-- A register state without when its timer expires.
abbrev pub state_without_end : RegisterState → RegisterState
state_without_end RegisterState.Join = RegisterState.Join
state_without_end (RegisterState.JoinPending end) = RegisterState.JoinPending 0
state_without_end (RegisterState.Prune end) = RegisterState.Prune 0

abbrev pub only_registered : Key × RegisterRow → Key × RegisterRow
only_registered e = (e.0, record { state = state_without_end (e.1).state })

-- Which records of groups are read. In INCLUDE a source's macros read whether the group has a record only where the
-- source has a record. Therefore records in EXCLUDE are read, and those of groups with a source record that is read.
unfoldable pub is_mode_read : Table GroupRecordRow → Table SourceRecordRow → Key → Bool
is_mode_read groups sources k =
    option_map_or (λ (r : GroupRecordRow). is_some r.end) (row_at groups k) false
    || list_any (λ e. is_at_group (iface_in k) (group_in k) e.0) sources

abbrev pub modes_read : Table GroupRecordRow → Table SourceRecordRow → Table GroupRecordRow
modes_read groups sources = rows_where (is_mode_read groups sources) groups

-- The state as macros see it that read only the given keys. They don't read the present time, timers of upstream
-- states, or queriers.
unfoldable pub scope : (Key → Bool) → State → State
scope sees s = record {
  settings = s.settings;
  configured = s.configured;
  present = 0;
  routes = s.routes;
  ranges = s.ranges;
  interfaces = map only_up s.interfaces;
  neighbours = map only_priority s.neighbours;
  queriers = [];
  group_records = modes_read (map only_mode (rows_where sees s.group_records))
      (map only_side (rows_where sees s.source_records));
  source_records = map only_side (rows_where sees s.source_records);
  group_repeats = [];
  source_repeats = [];
  sendings = [];
  downstream = map only_kind (rows_where sees s.downstream);
  asserts = map only_winner (rows_where sees s.asserts);
  join_timers = [];
  override_timers = [];
  sources = map only_kept (rows_where sees s.sources);
  registers = map only_registered (rows_where sees s.registers);
}

-- The state as macros see it that read only the given keys, with all records of groups.
unfoldable pub whole_scope : (Key → Bool) → State → State
whole_scope sees s = record (scope sees s) { group_records = map only_mode (rows_where sees s.group_records) }
