-- The tables of a state, and the timers of each kind as ends of the rows of one of them.
use Rattle.std.{specs.{List.AllByRecursion, Prelude.{Bool, List, Option, Some, [], refl, true, ℕ, ◌∷◌, ◌≡◌}}, proofs.Common.arith}
use Rattle.pim_types.{specs.declared.{fact.{AssertRow.AssertRow, DownstreamRow.DownstreamRow, GroupRecordRow.GroupRecordRow, GroupRepeatRow.GroupRepeatRow, InterfaceRow.InterfaceRow, JoinTimerRow.JoinTimerRow, Key.Key, NeighbourRow.NeighbourRow, OverrideTimerRow.OverrideTimerRow, QuerierRow.QuerierRow, RegisterRow.RegisterRow, SendingRow.SendingRow, SourceRecordRow.SourceRecordRow, SourceRepeatRow.SourceRepeatRow, SourceRow.SourceRow}, timer.TimerKind.TimerKind}}
use Rattle.pim_model.{specs.{State.State, Tables.Table, Timers.{next_query, other_querier_end, register_end}}}
use Rattle.law_settled.{specs.Laws.{is_under_star, is_under_source, is_querier_entry}}

pub data Part : Type 0 where
  Interfaces : Part
  Neighbours : Part
  Queriers : Part
  GroupRecords : Part
  SourceRecords : Part
  GroupRepeats : Part
  SourceRepeats : Part
  Sendings : Part
  Downstreams : Part
  Asserts : Part
  JoinTimers : Part
  OverrideTimers : Part
  Sources : Part
  Registers : Part

abbrev pub Row : Part → Type 0
Row Interfaces = InterfaceRow
Row Neighbours = NeighbourRow
Row Queriers = QuerierRow
Row GroupRecords = GroupRecordRow
Row SourceRecords = SourceRecordRow
Row GroupRepeats = GroupRepeatRow
Row SourceRepeats = SourceRepeatRow
Row Sendings = SendingRow
Row Downstreams = DownstreamRow
Row Asserts = AssertRow
Row JoinTimers = JoinTimerRow
Row OverrideTimers = OverrideTimerRow
Row Sources = SourceRow
Row Registers = RegisterRow

abbrev pub rows : (p : Part) → State → Table (Row p)
rows Interfaces s = s.interfaces
rows Neighbours s = s.neighbours
rows Queriers s = s.queriers
rows GroupRecords s = s.group_records
rows SourceRecords s = s.source_records
rows GroupRepeats s = s.group_repeats
rows SourceRepeats s = s.source_repeats
rows Sendings s = s.sendings
rows Downstreams s = s.downstream
rows Asserts s = s.asserts
rows JoinTimers s = s.join_timers
rows OverrideTimers s = s.override_timers
rows Sources s = s.sources
rows Registers s = s.registers

-- with another table in its place
abbrev pub with_rows : (p : Part) → State → Table (Row p) → State
with_rows Interfaces s t = record s { interfaces = t }
with_rows Neighbours s t = record s { neighbours = t }
with_rows Queriers s t = record s { queriers = t }
with_rows GroupRecords s t = record s { group_records = t }
with_rows SourceRecords s t = record s { source_records = t }
with_rows GroupRepeats s t = record s { group_repeats = t }
with_rows SourceRepeats s t = record s { source_repeats = t }
with_rows Sendings s t = record s { sendings = t }
with_rows Downstreams s t = record s { downstream = t }
with_rows Asserts s t = record s { asserts = t }
with_rows JoinTimers s t = record s { join_timers = t }
with_rows OverrideTimers s t = record s { override_timers = t }
with_rows Sources s t = record s { sources = t }
with_rows Registers s t = record s { registers = t }

-- an entry is under a key of its kind
abbrev pub is_sound : (p : Part) → Key × Row p → Bool
is_sound Queriers e = is_querier_entry e
is_sound GroupRecords e = is_under_star e
is_sound SourceRecords e = is_under_source e
is_sound GroupRepeats e = is_under_star e
is_sound SourceRepeats e = is_under_star e
is_sound p e = true

-- ---- timers

-- the table whose rows end so
abbrev pub part_of : TimerKind → Part
part_of TimerKind.Neighbour = Neighbours
part_of TimerKind.PrunePending = Downstreams
part_of TimerKind.DownstreamExpiry = Downstreams
part_of TimerKind.GroupRecord = GroupRecords
part_of TimerKind.SourceRecord = SourceRecords
part_of TimerKind.Assert = Asserts
part_of TimerKind.Keepalive = Sources
part_of TimerKind.Register = Registers
part_of TimerKind.Override = OverrideTimers
part_of TimerKind.Join = JoinTimers
part_of TimerKind.OtherQuerier = Queriers
part_of TimerKind.GroupRepeat = GroupRepeats
part_of TimerKind.SourceRepeat = SourceRepeats
part_of TimerKind.GeneralQuery = Queriers
part_of TimerKind.Hello = Interfaces

abbrev pub end_of : (kind : TimerKind) → Row (part_of kind) → Option ℕ
end_of TimerKind.Neighbour r = r.end
end_of TimerKind.PrunePending r = r.pending
end_of TimerKind.DownstreamExpiry r = r.expiry
end_of TimerKind.GroupRecord r = r.end
end_of TimerKind.SourceRecord r = r.end
end_of TimerKind.Assert r = Some r.end
end_of TimerKind.Keepalive r = r.keepalive
end_of TimerKind.Register r = register_end r.state
end_of TimerKind.Override r = Some r.end
end_of TimerKind.Join r = Some r.end
end_of TimerKind.OtherQuerier r = other_querier_end r.role
end_of TimerKind.GroupRepeat r = Some r.next
end_of TimerKind.SourceRepeat r = Some r.next
end_of TimerKind.GeneralQuery r = next_query r.role
end_of TimerKind.Hello r = Some r.hello_end

-- the rows with an end of a kind
abbrev pub timed_rows : (kind : TimerKind) → State → Table (Row (part_of kind))
timed_rows kind s = rows (part_of kind) s

-- all ends of a table's rows
abbrev pub ends_of : (p : Part) → List (Row p → Option ℕ)
ends_of Interfaces = end_of TimerKind.Hello ∷ []
ends_of Neighbours = end_of TimerKind.Neighbour ∷ []
ends_of Queriers = end_of TimerKind.OtherQuerier ∷ end_of TimerKind.GeneralQuery ∷ []
ends_of GroupRecords = end_of TimerKind.GroupRecord ∷ []
ends_of SourceRecords = end_of TimerKind.SourceRecord ∷ []
ends_of GroupRepeats = end_of TimerKind.GroupRepeat ∷ []
ends_of SourceRepeats = end_of TimerKind.SourceRepeat ∷ []
ends_of Sendings = []
ends_of Downstreams = end_of TimerKind.PrunePending ∷ end_of TimerKind.DownstreamExpiry ∷ []
ends_of Asserts = end_of TimerKind.Assert ∷ []
ends_of JoinTimers = end_of TimerKind.Join ∷ []
ends_of OverrideTimers = end_of TimerKind.Override ∷ []
ends_of Sources = end_of TimerKind.Keepalive ∷ []
ends_of Registers = end_of TimerKind.Register ∷ []

-- what holds of each kind's end holds of the ends of each table, and the other way round
pub each_end : (Q : (p : Part) → (Row p → Option ℕ) → Type 0) → ((kind : TimerKind) → Q (part_of kind) (end_of kind))
    → (p : Part) → AllByRecursion (Q p) (ends_of p)
each_end Q f Interfaces = (f TimerKind.Hello, tt)
each_end Q f Neighbours = (f TimerKind.Neighbour, tt)
each_end Q f Queriers = (f TimerKind.OtherQuerier, (f TimerKind.GeneralQuery, tt))
each_end Q f GroupRecords = (f TimerKind.GroupRecord, tt)
each_end Q f SourceRecords = (f TimerKind.SourceRecord, tt)
each_end Q f GroupRepeats = (f TimerKind.GroupRepeat, tt)
each_end Q f SourceRepeats = (f TimerKind.SourceRepeat, tt)
each_end Q f Sendings = tt
each_end Q f Downstreams = (f TimerKind.PrunePending, (f TimerKind.DownstreamExpiry, tt))
each_end Q f Asserts = (f TimerKind.Assert, tt)
each_end Q f JoinTimers = (f TimerKind.Join, tt)
each_end Q f OverrideTimers = (f TimerKind.Override, tt)
each_end Q f Sources = (f TimerKind.Keepalive, tt)
each_end Q f Registers = (f TimerKind.Register, tt)

pub end_of_each : (kind : TimerKind) (P : (Row (part_of kind) → Option ℕ) → Type 0)
    → AllByRecursion P (ends_of (part_of kind)) → P (end_of kind)
end_of_each TimerKind.DownstreamExpiry P f = (f.1).0
end_of_each TimerKind.GeneralQuery P f = (f.1).0
end_of_each kind P f = f.0

-- ---- what another table changes

module _ (s : State) where
  pub rows_there : (p : Part) (t : Table (Row p)) → rows p (with_rows p s t) ≡ t
  rows_there Interfaces t = refl
  rows_there p t = refl

  pub settings_stay : (p : Part) (t : Table (Row p)) → (with_rows p s t).settings ≡ s.settings
  settings_stay p t = grind arith

  pub present_stays : (p : Part) (t : Table (Row p)) → (with_rows p s t).present ≡ s.present
  present_stays p t = grind arith

-- any table but that of the interfaces
abbrev pub IsBesideInterfaces : Part → Type 0
IsBesideInterfaces Interfaces = ⊥
IsBesideInterfaces p = Unit {0}

pub interfaces_stay : (p : Part) → IsBesideInterfaces p → (s : State) (t : Table (Row p))
    → (with_rows p s t).interfaces ≡ s.interfaces
interfaces_stay p beside s t = grind arith
