-- Local receivers: IGMP membership as PIM sees it (RFC 7761, section 4.1.5; RFC 3376, sections 6.2 and 6.3).
use Rattle.std.{specs.{Option.option_map_or, Prelude.{Bool, Option, false, is_none, is_some, not, ℕ, ◌&&◌}}}
use Rattle.pim_types.{specs.{Keys.{source_key, star_key}, declared.fact.{GroupRecordRow.GroupRecordRow, SourceRecordRow.SourceRecordRow}}}
use Rattle.pim_model.{specs.{State.State, Tables.{Table, has_row, row_at}}}

-- the router filter-mode of the group on I is EXCLUDE: its group timer runs (RFC 3376, sections 6.2.1 and 6.2.2)
unfoldable pub is_exclude_among : Table GroupRecordRow → ℕ → ℕ → Bool
is_exclude_among groups g i =
    option_map_or (λ (r : GroupRecordRow). is_some r.end) (row_at groups (star_key i g)) false

-- the router filter-mode of the group on I is EXCLUDE in a state (RFC 3376, section 6.2.1)
-- reads: the group record on the interface
unfoldable pub is_exclude : State → ℕ → ℕ → Bool
is_exclude s g i = is_exclude_among s.group_records g i

-- the router filter-mode of the group on I is INCLUDE: there is a record, and its group timer doesn't run (RFC 3376,
-- section 6.2.1)
abbrev pub is_include_among : Table GroupRecordRow → ℕ → ℕ → Bool
is_include_among groups g i = has_row groups (star_key i g) && not (is_exclude_among groups g i)

-- the source record of S, which has when its source timer expires (RFC 3376, section 6.2.3)
abbrev pub source_record_among : Table SourceRecordRow → ℕ → ℕ → ℕ → Option SourceRecordRow
source_record_among sources g src i = row_at sources (source_key i g src)

-- the source record of S in a state (RFC 3376, section 6.2.3)
abbrev pub source_record : State → ℕ → ℕ → ℕ → Option SourceRecordRow
source_record s g src i = source_record_among s.source_records g src i

-- local_receiver_include(*,G,I) (RFC 7761, section 4.1.5): the group is in EXCLUDE mode on I
-- reads: the group record on the interface
abbrev pub local_receiver_star : State → ℕ → ℕ → Bool
local_receiver_star s g i = is_exclude s g i

-- local_receiver_include(S,G,I) (RFC 7761, section 4.1.5)
-- here: only in INCLUDE mode; in EXCLUDE mode the receivers of S are among those of (*,G)
unfoldable pub local_receiver_include_among : Table GroupRecordRow → Table SourceRecordRow → ℕ → ℕ → ℕ → Bool
local_receiver_include_among groups sources g src i =
    is_include_among groups g i && is_some (source_record_among sources g src i)

-- local_receiver_include(S,G,I) (RFC 7761, section 4.1.5) in a state
-- reads: the group record and the source record on the interface
unfoldable pub local_receiver_include : State → ℕ → ℕ → ℕ → Bool
local_receiver_include s g src i = local_receiver_include_among s.group_records s.source_records g src i

-- local_receiver_exclude(S,G,I) (RFC 7761, section 4.1.5): the group is in EXCLUDE mode on I, and S is excluded: it has
-- no source timer
unfoldable pub local_receiver_exclude_among : Table GroupRecordRow → Table SourceRecordRow → ℕ → ℕ → ℕ → Bool
local_receiver_exclude_among groups sources g src i =
    is_exclude_among groups g i
    && option_map_or (λ (r : SourceRecordRow). is_none r.end) (source_record_among sources g src i) false

-- local_receiver_exclude(S,G,I) (RFC 7761, section 4.1.5) in a state
-- reads: the group record and the source record on the interface
unfoldable pub local_receiver_exclude : State → ℕ → ℕ → ℕ → Bool
local_receiver_exclude s g src i = local_receiver_exclude_among s.group_records s.source_records g src i
