-- The records of a report: those that leave what they don't name, what is known of the sources that they name, and
-- which sources they move.
use Rattle.std.{specs.{List.{filter_map, flat_map, list_all, list_any}, Option.option_map_or, Prelude.{Bool, List, Option, [], ◌∷◌, false, filter, if◌then◌else◌, is_some, length, map, not, option_map, true, ℕ, ◌&&◌, ◌++◌, ◌+◌, ◌||◌, ◌≡◌}}}
use Rattle.igmp_wire.{specs.{Values.Record, declared.report.RecordType.RecordType}}
use Rattle.pim_types.{specs.{declared.fact.{Key.Key, SourceRecordRow.SourceRecordRow}, Keys.{source_key, star_key}}}
use Rattle.pim_model.{specs.{Cause.is_including, Querier.{each_in_turn, group_end, is_skipped, query_asked}, Records.{Asked, GroupRecord, Member, is_at_group, with_record}, State.State, Tables.{Table, ascending, has_row, row_at}}}

-- Sources that the record doesn't name are unchanged.
abbrev pub keeps_others : RecordType → Bool
keeps_others RecordType.IsExclude = false
keeps_others RecordType.ToExclude = false
keeps_others _ = true

-- The queries that the record requests are only about sources that it names.
abbrev pub asks_named : RecordType → Bool
asks_named RecordType.IsInclude = true
asks_named RecordType.Allow = true
asks_named RecordType.Block = true
asks_named _ = false

-- The record of a source of the group on the interface, if it has one.
abbrev pub known_member : ℕ → ℕ → Table SourceRecordRow → ℕ → Option Member
known_member i g t n =
    option_map (λ (r : SourceRecordRow). let m : Member = (n, r.end) in m) (row_at t (source_key i g n))

abbrev pub known_members : ℕ → ℕ → Table SourceRecordRow → List ℕ → List Member
known_members i g t ns = filter_map (known_member i g t) ns

-- what is known of the group, with those of its sources alone that are named
unfoldable pub record_named : State → ℕ → ℕ → List ℕ → GroupRecord
record_named s i g sources =
    record { timer = group_end s i g; members = known_members i g s.source_records (ascending sources) }

-- ---- what a record asks for

-- In the state with the record after it, these queries change and send what those do that the record requests.
abbrev pub AsksAlike : State → ℕ → ℕ → GroupRecord × List Asked → List Asked → Type 0
AsksAlike s i g applied asked =
    each_in_turn (query_asked i g) (with_record s i g applied.0) asked
    ≡ each_in_turn (query_asked i g) (with_record s i g applied.0) applied.1

-- ---- the sources that a report moves

-- A source that a record names still has a row after it, on the same side, by its row before.
abbrev pub stays : RecordType → Option SourceRecordRow → Bool
stays type o = option_map_or (λ (r : SourceRecordRow). not (is_including type) || is_some r.end) o false

-- A record leaves the mode of its group. In EXCLUDE it does. In INCLUDE it does where the sources that aren't named are
-- unchanged, and there is one of them exactly where the group has a record.
unfoldable pub keeps_mode : State → ℕ → Record → Bool
keeps_mode s i r =
    let listed : Bool = list_any (λ e. is_at_group i r.group e.0) s.source_records in
    is_some (group_end s i r.group)
    || (keeps_others r.type && (if has_row s.group_records (star_key i r.group) then listed else not listed))

-- All records of a report that aren't skipped keep the modes of their groups.
unfoldable pub all_keep_modes : State → ℕ → List Record → Bool
all_keep_modes s i records = list_all (keeps_mode s i) (filter (λ r. not (is_skipped r)) records)

-- The keys of the sources that a record may move: of those that it names, those that come or change sides; where it
-- deletes what it doesn't name, all that are there.
abbrev pub moved_named : Table SourceRecordRow → ℕ → Record → List Key
moved_named t i r =
    map (source_key i r.group) (filter (λ src. not (stays r.type (row_at t (source_key i r.group src)))) r.sources)

-- the sources of the group that a record moves without naming them
abbrev pub moved_others : Table SourceRecordRow → ℕ → Record → List Key
moved_others t i r =
    if keeps_others r.type then [] else map (λ e. e.0) (filter (λ e. is_at_group i r.group e.0) t)

-- the sources that a record of a report moves
abbrev pub moved_by : Table SourceRecordRow → ℕ → Record → List Key
moved_by t i r = moved_named t i r ++ moved_others t i r

-- The sources that the records of a report move.
unfoldable pub moved_sources : State → ℕ → List Record → List Key
moved_sources s i records = flat_map (moved_by s.source_records i) (filter (λ r. not (is_skipped r)) records)

-- how many keys records name, of groups and of sources, but for those that are skipped
unfoldable pub named_count : List Record → ℕ
named_count [] = 0
named_count (r ∷ rs) = (if is_skipped r then 0 else length r.sources + 1) + named_count rs
