-- One IGMPv3 group record. Sections are those of RFC 3376: its tables of current-state records (6.4.1), of changes
-- (6.4.2), and of timers that expire (6.2.2, 6.2.3, 6.5), as equations between sets, for each source by itself.
use Rattle.std.{specs.{List.list_any, Option.option_map_or, Prelude.{Bool, List, None, Option, Some, [], false, filter, filter_map, find, fold, if◌then◌else◌, is_none, is_some, map, nat_lt, not, option_and_then, true, ℕ, ◌&&◌, ◌++◌, ◌==◌, ◌∷◌}}}
use Rattle.pim_types.{specs.{Keys.{is_of_group, is_on, source_in, source_key, star_key}, declared.fact.{GroupRecordRow.GroupRecordRow, Key.Key, SendingRow.SendingRow, SourceRecordRow.SourceRecordRow}}}
use Rattle.pim_model.{specs.{Sets.Set, State.State, Tables.{Table, ascending, drop_at, drop_where, has_row, is_among, is_empty_list, put, row_at}}}
pub use Rattle.igmp_wire.{specs.declared.report.RecordType.RecordType}

-- a source record (6.2): a source with its source timer; without a timer the timer is 0 and the source excluded
abbrev pub Member : Type 0
Member = ℕ × Option ℕ

-- (group timer, filter-mode, source records) (6.2): in INCLUDE without a group timer, in EXCLUDE with when it expires;
-- sources ascending
pub record GroupRecord : Type 0 where
  pub timer : Option ℕ
  pub members : List Member

-- INCLUDE of no source, which is no record (6.3)
abbrev pub no_record : GroupRecord
no_record = record { timer = None; members = [] }

-- the record is INCLUDE of no source, which is no record (6.3)
abbrev pub is_no_record : GroupRecord → Bool
is_no_record r = is_none r.timer && is_empty_list r.members

-- the queries that a record requests: Send Q(G), and Send Q(G,A) (6.4.2)
pub data Asked : Type 0 where
  AskGroup : Asked
  AskSources : List ℕ → Asked

-- what becomes of a source of a record
pub data SourceState : Type 0 where
  -- the source is in neither set
  Absent : SourceState
  Excluded : SourceState
  Included : ℕ → SourceState

-- what a source is in a record
unfoldable pub source_state_in : GroupRecord → ℕ → SourceState
source_state_in r src = option_map_or (λ (m : Member). option_map_or Included m.1 Excluded) (find (λ m. m.0 == src) r.members) Absent

-- the source record of a source that isn't gone
abbrev pub member_of : ℕ → SourceState → Option Member
member_of src Absent = None
member_of src Excluded = Some (src, None)
member_of src (Included end) = Some (src, Some end)

-- the sources of a record and those of a message, ascending
abbrev pub sources_of_both : GroupRecord → List ℕ → List ℕ
sources_of_both r named = ascending (map (λ (m : Member). m.0) r.members ++ named)

-- the record in which each source is what a function says
unfoldable pub record_with : Option ℕ → (ℕ → SourceState) → List ℕ → GroupRecord
record_with timer source_state sources =
    record { timer = timer; members = filter_map (λ src. member_of src (source_state src)) sources }

-- the source is in A of INCLUDE (A), or in X of EXCLUDE (X,Y)
abbrev pub is_running : SourceState → Bool
is_running (Included end) = true
is_running _ = false

-- the source is in Y of EXCLUDE (X,Y)
abbrev pub is_excluded : SourceState → Bool
is_excluded Excluded = true
is_excluded _ = false

-- Send Q(G,A), where A has those sources of an ascending list that pass a test
abbrev pub asks : (ℕ → Bool) → List ℕ → List Asked
asks test sources = AskSources (filter test sources) ∷ []

-- ---- INCLUDE (A) and a record with the sources B; a timer that is set expires at `full`

-- IS_IN (B), ALLOW (B), TO_IN (B): INCLUDE (A+B), (B)=GMI
abbrev pub include_more : ℕ → GroupRecord → Set → ℕ → SourceState
include_more full r named src = if named src then Included full else source_state_in r src

-- IS_EX (B), TO_EX (B): EXCLUDE (A*B,B-A), (B-A)=0, Delete (A-B)
abbrev pub include_to_exclude : GroupRecord → Set → ℕ → SourceState
include_to_exclude r named src =
    if named src then (if is_running (source_state_in r src) then source_state_in r src else Excluded) else Absent

-- ---- EXCLUDE (X, Y) and a record with the sources A

-- IS_IN (A), ALLOW (A), TO_IN (A): EXCLUDE (X+A,Y-A), (A)=GMI
abbrev pub exclude_less : ℕ → GroupRecord → Set → ℕ → SourceState
exclude_less full r named src = if named src then Included full else source_state_in r src

-- (A-X-Y)=`end`: a source in neither set gets this timer; those of X keep theirs, and those of Y stay excluded
abbrev pub kept_or_until : ℕ → SourceState → SourceState
kept_or_until end Absent = Included end
kept_or_until end source_state = source_state

-- IS_EX (A): EXCLUDE (A-Y,Y*A), (A-X-Y)=GMI, Delete (X-A), Delete (Y-A). TO_EX (A): EXCLUDE (A-Y,Y*A), (A-X-Y)=Group
-- Timer, Delete (X-A), Delete (Y-A)
abbrev pub exclude_again : ℕ → GroupRecord → Set → ℕ → SourceState
exclude_again end r named src = if named src then kept_or_until end (source_state_in r src) else Absent

-- BLOCK (A): EXCLUDE (X+(A-Y),Y), (A-X-Y)=Group Timer
abbrev pub exclude_more : ℕ → GroupRecord → Set → ℕ → SourceState
exclude_more end r named src = if named src then kept_or_until end (source_state_in r src) else source_state_in r src

-- A*B: the source is in the record and in the message
abbrev pub in_both : GroupRecord → Set → Set
in_both r named src = is_running (source_state_in r src) && named src

-- A-B of INCLUDE (A), X-A of EXCLUDE (X,Y): the source's timer runs, and the message doesn't name it
abbrev pub running_unnamed : GroupRecord → Set → Set
running_unnamed r named src = is_running (source_state_in r src) && not (named src)

-- A-Y: the message names the source, and it isn't excluded
abbrev pub named_not_excluded : GroupRecord → Set → Set
named_not_excluded r named src = named src && not (is_excluded (source_state_in r src))

-- the lines of both tables (6.4.1, 6.4.2) that begin with INCLUDE (A); `full` is GMI from the present time
unfoldable pub from_include : ℕ → GroupRecord → RecordType → Set → List ℕ → GroupRecord × List Asked
from_include full r RecordType.IsInclude named all = (record_with None (include_more full r named) all, [])
from_include full r RecordType.Allow named all = (record_with None (include_more full r named) all, [])
from_include full r RecordType.IsExclude named all = (record_with (Some full) (include_to_exclude r named) all, [])
from_include full r RecordType.Block named all = (r, asks (in_both r named) all)
from_include full r RecordType.ToExclude named all =
    (record_with (Some full) (include_to_exclude r named) all, asks (in_both r named) all)
from_include full r RecordType.ToInclude named all =
    (record_with None (include_more full r named) all, asks (running_unnamed r named) all)

-- the lines of both tables (6.4.1, 6.4.2) that begin with EXCLUDE (X,Y), whose group timer expires at `end`; Group
-- Timer=GMI is `Some full`
unfoldable pub from_exclude : ℕ → ℕ → GroupRecord → RecordType → Set → List ℕ → GroupRecord × List Asked
from_exclude full end r RecordType.IsInclude named all = (record_with (Some end) (exclude_less full r named) all, [])
from_exclude full end r RecordType.Allow named all = (record_with (Some end) (exclude_less full r named) all, [])
from_exclude full end r RecordType.IsExclude named all =
    (record_with (Some full) (exclude_again full r named) all, [])
from_exclude full end r RecordType.Block named all =
    (record_with (Some end) (exclude_more end r named) all, asks (named_not_excluded r named) all)
from_exclude full end r RecordType.ToExclude named all =
    (record_with (Some full) (exclude_again end r named) all, asks (named_not_excluded r named) all)
from_exclude full end r RecordType.ToInclude named all =
    (record_with (Some end) (exclude_less full r named) all, asks (running_unnamed r named) all ++ AskGroup ∷ [])

-- a group record of a report, of one type with its sources, in either mode (6.4)
unfoldable pub apply_record : ℕ → GroupRecord → RecordType → List ℕ → GroupRecord × List Asked
apply_record full r type sources =
    let all : List ℕ = sources_of_both r sources in
    let named : Set = λ src. is_among src sources in
    elim (r.timer) [
      | None ↦ from_include full r type named all
      | Some end ↦ from_exclude full end r type named all
    ]

-- the group timer expires (6.5): EXCLUDE (X,Y) becomes INCLUDE (X), where X has the sources whose timers run on
unfoldable pub group_expired : ℕ → GroupRecord → GroupRecord
group_expired now r = record {
  timer = None;
  members = filter (λ (m : Member). option_map_or (nat_lt now) m.1 false) r.members;
}

-- a source timer expires (6.3): in INCLUDE the source record is deleted, in EXCLUDE the source is excluded from then on
unfoldable pub source_expired : ℕ → GroupRecord → GroupRecord
source_expired src r =
    if is_some r.timer
    then record r { members = map (λ (m : Member). if m.0 == src then (src, None) else m) r.members }
    else record r { members = filter (λ (m : Member). not (m.0 == src)) r.members }

-- ---- the record as rows of the state

-- the source records that rows stand for
unfoldable pub members_of : Table SourceRecordRow → List Member
members_of rows = map (λ (e : Key × SourceRecordRow). (source_in e.0, (e.1).end)) rows

-- a key of the group, or of a source of it, on the interface
abbrev pub is_at_group : ℕ → ℕ → Key → Bool
is_at_group i g k = is_on i k && is_of_group g k

-- the record of a group on an interface
unfoldable pub record_of : State → ℕ → ℕ → GroupRecord
record_of s i g = record {
  timer = option_and_then (λ (r : GroupRecordRow). r.end) (row_at s.group_records (star_key i g));
  members = members_of (filter (λ e. is_at_group i g e.0) s.source_records);
}

-- a table with the row of a source record
abbrev pub put_member : ℕ → ℕ → Table SourceRecordRow → Member → Table SourceRecordRow
put_member i g t m = put t (source_key i g m.0) (record { end = m.1 })

-- the state without the repeated queries of sources and records that are gone
unfoldable pub with_repeats_of_rows : State → ℕ → ℕ → State
with_repeats_of_rows s i g =
    let sendings : Table SendingRow =
    drop_where (λ k. is_at_group i g k && not (has_row s.source_records k)) s.sendings in
    let has_sendings : Bool = list_any (λ (e : Key × SendingRow). is_at_group i g e.0) sendings in
    let has_record : Bool = has_row s.group_records (star_key i g) in
    record s {
      group_repeats = (if has_record then s.group_repeats else drop_at s.group_repeats (star_key i g));
      source_repeats = (if has_sendings then s.source_repeats else drop_at s.source_repeats (star_key i g));
      sendings = sendings;
    }

-- the state in which the record has the given sources; the group's row is deleted with the last of them in INCLUDE
unfoldable pub with_members : State → ℕ → ℕ → GroupRecord → State
with_members s i g r =
    let others : Table SourceRecordRow = drop_where (is_at_group i g) s.source_records in
    let written : State = record s {
      group_records = (if is_no_record r then drop_at s.group_records (star_key i g) else s.group_records);
      source_records = fold (put_member i g) others r.members;
    } in
    with_repeats_of_rows written i g

-- the state in which the group has this record on the interface
unfoldable pub with_record : State → ℕ → ℕ → GroupRecord → State
with_record s i g r =
    let timed : State = record s { group_records = put s.group_records (star_key i g) (record { end = r.timer }) } in
    with_members timed i g r
