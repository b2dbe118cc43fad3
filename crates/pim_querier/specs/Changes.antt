-- Rows that are changed key by key, and the members of a group's record.
use Rattle.std.{specs.{List.list_any, Prelude.{Bool, List, None, Option, Some, fold, if◌then◌else◌, is_none, map, nat_lt, not, ℕ, ◌&&◌, ◌+◌, ◌-◌}}}
use Rattle.pim_filters.{specs.{Members.member_entry, declared.member.Member.Member}}
use Rattle.igmp_wire.{specs.Values.Record}
use Rattle.pim_ip.{specs.declared.addr.Addr.Addr}
use Rattle.pim_types.{specs.{declared.fact.{GroupRepeatRow.GroupRepeatRow, Key.Key, SendingRow.SendingRow, SourceRecordRow.SourceRecordRow}, Keys.{source_in, source_key, star_key}}}
use Rattle.pim_model.{specs.{Querier.{group_membership_interval, is_sending, last_member_query_interval, lowered}, Records.{Asked, GroupRecord, apply_record, is_at_group, put_member, record_of, with_repeats_of_rows}, State.State, Tables.{Table, change_row, drop_at, has_row, put}}}

-- a sending with one less, or none where it was the last
abbrev pub one_less : SendingRow → Option SendingRow
one_less r = if nat_lt 1 r.left then Some (record { left = r.left - 1 }) else None

-- What is left to repeat of a group's query after one of n.
abbrev pub one_repeat_less : State → ℕ → Option GroupRepeatRow
one_repeat_less s left =
    if nat_lt 1 left then Some (record { next = s.present + last_member_query_interval s; left = left - 1 }) else None

-- the rows under these entries' keys changed, one after the other
unfoldable pub each_changed : {R : Type 0} → (R → Option R) → Table R → Table R → Table R
each_changed change t entries = fold (λ u e. change_row (λ _. change e.1) e.0 u) t entries

-- the sendings under these entries' keys changed, one after the other
unfoldable pub sending_changed : (SendingRow → Option SendingRow) → State → Key × SendingRow → State
sending_changed change s e = record s { sendings = change_row (λ _. change e.1) e.0 s.sendings }

unfoldable pub sendings_changed : (SendingRow → Option SendingRow) → State → Table SendingRow → State
sendings_changed change s entries = fold (sending_changed change) s entries

-- the sources of a table's entries
abbrev pub row_sources : {R : Type 0} → Table R → List ℕ
row_sources entries = map (λ e. source_in e.0) entries

-- the records of these sources of a group put on an interface, one after the other
unfoldable pub member_put : ℕ → ℕ → State → Member → State
member_put i g s m = record s { source_records = put_member i g s.source_records (member_entry m) }

unfoldable pub members_put : ℕ → ℕ → State → List Member → State
members_put i g s ms = fold (member_put i g) s ms

-- The state without the group's record on the interface, if that is empty.
abbrev pub without_empty : Bool → ℕ → ℕ → State → State
without_empty is_none i g s =
    record s { group_records = (if is_none then drop_at s.group_records (star_key i g) else s.group_records) }

-- A source without a running timer, if it has a record.
abbrev pub with_excluded : ℕ → ℕ → ℕ → State → State
with_excluded i g src s =
    record s { source_records = change_row (λ _. Some (record { end = None })) (source_key i g src) s.source_records }

-- The state without the record of a source, and without that of its group where no source is left.
abbrev pub without_source_record : ℕ → ℕ → ℕ → State → State
without_source_record i g src s =
    let left : Table SourceRecordRow = drop_at s.source_records (source_key i g src) in
    without_empty (not (list_any (λ e. is_at_group i g e.0) left)) i g (record s { source_records = left })

-- The state without the repeats of what has no sendings, and of what has no record.
abbrev pub without_source_repeat : ℕ → ℕ → State → State
without_source_repeat i g s = record s {
  source_repeats = (if list_any (is_sending i g) s.sendings then s.source_repeats
      else drop_at s.source_repeats (star_key i g));
}

abbrev pub without_group_repeat : ℕ → ℕ → State → State
without_group_repeat i g s = record s {
  group_repeats = (if has_row s.group_records (star_key i g) then s.group_repeats
      else drop_at s.group_repeats (star_key i g));
}

-- The group's record with the timer of this one, and with its sources added to those that are there.
unfoldable pub beside : ℕ → ℕ → State → GroupRecord → State
beside i g s r =
    let rows : Table SourceRecordRow = fold (put_member i g) s.source_records r.members in
    let timed : State = record s {
      group_records = put s.group_records (star_key i g) (record { end = r.timer });
      source_records = rows;
    } in
    with_repeats_of_rows (without_empty (is_none r.timer && not (list_any (λ e. is_at_group i g e.0) rows)) i g timed) i g

-- A source timer lowered to a timestamp.
abbrev pub source_lowered : ℕ → SourceRecordRow → Option SourceRecordRow
source_lowered end r = Some (record { end = lowered end r.end })

-- The timer of a source of a group lowered to a timestamp, if the source has a record.
unfoldable pub one_lowered : ℕ → ℕ → ℕ → State → Addr → State
one_lowered i g end s a =
    record s { source_records = change_row (source_lowered end) (source_key i g a.bits) s.source_records }

-- The state after the timers of the given sources were lowered, one after the other.
unfoldable pub each_lowered : ℕ → ℕ → ℕ → State → List Addr → State
each_lowered i g end s sources = fold (one_lowered i g end) s sources

-- The state after the given sources of a group were set to be named in a number of queries, one after the other.
unfoldable pub sending_put : ℕ → ℕ → SendingRow → State → Addr → State
sending_put i g row s a = record s { sendings = put s.sendings (source_key i g a.bits) row }

unfoldable pub sendings_put : ℕ → ℕ → SendingRow → State → List Addr → State
sendings_put i g row s sources = fold (sending_put i g row) s sources

-- The record of the group after a group record of a report, and the queries that this requests.
abbrev pub applied : State → ℕ → Record → GroupRecord × List Asked
applied s i r =
    apply_record (s.present + group_membership_interval s i) (record_of s i r.group) r.type r.sources
