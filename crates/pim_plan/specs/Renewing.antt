-- Which reports change no more than when the timers of their groups expire.
use Rattle.std.{specs.{List.{list_all, list_any}, Prelude.{Bool, List, Some, false, fold, is_some, not, true, ℕ, ◌&&◌}}}
use Rattle.pim_ip.{specs.Ipv4.is_source_specific}
use Rattle.igmp_wire.{specs.{Values.Record, declared.report.RecordType.RecordType}}
use Rattle.pim_types.{specs.Keys.star_key}
use Rattle.pim_model.{specs.{Querier.{group_end, is_sending}, Records.is_at_group, State.State, Tables.{drop_at, is_empty_list, put}}}

-- the record type is IS_EX
abbrev pub is_current_exclude : RecordType → Bool
is_current_exclude RecordType.IsExclude = true
is_current_exclude _ = false

-- a record IS_EX of no source, of a group that isn't source-specific
unfoldable pub excludes_none : Record → Bool
excludes_none r = is_current_exclude r.type && is_empty_list r.sources && not (is_source_specific r.group)

-- a record that excludes none, of a group in EXCLUDE of which no source has a record, and none is to be queried
unfoldable pub renews : State → ℕ → Record → Bool
renews s i r =
    excludes_none r && is_some (group_end s i r.group)
    && not (list_any (λ e. is_at_group i r.group e.0) s.source_records)
    && not (list_any (is_sending i r.group) s.sendings)

-- all records of a report are such
unfoldable pub all_renew : State → ℕ → List Record → Bool
all_renew s i records = list_all (renews s i) records

-- the state in which the group's timer runs until a timestamp, and no sources of it are queried
unfoldable pub group_renewed : ℕ → ℕ → State → Record → State
group_renewed i full s r = record s {
  group_records = put s.group_records (star_key i r.group) (record { end = Some full });
  source_repeats = drop_at s.source_repeats (star_key i r.group);
}

-- the state in which the timers of the groups of these records run until a timestamp
unfoldable pub groups_renewed : ℕ → ℕ → State → List Record → State
groups_renewed i full s records = fold (group_renewed i full) s records
