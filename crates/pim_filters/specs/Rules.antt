-- The tables of RFC 3376, section 6.4, for one source: what becomes of it, by what it was and whether the message names
-- it. `full` is when a timer that is set expires, `timer` when the group timer does.
use Rattle.std.{specs.Prelude.{Bool, None, Option, Some, false, if◌then◌else◌, is_some, not, true, ℕ, ◌&&◌}}
use Rattle.igmp_wire.{specs.declared.report.RecordType.RecordType}
use Rattle.pim_model.{specs.Records.{SourceState, Absent, Excluded, Included, is_excluded, is_running}}

abbrev pub timer_after : ℕ → Option ℕ → RecordType → Option ℕ
timer_after full timer RecordType.IsExclude = Some full
timer_after full timer RecordType.ToExclude = Some full
timer_after full timer _ = timer

-- what a source becomes that the record didn't have
abbrev pub fresh_source_state : ℕ → Option ℕ → RecordType → SourceState
fresh_source_state full None type = Excluded
fresh_source_state full (Some end) RecordType.IsExclude = Included full
fresh_source_state full (Some end) _ = Included end

abbrev pub kept_or : SourceState → SourceState → SourceState
kept_or fresh Absent = fresh
kept_or fresh source_state = source_state

abbrev pub source_state_after : ℕ → Option ℕ → RecordType → SourceState → Bool → SourceState
source_state_after full timer RecordType.IsExclude before named =
    if named then kept_or (fresh_source_state full timer RecordType.IsExclude) before else Absent
source_state_after full timer RecordType.ToExclude before named =
    if named then kept_or (fresh_source_state full timer RecordType.ToExclude) before else Absent
source_state_after full timer RecordType.Block before named =
    if is_some timer && named then kept_or (fresh_source_state full timer RecordType.Block) before else before
source_state_after full timer _ before named = if named then Included full else before

abbrev pub asks_sources : RecordType → Bool
asks_sources RecordType.Block = true
asks_sources RecordType.ToExclude = true
asks_sources RecordType.ToInclude = true
asks_sources _ = false

-- the source is among those that a query names
abbrev pub is_asked : Option ℕ → RecordType → SourceState → Bool → Bool
is_asked timer RecordType.ToInclude before named = is_running before && not named
is_asked timer _ before named =
    if is_some timer then named && not (is_excluded before) else is_running before && named

abbrev pub asks_group : Option ℕ → RecordType → Bool
asks_group timer RecordType.ToInclude = is_some timer
asks_group timer _ = false
