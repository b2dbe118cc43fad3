-- The timers of an interface's querier.
use Rattle.std.{specs.Prelude.{Bool, false, true}}
use Rattle.pim_types.{specs.declared.timer.TimerKind.TimerKind}

-- a timer of IGMP
abbrev pub is_igmp_kind : TimerKind → Bool
is_igmp_kind TimerKind.GroupRecord = true
is_igmp_kind TimerKind.SourceRecord = true
is_igmp_kind TimerKind.OtherQuerier = true
is_igmp_kind TimerKind.GroupRepeat = true
is_igmp_kind TimerKind.SourceRepeat = true
is_igmp_kind TimerKind.GeneralQuery = true
is_igmp_kind _ = false
