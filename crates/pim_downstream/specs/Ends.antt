-- Which timers are those of a downstream state.
use Rattle.std.{specs.Prelude.{Bool, false, true}}
use Rattle.pim_types.{specs.declared.timer.TimerKind.TimerKind}

-- a timer is the Expiry Timer or the Prune-Pending Timer of a downstream state
abbrev pub is_downstream_kind : TimerKind → Bool
is_downstream_kind TimerKind.PrunePending = true
is_downstream_kind TimerKind.DownstreamExpiry = true
is_downstream_kind _ = false
