-- The order of timers: that of their kinds, and within one kind that of their keys.
use Rattle.std.{specs.{Ordering.{nat_cmp, ordering_then}, Prelude.ℕ, declared.cmp.Ordering.Ordering}}
use Rattle.pim_types.{specs.{declared.timer.{Timer.Timer, TimerKind.TimerKind}, Keys.key_cmp}}

-- The rank of a kind: timers with the same timestamp expire in the order of their ranks.
unfoldable pub rank : TimerKind → ℕ
rank TimerKind.Neighbour = 1
rank TimerKind.PrunePending = 2
rank TimerKind.DownstreamExpiry = 3
rank TimerKind.GroupRecord = 4
rank TimerKind.SourceRecord = 5
rank TimerKind.Assert = 6
rank TimerKind.Keepalive = 7
rank TimerKind.Register = 8
rank TimerKind.Override = 9
rank TimerKind.Join = 10
rank TimerKind.OtherQuerier = 11
rank TimerKind.GroupRepeat = 12
rank TimerKind.SourceRepeat = 13
rank TimerKind.GeneralQuery = 14
rank TimerKind.Hello = 15

-- The order in which timers of one timestamp expire: by kind, then by key.
unfoldable pub timer_cmp : Timer → Timer → Ordering
timer_cmp a b = ordering_then (nat_cmp (rank a.kind) (rank b.kind)) (key_cmp a.key b.key)
