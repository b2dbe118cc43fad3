-- The order of a heap whose first is the least.
use Rattle.std.{specs.{declared.cmp.{Reverse.Reverse, Ordering.Ordering}, Ordering.{ordering_then, nat_cmp}}}
use Rattle.pim_timers.{specs.Dues.Due}
use Rattle.pim_types.specs.contracts.timer.TimerOrd.TheImpl as timer_ord

-- the later is the lesser
abbrev pub entry_cmp : Reverse Due → Reverse Due → Ordering
entry_cmp a b = ordering_then (nat_cmp b.0.0 a.0.0) ((timer_ord.ghosts).cmp b.0.1 a.0.1)
