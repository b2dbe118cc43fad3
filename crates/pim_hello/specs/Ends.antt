-- Which timers expire by the functions of this crate: those of neighbours, and Hello timers.
use Rattle.std.{specs.Prelude.{Bool, false, true}}
use Rattle.pim_types.{specs.declared.timer.TimerKind.TimerKind}

-- a timer is a neighbour's holdtime or a Hello timer
abbrev pub is_hello_kind : TimerKind → Bool
is_hello_kind TimerKind.Neighbour = true
is_hello_kind TimerKind.Hello = true
is_hello_kind _ = false
