-- What becomes of timers, one after the other.
use Rattle.std.{specs.Prelude.{List, Option, false, fold, option_map}}
use Rattle.pim_model.{specs.{Seen.{lower_join_timer, raise_join_timer}, State.State, Upstream.{with_join_timer, with_override_timer}}}
use Rattle.pim_ip.{specs.declared.addr.Addr.Addr}
use Rattle.pim_types.{specs.{declared.fact.Key.Key, Keys.{key_of, rpt_key}}}
use Rattle.pim_rpt.{specs.Changes.change_of}
use Rattle.pim_upstream.{specs.declared.timer.TimerMove.TimerMove}

-- The key of the Join timer of (*,G), where there is no source, or of (S,G).
abbrev pub join_key : Addr → Option Addr → Key
join_key group source = key_of 0 group.bits (option_map (λ (a : Addr). a.bits) source) false

-- the state after a change of a Join timer or an override timer
unfoldable pub after_move : State → TimerMove → State
after_move s (TimerMove.Join group source change) = with_join_timer s (join_key group source) (change_of change)
after_move s (TimerMove.Override name change) =
    with_override_timer s (rpt_key 0 name.group.bits name.source.bits) (change_of change)
after_move s (TimerMove.RaiseJoin group source end) = raise_join_timer s (join_key group source) end
after_move s (TimerMove.LowerJoin group source end) = lower_join_timer s (join_key group source) end

-- the state after changes of timers, one after the other
unfoldable pub after_moves : State → List TimerMove → State
after_moves s ms = fold after_move s ms
