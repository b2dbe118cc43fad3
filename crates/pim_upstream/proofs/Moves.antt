-- Moves of timers behind others.
use Rattle.std.{proofs.Common.{◌≡◌, List, [], ◌∷◌, ◌++◌, refl}}
use Rattle.pim_model.{specs.State.State}
use Rattle.pim_upstream.{specs.{Timers.{after_move, after_moves}, declared.timer.TimerMove.TimerMove}}

pub after_one_more : (ms : List TimerMove) (m : TimerMove) (s : State)
    → after_moves s (ms ++ m ∷ []) ≡ after_move (after_moves s ms) m
unfolding after_moves
after_one_more [] m s = refl
after_one_more (n ∷ ms) m s = after_one_more ms m (after_move s n)
