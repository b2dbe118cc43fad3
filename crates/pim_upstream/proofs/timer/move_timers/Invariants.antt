use Rattle.std.{proofs.Common.{◌≡◌, drop, fold}}
use Rattle.pim_upstream.{specs.Timers.after_move}
use Rattle.pim_upstream.proofs.timer.move_timers.Given as goal

abbrev pub invariant-loop-moved : goal.invariant-loop-moved
invariant-loop-moved l = fold after_move l.world (drop l.moved-index l.moves) ≡ fold after_move l.fn.world l.moves
