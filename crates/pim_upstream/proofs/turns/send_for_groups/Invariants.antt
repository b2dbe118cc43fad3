use Rattle.std.{proofs.Common.drop}
use Rattle.pim_model.{specs.State.State}
use Rattle.pim_views.{specs.{After.{AreGathered, opening_in}, declared.after.GroupAfter.GroupAfter}}
use Rattle.pim_upstream.{proofs.Progress.Stands, specs.{Timers.after_moves, Told.group_step}}
use Rattle.pim_upstream.proofs.turns.send_for_groups.Given as goal

abbrev pub invariant-loop-after : goal.invariant-loop-after
invariant-loop-after l = record {
  stands : Stands (λ w (s : State) (x : GroupAfter). group_step l.world w s (opening_in x)) l.fn.turn
      (drop l.after-index l.seen) l.seen l.turn
      (λ s. after_moves s l.moves.items) (λ s. after_moves s l.fn.moves.items);
  left : AreGathered l.world (drop l.after-index l.seen);
}
