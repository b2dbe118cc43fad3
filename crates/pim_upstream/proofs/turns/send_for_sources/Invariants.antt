use Rattle.std.{proofs.Common.drop}
use Rattle.pim_model.{specs.State.State}
use Rattle.pim_views.{specs.{After.AreAfter, declared.after.SourceAfter.SourceAfter}}
use Rattle.pim_upstream.{proofs.Progress.Stands, specs.{Timers.after_moves, Told.source_step}}
use Rattle.pim_upstream.proofs.turns.send_for_sources.Given as goal

abbrev pub invariant-loop-after : goal.invariant-loop-after
invariant-loop-after l = record {
  stands : Stands (λ w (s : State) (x : SourceAfter). source_step l.world w l.star.group.bits s x.opened) l.fn.turn
      (drop l.after-index l.sources) l.sources l.turn
      (λ s. after_moves s l.moves.items) (λ s. after_moves s l.fn.moves.items);
  left : AreAfter l.world l.star (drop l.after-index l.sources);
}
