use Rattle.pim_event.{specs.Stepping.Rests}
use Rattle.pim_reloader.{proofs.Removing.Removes}
use Rattle.pim_reloader.proofs.remove.take_all_down.Given as goal

abbrev pub invariant-loop-number : goal.invariant-loop-number
invariant-loop-number l = Removes l.fn.core.world l.draw l.first l.count l.number l.core.world l.sent.items × Rests l.core
