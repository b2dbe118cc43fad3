use Rattle.std.{proofs.Common.◌≡◌}
use Rattle.pim_store.{specs.Said.timers_in, proofs.Dropped.IsUnmarked}
use Rattle.pim_store.proofs.rows.unmark_on.Given as goal

abbrev pub invariant-loop-key : goal.invariant-loop-key
invariant-loop-key g l = record {
  unmarked : IsUnmarked g.R.TellsMarks.tells g.R.TellsMarks.says g.R.TellsMarks.fits l.iface.number l.fn.index l.index l.fn.rows
      l.key-iterator;
  timers : timers_in l.index ≡ timers_in l.fn.index;
}
