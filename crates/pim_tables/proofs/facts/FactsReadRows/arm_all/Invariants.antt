use Rattle.std.{proofs.Common.{◌≤◌, ◌+◌, length}}
use Rattle.pim_timers.{specs.Armed.holds}
use Rattle.pim_tables.{specs.Ends.most_ends, proofs.Steps.RowsOwed}
use Rattle.pim_tables.proofs.facts.FactsReadRows.arm_all.Given as goal

abbrev pub invariant-loop-key : goal.invariant-loop-key
invariant-loop-key g l = record {
  owes : RowsOwed g.R.Ends.kinds g.R.Ends.ends l.self l.key-iterator (holds l.queue);
  room : most_ends g.R.Ends.kinds.1 (length l.key-iterator) ≤ l.queue.room;
  few : length l.queue.dues + most_ends g.R.Ends.kinds.1 (length l.key-iterator)
      ≤ most_ends g.R.Ends.kinds.1 (length l.self) + length l.fn.queue.dues;
}
