use Rattle.std.{proofs.Common.◌≡◌}
use Rattle.pim_wire.{specs.{JoinPrunes.entries_at, Groups.HasSources}}
use Rattle.pim_wire.proofs.join_prune.EntriesIterator.next.Given as goal

-- the entries that were passed over were skipped
abbrev pub invariant-loop-self : goal.invariant-loop-self
invariant-loop-self l = record {
  there : HasSources l.self-inside.message.now l.self-inside.place l.self-inside.left;
  rest : entries_at l.self-inside.message.now l.self-inside.place l.self-inside.left ≡ entries_at l.initial.self-inside.message.now l.initial.self-inside.place l.initial.self-inside.left;
}

abbrev pub decreases-loop-self : goal.decreases-loop-self
decreases-loop-self l = l.self-inside.left
