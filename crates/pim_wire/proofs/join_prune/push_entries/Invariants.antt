use Rattle.std.{proofs.Common.{◌≡◌, ◌++◌, take}, specs.List.flat_map}
use Rattle.pim_wire.{specs.JoinPrunes.entry_text}
use Rattle.pim_wire.proofs.join_prune.push_entries.Given as goal

-- the entries so far are written
abbrev pub invariant-loop-entry : goal.invariant-loop-entry
invariant-loop-entry l = l.out.items ≡ l.initial.out.items ++ flat_map entry_text (take l.entry-index l.entries)
