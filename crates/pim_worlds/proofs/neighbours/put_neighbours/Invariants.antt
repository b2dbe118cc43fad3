use Rattle.std.{proofs.Common.{◌≡◌, drop}}
use Rattle.pim_worlds.{specs.Refilled.refilled}
use Rattle.pim_worlds.proofs.neighbours.put_neighbours.Given as goal

abbrev pub invariant-loop-row : goal.invariant-loop-row
invariant-loop-row l = refilled l.neighbours (drop l.row-index l.rows) ≡ refilled l.fn.neighbours l.rows
