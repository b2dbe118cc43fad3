use Rattle.std.{proofs.Common.{◌≡◌, length}}
use Rattle.slab.{specs.Slab.get}
use Rattle.pim_tables.{specs.Places.rows_placed}
use Rattle.pim_tables.proofs.placed.PlacedRowsIterator.next.Given as goal

abbrev pub invariant-loop-place : goal.invariant-loop-place
invariant-loop-place g l =
    rows_placed (get l.self-inside.rows.now) l.self-inside.places
    ≡ rows_placed (get l.initial.self-inside.rows.now) l.initial.self-inside.places

abbrev pub decreases-loop-place : goal.decreases-loop-place
decreases-loop-place g l = length l.self-inside.places
