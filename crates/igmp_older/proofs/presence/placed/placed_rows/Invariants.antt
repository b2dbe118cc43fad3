use Rattle.std.{proofs.Common.{◌≡◌}}
use Rattle.igmp_older.{specs.Placed.{placed_rows, put_placed}}
use Rattle.igmp_older.proofs.presence.placed.placed_rows.Given as goal

abbrev pub invariant-loop-key : goal.invariant-loop-key
invariant-loop-key l = put_placed l.places l.placed.entries l.key-iterator ≡ placed_rows l.places l.rows.entries
