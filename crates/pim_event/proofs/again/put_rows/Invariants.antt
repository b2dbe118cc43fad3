use Rattle.std.{proofs.Common.{◌≡◌, drop, fold}}
use Rattle.pim_plan.{specs.Rejoining.row_put}
use Rattle.pim_event.proofs.again.put_rows.Given as goal

abbrev pub invariant-loop-key : goal.invariant-loop-key
invariant-loop-key l = fold (row_put l.row) l.world (drop l.key-index l.keys) ≡ fold (row_put l.row) l.fn.world l.keys
