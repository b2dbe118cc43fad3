use Rattle.std.{proofs.Common.{◌≡◌, ◌&&◌, filter, not, take}}
use Rattle.pim_types.{specs.Keys.is_star}
use Rattle.pim_model.{specs.Tables.row_at}
use Rattle.pim_plan.{specs.Repeats.is_unmoved}
use Rattle.pim_plan.proofs.again.moved_among.Given as goal

abbrev pub invariant-loop-key : goal.invariant-loop-key
invariant-loop-key l =
    l.found.items
    ≡ filter (λ k. not (is_star k && is_unmoved (row_at l.world.asserts k) l.theirs)) (take l.key-index l.keys)
