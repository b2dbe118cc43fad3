use Rattle.std.{proofs.Common.{◌≡◌, ◌++◌, flat_map}}
use Rattle.pim_state.{specs.Groups.numbers_of}
use Rattle.pim_macros.{specs.Sights.IsStarSight}
use Rattle.pim_model.{specs.Desires.tree_state}
use Rattle.pim_rows.{specs.Printed.tree_line}
use Rattle.pim_shown.{specs.Trees.lines_of_group}
use Rattle.pim_shown.proofs.trees.push_group.Given as goal

abbrev pub invariant-loop-source : goal.invariant-loop-source
invariant-loop-source l = record {
  rows : l.rows.items
      ++ flat_map (λ src. tree_line l.fn.group.bits src (tree_state l.world l.fn.group.bits src)) (numbers_of l.source-iterator)
      ≡ l.fn.rows.items ++ lines_of_group l.world l.fn.group.bits;
  sight : IsStarSight l.world l.star;
  group : l.star.group ≡ l.fn.group;
}
