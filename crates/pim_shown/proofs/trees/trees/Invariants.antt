use Rattle.std.{proofs.Common.{◌≡◌, ◌++◌, flat_map}}
use Rattle.pim_state.{specs.Groups.numbers_of}
use Rattle.pim_rows.{specs.Printed.tree_lines}
use Rattle.pim_shown.{specs.Trees.lines_of_group}
use Rattle.pim_shown.proofs.trees.trees.Given as goal

abbrev pub invariant-loop-group : goal.invariant-loop-group
invariant-loop-group l = l.rows.items ++ flat_map (lines_of_group l.world) (numbers_of l.group-iterator) ≡ tree_lines l.world
