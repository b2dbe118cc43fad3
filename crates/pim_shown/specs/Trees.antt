-- The printed (S,G,rpt) states of one group.
use Rattle.std.{specs.Prelude.{List, flat_map, ℕ}}
use Rattle.pim_rows.{specs.{declared.table.Row.Row, Printed.tree_line}}
use Rattle.pim_model.{specs.{Desires.tree_state, State.State, Upstream.{fact_keys, sources_of}}}

unfoldable pub lines_of_group : State → ℕ → List Row
lines_of_group s g = flat_map (λ src. tree_line g src (tree_state s g src)) (sources_of g (fact_keys s))
