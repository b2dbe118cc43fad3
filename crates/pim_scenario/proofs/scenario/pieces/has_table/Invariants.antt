-- None of the values so far is a table.
use Rattle.std.{proofs.Common.{◌≡◌, map, drop}, specs.List.list_any}
use Rattle.toml.{specs.View.view}
use Rattle.pim_scenario.{specs.Pieces.is_table}
use Rattle.pim_scenario.proofs.scenario.pieces.has_table.Given as goal

abbrev pub invariant-loop-value : goal.invariant-loop-value
invariant-loop-value l =
    list_any is_table (map view (drop l.value-index l.values)) ≡ list_any is_table (map view l.values)
