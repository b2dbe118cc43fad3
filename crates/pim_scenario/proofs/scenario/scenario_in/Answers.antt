-- Moves that are wrong for these routers are wrong for all that the document describes.
use Rattle.std.{proofs.Common.map, specs.List.AllZip}
use Rattle.toml.{specs.View.{view, table_view}}
use Rattle.pim_scenario.{specs.Scenario.{IsMove, IsScenario, IsTable}, proofs.{MoveLemmas.moves_of, ReadLemmas.fails}}
use Rattle.pim_scenario.proofs.scenario.scenario_in.Goals as goal

pub returns-in_err-moves : goal.returns-in_err-moves
returns-in_err-moves c =
    fails (IsScenario (table_view c.args.table.now))
    (AllZip (IsTable (IsMove c.as_slice.result.now)) (map view c.in_ok-list_or_empty-2.field-0.now)) _ _
    c.from_residual-in_err-moves.ensures.1
    (moves_of (table_view c.args.table.now) (map view c.in_ok-list_or_empty.field-0.now)
    (map view c.in_ok-list_or_empty-2.field-0.now) c.as_slice.result.now c.in_ok-list_or_empty.ensures
    c.in_ok-list_or_empty-2.ensures (rw c.as_slice.ensures c.in_ok-routers.ensures))
    c.in_err-moves.ensures
