-- The head and the moves are the whole.
use Rattle.std.{proofs.Common.{map, sym}}
use Rattle.toml.{specs.View.{view, table_view}}
use Rattle.pim_scenario.{specs.declared.scenario.Scenario.Scenario, proofs.PieceScenarios.whole_scenario}
use Rattle.pim_scenario.proofs.scenario.pieces.scenario_in.Goals as goal

pub returns : goal.returns
returns c =
    let s : Scenario = record { routers = c.in_ok-routers.routers; moves = c.in_ok-moves.moves } in
    whole_scenario c.args.text.now c.in-Some.front.now c.in-Some.back.now (table_view c.in_ok-table.table)
    (map view c.in_ok-list_or_empty.field-0.now) s c.in-Some.ensures c.in_ok-table.ensures (sym c.in_ok-only.ensures)
    c.in_ok-list_or_empty.ensures c.in_ok-routers.ensures (rw c.as_slice.ensures at c.in_ok-moves.ensures)
