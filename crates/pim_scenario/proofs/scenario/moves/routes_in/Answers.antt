-- A list that is wrong.
use Rattle.std.{proofs.Common.map, specs.List.AllZip}
use Rattle.toml.{specs.View.{view, table_view}}
use Rattle.pim_scenario.{specs.Scenario.{AreRouteWords, IsRoutes, IsText}, proofs.{MoveLemmas.routes_of, ReadLemmas.fails}}
use Rattle.pim_scenario.proofs.scenario.moves.routes_in.Goals as goal

pub returns-in_err-routes_in : goal.returns-in_err-routes_in
returns-in_err-routes_in c =
    fails (IsRoutes (table_view c.args.table.now)) (AllZip (IsText AreRouteWords) (map view c.in_ok-list.field-0.now)) _ _
    c.from_residual-in_err-routes_in.ensures.1
    (routes_of (table_view c.args.table.now) (map view c.in_ok-list.field-0.now) c.in_ok-list.ensures)
    c.in_err-routes_in.ensures
