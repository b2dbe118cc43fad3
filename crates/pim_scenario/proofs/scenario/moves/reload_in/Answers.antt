-- A configuration, or a map of places, that is wrong.
use Rattle.std.{proofs.Common.map, specs.List.AllZip}
use Rattle.toml.{specs.View.{table_view, view}}
use Rattle.pim_scenario.{specs.Scenario.{IsConfigText, IsReload, WritesPlace}, proofs.{MoveLemmas.{config_of, places_of}, ReadLemmas.fails}}
use Rattle.pim_scenario.proofs.scenario.moves.reload_in.Goals as goal

pub returns-in_err-config_text_in : goal.returns-in_err-config_text_in
returns-in_err-config_text_in c =
    fails (IsReload c.args.routers.now (table_view c.args.table.now)) (IsConfigText (table_view c.in_ok-table.field-0.now)) _ _
    c.from_residual-in_err-config_text_in.ensures.1
    (config_of c.args.routers.now (table_view c.args.table.now) (table_view c.in_ok-table.field-0.now) c.in_ok-table.ensures)
    c.in_err-config_text_in.ensures

pub returns-in_err-places_in : goal.returns-in_err-places_in
returns-in_err-places_in c =
    fails (IsReload c.args.routers.now (table_view c.args.table.now)) (AllZip WritesPlace (map view c.in_ok-list_or_empty.field-0.now)) _ _
    c.from_residual-in_err-places_in.ensures.1
    (places_of c.args.routers.now (table_view c.args.table.now) (map view c.in_ok-list_or_empty.field-0.now)
    c.in_ok-list_or_empty.ensures)
    c.in_err-places_in.ensures
