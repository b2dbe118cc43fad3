-- A list that is wrong.
use Rattle.std.{proofs.Common.map, specs.List.AllZip}
use Rattle.toml.{specs.View.{view, table_view}}
use Rattle.pim_scenario.{specs.Scenario.{AreRpWords, IsRps, IsText}, proofs.{MoveLemmas.rps_of, ReadLemmas.fails}}
use Rattle.pim_scenario.proofs.scenario.moves.rps_in.Goals as goal

pub returns-in_err-rps_in : goal.returns-in_err-rps_in
returns-in_err-rps_in c =
    fails (IsRps (table_view c.args.table.now)) (AllZip (IsText AreRpWords) (map view c.in_ok-list.field-0.now)) _ _
    c.from_residual-in_err-rps_in.ensures.1
    (rps_of (table_view c.args.table.now) (map view c.in_ok-list.field-0.now) c.in_ok-list.ensures)
    c.in_err-rps_in.ensures
