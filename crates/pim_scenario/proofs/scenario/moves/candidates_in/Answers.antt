-- A list that is wrong.
use Rattle.std.{proofs.Common.map, specs.List.AllZip}
use Rattle.toml.{specs.View.{view, table_view}}
use Rattle.pim_scenario.{specs.Scenario.{AreCandidateWords, IsCandidates, IsText}, proofs.{MoveLemmas.candidates_of, ReadLemmas.fails}}
use Rattle.pim_scenario.proofs.scenario.moves.candidates_in.Goals as goal

pub returns-in_err-candidates_in : goal.returns-in_err-candidates_in
returns-in_err-candidates_in c =
    fails (IsCandidates (table_view c.args.table.now)) (AllZip (IsText AreCandidateWords) (map view c.in_ok-list.field-0.now)) _ _
    c.from_residual-in_err-candidates_in.ensures.1
    (candidates_of (table_view c.args.table.now) (map view c.in_ok-list.field-0.now) c.in_ok-list.ensures)
    c.in_err-candidates_in.ensures
