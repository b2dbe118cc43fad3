-- A value is a table where it has one.
use Rattle.pim_scenario.{proofs.PieceScenarios.mapped_test}
use Rattle.pim_scenario.proofs.scenario.pieces.is_table.Goals as goal

pub returns : goal.returns
returns c = mapped_test _ _ _ _ c.as_table.ensures c.is_some.ensures
