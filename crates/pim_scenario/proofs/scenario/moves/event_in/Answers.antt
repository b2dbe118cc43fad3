-- A move whose kind is wrong.
use Rattle.toml.{specs.View.table_view}
use Rattle.pim_scenario.{specs.Scenario.{IsEvent, IsKind}, proofs.{ReadLemmas.fails, MoveLemmas.kind_of}}
use Rattle.pim_scenario.proofs.scenario.moves.event_in.Goals as goal

pub returns-in_err-kind : goal.returns-in_err-kind
returns-in_err-kind c =
    fails (IsEvent c.args.routers.now (table_view c.args.table.now)) (IsKind (table_view c.args.table.now)) _ _ c.from_residual.ensures.1
    (kind_of c.args.routers.now (table_view c.args.table.now)) c.in_err-kind.ensures
