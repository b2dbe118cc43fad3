-- A subnet that is no prefix.
use Rattle.toml.{specs.View.table_view}
use Rattle.pim_scenario.{specs.Scenario.IsInterface, proofs.{ReadLemmas.wrong, InterfaceLemmas.no_subnet}}
use Rattle.pim_scenario.proofs.scenario.router.interface_in.Goals as goal

pub returns-in_err-subnet : goal.returns-in_err-subnet
returns-in_err-subnet c =
    wrong (IsInterface (table_view c.args.table.now)) _ c.from_residual-in_err-subnet.ensures.1
    (no_subnet (table_view c.args.table.now) _ c.in_ok-text.ensures c.in_err-subnet.ensures)
