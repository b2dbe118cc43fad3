-- A router whose configuration is wrong.
use Rattle.toml.{specs.View.table_view}
use Rattle.pim_scenario.{specs.Scenario.{IsConfig, IsRouter}, proofs.ReadLemmas.fails}
use Rattle.pim_scenario.proofs.scenario.router.router_in.Goals as goal

pub returns-in_err-config-clause-router : goal.returns-in_err-config-clause-router
returns-in_err-config-clause-router c =
    fails (IsRouter (table_view c.args.table.now)) (IsConfig (table_view c.args.table.now)) _ _
    c.from_residual-in_err-config.ensures.1 (λ r is. (r.config, is.config)) c.in_err-config.ensures.read
