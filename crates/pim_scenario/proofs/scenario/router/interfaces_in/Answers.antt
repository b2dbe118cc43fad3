-- Each table in turn is read.
use Rattle.std.{proofs.Common.{arith, sym}}
use Rattle.toml.{specs.View.table_view}
use Rattle.pim_scenario.{specs.Scenario.{IsTable, IsInterface}, proofs.ReadLemmas.{more_read, all_read, none_read, part_fails, no_table, table_said}}
use Rattle.pim_scenario.proofs.scenario.router.interfaces_in.Goals as goal

pub loop-value-preserved : goal.loop-value-preserved
loop-value-preserved c =
    more_read (IsTable IsInterface) c.args.values.now _ _ _ c.value-item.result _ (omega arith) c.value-item.is
    c.in_ok-push.ensures.ok c.loop-value.invariant (_, sym c.in_ok-table_of.ensures, c.in_ok-interface_in.ensures)

pub returns : goal.returns
returns c = all_read (IsTable IsInterface) c.args.values.now c.loop-value.value-index _ (omega arith) c.loop-value.invariant

pub returns-in_err-table_of : goal.returns-in_err-table_of
returns-in_err-table_of c =
    none_read (IsTable IsInterface) c.args.values.now c.loop-value.value-index c.value-item.result _ (omega arith) c.value-item.is
    (no_table IsInterface _ c.in_err-table_of.ensures) c.from_residual.ensures.1

pub returns-in_err-interface_in : goal.returns-in_err-interface_in
returns-in_err-interface_in c =
    part_fails (IsTable IsInterface) c.args.values.now (IsInterface (table_view c.in_ok-table_of.field-0.now))
    c.loop-value.value-index c.value-item.result _ _ (omega arith) c.value-item.is
    (table_said IsInterface _ _ c.in_ok-table_of.ensures) c.in_err-interface_in.ensures c.from_residual-in_err-interface_in.ensures.1
