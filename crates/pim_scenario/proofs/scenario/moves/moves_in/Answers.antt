-- Each table in turn is read.
use Rattle.std.{proofs.Common.{arith, sym}}
use Rattle.toml.{specs.View.table_view}
use Rattle.pim_scenario.{specs.Scenario.{IsTable, IsMove}, proofs.ReadLemmas.{more_read, all_read, none_read, part_fails, no_table, table_said}}
use Rattle.pim_scenario.proofs.scenario.moves.moves_in.Goals as goal

pub loop-value-preserved : goal.loop-value-preserved
loop-value-preserved c =
    more_read (IsTable (IsMove c.args.routers.now)) c.args.values.now _ _ _ c.value-item.result _ (omega arith) c.value-item.is
    c.in_ok-push.ensures.ok c.loop-value.invariant (_, sym c.in_ok-table_of.ensures, c.in_ok-move_in.ensures)

pub returns : goal.returns
returns c = all_read (IsTable (IsMove c.args.routers.now)) c.args.values.now c.loop-value.value-index _ (omega arith) c.loop-value.invariant

pub returns-in_err-table_of : goal.returns-in_err-table_of
returns-in_err-table_of c =
    none_read (IsTable (IsMove c.args.routers.now)) c.args.values.now c.loop-value.value-index c.value-item.result _ (omega arith) c.value-item.is
    (no_table (IsMove c.args.routers.now) _ c.in_err-table_of.ensures) c.from_residual.ensures.1

pub returns-in_err-move_in : goal.returns-in_err-move_in
returns-in_err-move_in c =
    part_fails (IsTable (IsMove c.args.routers.now)) c.args.values.now (IsMove c.args.routers.now (table_view c.in_ok-table_of.field-0.now))
    c.loop-value.value-index c.value-item.result _ _ (omega arith) c.value-item.is
    (table_said (IsMove c.args.routers.now) _ _ c.in_ok-table_of.ensures) c.in_err-move_in.ensures c.from_residual-in_err-move_in.ensures.1
