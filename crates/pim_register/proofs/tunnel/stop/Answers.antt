use Rattle.std.{proofs.Common.{Some, ap, sym, ◌∙◌}}
use Rattle.pim_types.{specs.declared.fact.RegisterRow.RegisterRow}
use Rattle.pim_model.{specs.{State.State, Tables.{Table, change_row, row_at}}}
use Rattle.pim_store.{specs.PimTables.PimTables}
use Rattle.pim_state.{proofs.Lent.stored_on_ok}
use Rattle.pim_register.{specs.Tunnel.stopping, proofs.Tunnelled.{changed_by_found, none_changed, same_on_ok}}
use Rattle.pim_register.proofs.tunnel.stop.Goals as goal

pub returns-in_default : goal.returns-in_default
returns-in_default c =
    let found = ap (λ (f : PimTables). row_at f.registers c.args.key) c.store.ensures in
    ap (λ (t : Table RegisterRow). let s : State = record c.args.world.now { registers = t } in s)
    (none_changed (stopping c.args.end) c.args.key c.args.world.now.registers
    (sym found ∙ sym c.register.ensures ∙ c.in_default.is))

pub returns : goal.returns
returns c =
    let s = c.args.world.now in
    let found = ap (λ (f : PimTables). row_at f.registers c.args.key) c.store.ensures in
    same_on_ok c.change_register.result _ _ _
    (ap (λ (t : Table RegisterRow). let s : State = record c.args.world.now { registers = t } in s)
    (changed_by_found (stopping c.args.end) c.args.key s.registers c.in-Some.row c.stopped.result
    c.proof_keyed.ensures.registers_rise (sym found ∙ sym c.register.ensures ∙ c.in-Some.is)
    (ap Some (sym c.stopped.ensures))))
    (stored_on_ok s c.change_register.result _ _ (λ (f : PimTables). record f {
      registers = change_row (λ before. Some c.stopped.result) c.args.key f.registers;
    }) c.store_mut.ensures.value c.change_register.ensures)
