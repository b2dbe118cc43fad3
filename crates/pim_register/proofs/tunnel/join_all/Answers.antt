use Rattle.std.{proofs.Common.{◌+◌, Some, ap, drop, get_or, sym, ◌∙◌}}
use Rattle.pim_types.{specs.{declared.fact.{RegisterRow.RegisterRow, RegisterState.RegisterState}, Keys.star_key}}
use Rattle.pim_model.{specs.{State.State, Tables.{Table, change_row}}}
use Rattle.law_settled.{specs.Rows.all_changed, proofs.ChosenRows.{none_left_changed, one_more_changed}}
use Rattle.pim_register.{specs.Tunnel.joining, proofs.Tunnelled.kept}
use Rattle.pim_store.{specs.PimTables.PimTables}
use Rattle.pim_state.{proofs.Lent.stored}
use Rattle.pim_register.proofs.tunnel.join_all.Goals as goal

abbrev joined_row : RegisterRow
joined_row = record { state = RegisterState.Join }

pub loop-key-preserved : goal.loop-key-preserved
loop-key-preserved c =
    let keys = c.args.keys.now in
    let i = c.loop-key.key-index in
    let changed = stored c.loop-key.world _ _ (λ (f : PimTables). record f {
      registers = change_row (λ before. Some joined_row) (get_or keys i (star_key 0 0)) f.registers;
    }) c.store_mut.ensures.value c.in_ok-change_register.ensures in
    let registers = ap (λ (s : State). s.registers) changed in record {
      registers = ap (λ (t : Table RegisterRow). all_changed joining t (drop (i + 1) keys)) registers
          ∙ one_more_changed joining keys i (star_key 0 0) c.loop-key.world.registers c.loop-key-test.true
          ∙ c.loop-key.invariant.registers;
      rest = kept c.args.world.now c.loop-key.world _ _ c.loop-key.invariant.rest changed;
    }

pub returns : goal.returns
returns c =
    let registers = sym (none_left_changed joining c.args.keys.now c.loop-key.key-index c.loop-key.world.registers
    c.loop-key-test.false)
    ∙ c.loop-key.invariant.registers in
    c.loop-key.invariant.rest
    ∙ ap (λ (t : Table RegisterRow). let s : State = record c.args.world.now { registers = t } in s) registers
