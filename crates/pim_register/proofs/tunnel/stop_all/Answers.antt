use Rattle.std.{proofs.Common.{◌+◌, ap, drop, sym, ◌∙◌}}
use Rattle.pim_types.{specs.{declared.fact.RegisterRow.RegisterRow, Keys.star_key}}
use Rattle.pim_model.{specs.{State.State, Tables.Table}}
use Rattle.law_settled.{specs.Rows.all_changed, proofs.ChosenRows.{none_left_changed, one_more_changed}}
use Rattle.pim_register.{specs.Tunnel.stopping, proofs.Tunnelled.kept}
use Rattle.pim_register.proofs.tunnel.stop_all.Goals as goal

pub loop-key-preserved : goal.loop-key-preserved
loop-key-preserved c =
    let keys = c.args.keys.now in
    let i = c.loop-key.key-index in
    let registers = ap (λ (s : State). s.registers) c.in_ok-stop.ensures in record {
      registers = ap (λ (t : Table RegisterRow). all_changed (stopping c.args.end) t (drop (i + 1) keys)) registers
          ∙ one_more_changed (stopping c.args.end) keys i (star_key 0 0) c.loop-key.world.registers c.loop-key-test.true
          ∙ c.loop-key.invariant.registers;
      rest = kept c.args.world.now c.loop-key.world c.stop.new.world _ c.loop-key.invariant.rest
          c.in_ok-stop.ensures;
    }

pub returns : goal.returns
returns c =
    let registers = sym (none_left_changed (stopping c.args.end) c.args.keys.now c.loop-key.key-index c.loop-key.world.registers
    c.loop-key-test.false)
    ∙ c.loop-key.invariant.registers in
    c.loop-key.invariant.rest
    ∙ ap (λ (t : Table RegisterRow). let s : State = record c.args.world.now { registers = t } in s) registers
