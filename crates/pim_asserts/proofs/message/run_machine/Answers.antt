use Rattle.std.{proofs.Common.{List, ap, subst, ◌≡◌, ◌∙◌}, specs.Prelude.OnOk}
use Rattle.pim_state.{specs.Turns.saying}
use Rattle.pim_model.{specs.{Messages.Message, State.State, Tables.row_at}}
use Rattle.pim_store.{specs.PimTables.PimTables}
use Rattle.pim_asserts.{proofs.Receiving.acts}
use Rattle.pim_asserts.proofs.message.run_machine.Goals as goal

pub returns-clause-state : goal.returns-clause-state
returns-clause-state c =
    subst (λ (x : State × List Message). OnOk c.carry_out.result (c.carry_out.new.world ≡ x.0))
    (acts c.args.world.now c.args.key c.args.theirs c.stance_of-stance.result c.assert_at.result
    c.action_of-action.result c.stance_of-stance.ensures
    (c.assert_at.ensures ∙ ap (λ (f : PimTables). row_at f.asserts c.args.key) c.store.ensures) c.action_of-action.ensures)
    c.carry_out.ensures.state

pub returns-clause-messages : goal.returns-clause-messages
returns-clause-messages c =
    subst (λ (x : State × List Message). OnOk c.carry_out.result (c.carry_out.new.turn ≡ saying c.args.turn.now x.1))
    (acts c.args.world.now c.args.key c.args.theirs c.stance_of-stance.result c.assert_at.result
    c.action_of-action.result c.stance_of-stance.ensures
    (c.assert_at.ensures ∙ ap (λ (f : PimTables). row_at f.asserts c.args.key) c.store.ensures) c.action_of-action.ensures)
    c.carry_out.ensures.messages
