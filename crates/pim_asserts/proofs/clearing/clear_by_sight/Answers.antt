use Rattle.std.{proofs.Common.{List, ap, sym, ◌∙◌}}
use Rattle.pim_model.{specs.{Messages.Message, State.State}}
use Rattle.pim_state.{specs.Turns.saying, proofs.Said.said_nothing}
use Rattle.pim_asserts.proofs.clearing.clear_by_sight.Goals as goal

pub returns-then-stays-clause-state : goal.returns-then-stays-clause-state
returns-then-stays-clause-state c = ap (λ (p : State × List Message). p.0) (sym (c.stays.ensures c.if-stays.true))

pub returns-then-stays-clause-messages : goal.returns-then-stays-clause-messages
returns-then-stays-clause-messages c =
    sym (said_nothing c.args.turn.now)
    ∙ ap (λ (p : State × List Message). saying c.args.turn.now p.1) (sym (c.stays.ensures c.if-stays.true))
