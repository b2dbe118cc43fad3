use Rattle.std.{proofs.Common.{◌≡◌, subst, sym}}
use Rattle.pim_types.{specs.declared.timer.TimerKind.TimerKind}
use Rattle.pim_state.{specs.Turns.saying}
use Rattle.pim_model.{specs.Firing.fired}
use Rattle.pim_event.{proofs.Instants.{on_ok, says_nothing}}
use Rattle.pim_event.proofs.time.fired.Goals as goal

pub returns-in-Keepalive-clause-messages : goal.returns-in-Keepalive-clause-messages
returns-in-Keepalive-clause-messages c =
    on_ok c.keepalive_due.result
    (subst (λ (kind : TimerKind). c.args.turn.now
    ≡ saying c.args.turn.now (fired c.args.world.now kind c.args.timer.key).1) (sym c.in-Keepalive.is)
    (says_nothing c.args.world.now c.args.timer.key c.args.turn.now))
