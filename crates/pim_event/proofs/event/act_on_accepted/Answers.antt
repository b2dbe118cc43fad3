use Rattle.std.{proofs.Common.{subst, sym}}
use Rattle.pim_model.{specs.declared.accepted.Accepted.Accepted}
use Rattle.pim_event.{specs.Stepping.{BeginsTurn, TurnsUnlessFull}}
use Rattle.pim_event.proofs.event.act_on_accepted.Goals as goal

pub act_on_register-requires : goal.act_on_register-requires
act_on_register-requires c =
    subst (λ (a : Accepted). BeginsTurn c.args.core.now c.args.turn.now a) c.in-Register.is c.requires.begun

pub returns-in-Register : goal.returns-in-Register
returns-in-Register c =
    subst (λ (a : Accepted). TurnsUnlessFull c.args.core.now c.args.turn.now.draw a c.act_on_register.result
    c.act_on_register.new.core) (sym c.in-Register.is) c.act_on_register.ensures
