use Rattle.std.{proofs.Common.{IfSome, subst, sym, ◌≡◌}}
use Rattle.pim_macros.{specs.declared.sight.SourceSight.SourceSight}
use Rattle.pim_plan.{specs.{Acting.{HasRead, IsSightOf, act_event}, Naming.IsConfigured, declared.act.Act.Act}}
use Rattle.pim_event.{specs.{AtRp.IsKnownIn, Replacing.replaced_after}, proofs.Sending.{data_sends, nothing_sends, register_sends}}
use Rattle.pim_event.proofs.change.apply.Goals as goal

pub returns-in-Data-clause-sends : goal.returns-in-Data-clause-sends
returns-in-Data-clause-sends c =
    data_sends c.args.world.now c.args.turn.now.draw c.args.act c.in-Data.iface c.in-Data.packet c.in-Data.sight
    c.in-Data.is c.forward.new.world c.args.turn.now c.forward.new.turn c.forward.result c.forward.ensures

pub returns-in-Register-clause-sends : goal.returns-in-Register-clause-sends
returns-in-Register-clause-sends c =
    register_sends c.args.world.now c.args.turn.now.draw c.args.act c.in-Register.packet c.in-Register.register
    c.in-Register.is c.decapsulate.new.world c.args.turn.now c.decapsulate.new.turn c.decapsulate.result
    c.decapsulate.ensures

pub returns-in_ok-apply_control-in-Control-clause-sends : goal.returns-in_ok-apply_control-in-Control-clause-sends
returns-in_ok-apply_control-in-Control-clause-sends c =
    nothing_sends c.args.world.now c.args.turn.now.draw c.args.act c.in-Control.control c.in-Control.is
    c.apply_control.new.world c.args.turn.now c.apply_control.new.turn c.nothing.result
    c.in_ok-apply_control-in-Control.ensures.state c.in_ok-apply_control-in-Control.ensures.messages
    c.nothing.ensures.copies c.nothing.ensures.registered

pub forward-requires-clause-sight : goal.forward-requires-clause-sight
forward-requires-clause-sight c =
    subst (λ (x : SourceSight). IsSightOf c.args.world.now c.in-Data.packet.destination c.in-Data.packet.source x)
    (sym c.into_inner.ensures) (subst (λ (x : Act). HasRead c.args.world.now x) c.in-Data.is c.requires.read)

pub decapsulate-requires : goal.decapsulate-requires
decapsulate-requires c =
    subst (λ (x : Act). IfSome c.args.known (IsKnownIn c.args.world.now (act_event x))) c.in-Register.is c.requires.known

pub apply_control-requires-clause-configured : goal.apply_control-requires-clause-configured
apply_control-requires-clause-configured c =
    subst (λ (x : Act). IsConfigured c.args.world.now (act_event x)) c.in-Control.is c.requires.configured

pub apply_control-requires-clause-heard : goal.apply_control-requires-clause-heard
apply_control-requires-clause-heard c = subst (λ (x : Act). HasRead c.args.world.now x) c.in-Control.is c.requires.read

pub returns-in_ok-apply_control-in-Control-clause-replaced : goal.returns-in_ok-apply_control-in-Control-clause-replaced
returns-in_ok-apply_control-in-Control-clause-replaced c =
    subst (λ (x : Act). c.apply_control.new.replaced
    ≡ replaced_after c.args.world.now (act_event x) c.args.replaced.now)
    (sym c.in-Control.is) c.in_ok-apply_control-in-Control.ensures.replaced
