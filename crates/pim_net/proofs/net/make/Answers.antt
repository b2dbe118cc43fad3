use Rattle.std.{proofs.Common.refl}
use Rattle.pim_net.{proofs.{Carries.{happened, uncounted}, Stations.{if_some, of_some}}}
use Rattle.pim_net.proofs.net.make.Goals as goal

pub returns-in-Event-clause-moves : goal.returns-in-Event-clause-moves
returns-in-Event-clause-moves g c = if_some c.args.network.now _ (λ n is.
    happened g.W.Wire.is_faithful g.W.Wire.sends g.W.Wire.gives c.args.ports.now n c.args.wire.now c.args.one.now
    c.step.new.self c.args.wire.now c.step.result c.in-Event.router c.in-Event.event c.in-Event.is
    (of_some c.args.network.now _ n is c.step.ensures.outcome) (of_some c.args.network.now _ n is c.step.ensures.network)
    refl)

pub returns-in-Event-clause-counted : goal.returns-in-Event-clause-counted
returns-in-Event-clause-counted g c = if_some c.args.network.now _ (λ n is.
    uncounted _ _ (of_some c.args.network.now _ n is c.step.ensures.fault))
