use Rattle.std.{proofs.Common.{◌++◌, List, ap, ◌∙◌}}
use Rattle.pim_types.{specs.declared.outcome.Emission.Emission}
use Rattle.pim_model.{specs.State.State}
use Rattle.pim_settling.{specs.Settling.settled_by}
use Rattle.pim_reloader.{proofs.Placed.parted_follows}
use Rattle.pim_reloader.proofs.moved.settle_parted.Goals as goal

pub returns-clause-state : goal.returns-clause-state
returns-clause-state c =
    c.in_ok-settle.ensures.state
    ∙ ap (λ (p : State × List Emission). p.0)
    (parted_follows c.args.world.now c.part.new.world c.args.apart.now c.in_ok-gathered.gathered.opening c.args.turn.now
    c.proof_keyed.ensures c.in_ok-gathered.ensures.opening c.in_ok-part.ensures c.requires)

pub returns-clause-sent : goal.returns-clause-sent
returns-clause-sent c =
    c.in_ok-settle.ensures.sent
    ∙ ap (λ (es : List Emission). es ++ (settled_by c.in_ok-gathered.gathered.opening c.part.new.world
    c.args.turn.now.messages c.args.turn.now.draw).1) c.new-sent.ensures.items
    ∙ ap (λ (p : State × List Emission). p.1)
    (parted_follows c.args.world.now c.part.new.world c.args.apart.now c.in_ok-gathered.gathered.opening c.args.turn.now
    c.proof_keyed.ensures c.in_ok-gathered.ensures.opening c.in_ok-part.ensures c.requires)
