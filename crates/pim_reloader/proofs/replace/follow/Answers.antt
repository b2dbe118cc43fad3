use Rattle.std.{proofs.Common.{List, ap, sym, ◌++◌, ◌∙◌}}
use Rattle.pim_types.{specs.declared.outcome.Emission.Emission}
use Rattle.pim_model.{specs.State.State}
use Rattle.pim_settling.{specs.Settling.settled_by}
use Rattle.pim_reloader.{proofs.{Following.followed, Settled.settled_alone}}
use Rattle.pim_reloader.proofs.replace.follow.Goals as goal

pub returns-clause-state : goal.returns-clause-state
returns-clause-state c =
    c.in_ok-settle.ensures.state
    ∙ ap (λ (p : State × List Emission). p.0)
    (followed c.args.world.now c.args.next c.reconfigure.new.world c.in_ok-gathered.gathered.opening c.args.turn.now
    c.reconfigure.new.turn c.requires.rest c.proof_keyed.ensures c.in_ok-gathered.ensures.opening
    c.in_ok-reconfigure.ensures.state c.in_ok-reconfigure.ensures.messages c.requires.begun)

pub returns-clause-sent : goal.returns-clause-sent
returns-clause-sent c =
    c.in_ok-settle.ensures.sent
    ∙ ap (λ (es : List Emission). es ++ (settled_by c.in_ok-gathered.gathered.opening c.reconfigure.new.world
    c.reconfigure.new.turn.messages c.reconfigure.new.turn.draw).1) c.new-sent.ensures.items
    ∙ ap (λ (p : State × List Emission). p.1)
    (followed c.args.world.now c.args.next c.reconfigure.new.world c.in_ok-gathered.gathered.opening c.args.turn.now
    c.reconfigure.new.turn c.requires.rest c.proof_keyed.ensures c.in_ok-gathered.ensures.opening
    c.in_ok-reconfigure.ensures.state c.in_ok-reconfigure.ensures.messages c.requires.begun)

pub returns-then-differ_in_settings-clause-state : goal.returns-then-differ_in_settings-clause-state
returns-then-differ_in_settings-clause-state c =
    let same = c.differ_in_settings.ensures.0 c.if-differ_in_settings.true in
    c.in_ok-put_settings.ensures
    ∙ sym (ap (λ (p : State × List Emission). p.0)
    (settled_alone c.args.world.now c.args.next c.args.turn.now.draw c.requires.rest same.0 same.1 same.2))

pub returns-then-differ_in_settings-clause-sent : goal.returns-then-differ_in_settings-clause-sent
returns-then-differ_in_settings-clause-sent c =
    let same = c.differ_in_settings.ensures.0 c.if-differ_in_settings.true in
    c.new.ensures.items
    ∙ sym (ap (λ (p : State × List Emission). p.1)
    (settled_alone c.args.world.now c.args.next c.args.turn.now.draw c.requires.rest same.0 same.1 same.2))
