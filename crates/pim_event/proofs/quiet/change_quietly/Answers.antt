use Rattle.std.{proofs.Common.{List, ap, arith, ◌++◌, ◌∙◌}}
use Rattle.pim_types.{specs.declared.outcome.Emission.Emission}
use Rattle.pim_model.{specs.{Messages.Message, Step.{Answered, outcome_of}, Writing.write_all}}
use Rattle.pim_state.{specs.Turns.Taking}
use Rattle.pim_plan.{specs.Acting.act_event}
use Rattle.pim_event.{proofs.{Acts.timeless, Quietly.taken_quietly, Taking.{answered, outcome_told}}}
use Rattle.pim_event.proofs.quiet.change_quietly.Goals as goal

pub returns-clause-outcome : goal.returns-clause-outcome
returns-clause-outcome c =
    let leaving = c.in_ok-copies.field-0 in
    outcome_told (write_all c.apply.new.world c.turn.inside.out) leaving.copies.items leaving.registered.items
    c.write.new.emissions.items c.append.new.self.items c.append-2.new.self.items c.from_vec.result c.len-count.result
    c.from_vec.ensures (cc (c.in_ok-append-2.ensures.items, c.in_ok-copies.registered-is))
    (cc (c.in_ok-append.ensures.items, c.in_ok-copies.copies-is))
    (c.in_ok-write.ensures.sent
    ∙ ap (λ (es : List Emission). es ++ (write_all c.apply.new.world c.turn.inside.out).1) c.new-emissions.ensures.items)
    (c.len-count.ensures ∙ omega (arith, leaving.copies.ok.0, c.in_ok-copies.copies.ok.0))
    ∙ ap (λ (ms : List Message). outcome_of (answered (write_all c.apply.new.world ms) leaving.copies.items
    leaving.registered.items)) (ap (λ (t : Taking). t.messages) c.turn.view_is)
    ∙ ap (λ (x : Answered). outcome_of x)
    (taken_quietly c.args.world.now c.apply.new.world (act_event c.args.act) leaving c.args.turn.now
    c.apply.new.turn c.requires.rest.quiet c.proof_keyed.ensures (timeless c.args.act) c.requires.plan.covers
    c.requires.begun c.in_ok-copies.ensures.sends)

pub returns-clause-state : goal.returns-clause-state
returns-clause-state c =
    c.in_ok-write.ensures.state
    ∙ ap (λ (ms : List Message). (write_all c.apply.new.world ms).0) (ap (λ (t : Taking). t.messages) c.turn.view_is)
    ∙ ap (λ (x : Answered). x.state)
    (taken_quietly c.args.world.now c.apply.new.world (act_event c.args.act) c.in_ok-copies.field-0 c.args.turn.now
    c.apply.new.turn c.requires.rest.quiet c.proof_keyed.ensures (timeless c.args.act) c.requires.plan.covers
    c.requires.begun c.in_ok-copies.ensures.sends)
