use Rattle.std.{proofs.Common.{List, Option, ap, arith, ◌++◌, ◌∙◌, refl, subst, sym}, specs.Prelude.IfSome}
use Rattle.pim_types.{specs.declared.outcome.Emission.Emission}
use Rattle.pim_model.{specs.Step.{Answered, change, outcome_of}}
use Rattle.pim_macros.{specs.{Sights.IsSourceSight, declared.sight.SourceSight.SourceSight}}
use Rattle.pim_state.{specs.declared.touched.Touched.Touched}
use Rattle.pim_fanout.{specs.Named.keys_of}
use Rattle.pim_plan.{specs.{Acting.act_event, Planning.Fits, declared.plan.Plan.Plan}}
use Rattle.pim_settling.{specs.Settling.settled_by}
use Rattle.pim_event.{proofs.{Acts.timeless, Quietly.named_quietly, Rows.names_opened, Taking.{changed_in_turn, outcome_told, taken_in_turn}}}
use Rattle.pim_event.proofs.event.change_world.Goals as goal

pub returns-clause-outcome : goal.returns-clause-outcome
returns-clause-outcome c =
    outcome_told
    (settled_by c.in_ok-gathered.gathered.opening c.apply.new.world c.apply.new.turn.messages c.apply.new.turn.draw)
    c.in_ok-copies.field-0.copies.items c.in_ok-copies.field-0.registered.items c.settle.new.emissions.items
    c.append.new.self.items c.append-2.new.self.items c.from_vec.result c.len-count.result c.from_vec.ensures
    (cc (c.in_ok-append-2.ensures.items, c.in_ok-copies.registered-is))
    (cc (c.in_ok-append.ensures.items, c.in_ok-copies.copies-is)) (c.in_ok-names.ensures.sent
    ∙ ap (λ (es : List Emission). es ++ (settled_by c.in_ok-gathered.gathered.opening c.apply.new.world c.apply.new.turn.messages
    c.apply.new.turn.draw).1) c.new-emissions.ensures.items)
    (c.len-count.ensures ∙ omega (arith, c.in_ok-copies.field-0.copies.ok.0, c.in_ok-copies.copies.ok.0))
    ∙ ap (λ (x : Answered). outcome_of x)
    (taken_in_turn c.args.world.now c.apply.new.world (act_event c.args.act) c.args.touched.now
    c.in_ok-gathered.gathered.opening c.in_ok-copies.field-0 c.args.turn.now c.args.turn.now c.apply.new.turn
    c.requires.rest.quiet c.proof_keyed.ensures (timeless c.args.act) c.requires.plan.covers
    c.in_ok-gathered.ensures.opening c.requires.begun
    refl c.in_ok-copies.ensures.sends)

pub returns-clause-state : goal.returns-clause-state
returns-clause-state c =
    c.in_ok-names.ensures.state
    ∙ ap (λ (x : Answered). x.state)
    (taken_in_turn c.args.world.now c.apply.new.world (act_event c.args.act) c.args.touched.now
    c.in_ok-gathered.gathered.opening c.in_ok-copies.field-0 c.args.turn.now c.args.turn.now c.apply.new.turn
    c.requires.rest.quiet c.proof_keyed.ensures (timeless c.args.act) c.requires.plan.covers
    c.in_ok-gathered.ensures.opening c.requires.begun
    refl c.in_ok-copies.ensures.sends)

pub returns-clause-names : goal.returns-clause-names
returns-clause-names c =
    names_opened c.args.world.now (change c.args.world.now c.args.turn.now.draw (act_event c.args.act)).state
    c.apply.new.world c.args.touched.now c.in_ok-gathered.gathered.opening c.in_ok-gathered.gathered.before _ c.requires.rest.quiet
    c.proof_keyed.ensures (c.requires.plan.covers c.args.turn.now.draw)
    (changed_in_turn c.args.world.now c.apply.new.world (act_event c.args.act) c.in_ok-copies.field-0 c.args.turn.now
    c.args.turn.now c.apply.new.turn
    refl c.in_ok-copies.ensures.sends)
    c.in_ok-gathered.ensures.opening c.in_ok-gathered.ensures.before c.in_ok-names.ensures.named

pub of-requires : goal.of-requires
of-requires c = c.planned_sight-given.ensures c.args.world.now c.requires.plan.read

pub change_quietly-requires-clause-plan : goal.change_quietly-requires-clause-plan
change_quietly-requires-clause-plan c =
    subst (λ (t : Touched). let p : Plan = record { touched = t; act = c.args.act } in
    Fits c.args.world.now (act_event c.args.act) p) (c.is_nothing.ensures c.if-is_nothing.true) c.requires.plan

pub returns-then-is_nothing-clause-names : goal.returns-then-is_nothing-clause-names
returns-then-is_nothing-clause-names c =
    named_quietly c.args.world.now (change c.args.world.now c.args.turn.now.draw (act_event c.args.act)).state
    c.args.touched.now _ (c.is_nothing.ensures c.if-is_nothing.true) (c.requires.plan.covers c.args.turn.now.draw)
    (ap keys_of c.new-names.ensures)

pub returns-then-is_nothing-clause-last : goal.returns-then-is_nothing-clause-last
returns-then-is_nothing-clause-last c =
    subst (λ (o : Option SourceSight). IfSome o (IsSourceSight c.change_quietly.new.world)) (sym c.requires.none) tt
