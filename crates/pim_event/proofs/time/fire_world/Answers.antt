use Rattle.std.{proofs.Common.{◌≡◌, ◌++◌, List, subst, sym, refl, ◌∙◌}, specs.Prelude.IfSome}
use Rattle.pim_fanout.{specs.Named.keys_of}
use Rattle.pim_macros.{specs.Sights.IsSourceSight}
use Rattle.pim_model.{specs.{Reach.own_firing, State.State}}
use Rattle.pim_settling.{specs.Settling.AreNames}
use Rattle.pim_event.{specs.Ends.ending_of, proofs.{Rows.names_opened, Instants.{end_fired, end_touched, fired_in_turn}}}
use Rattle.pim_types.{specs.declared.outcome.Emission.Emission}
use Rattle.pim_state.{specs.declared.touched.Touched.Touched}
use Rattle.pim_event.proofs.time.fire_world.Goals as goal

pub returns-clause-state : goal.returns-clause-state
returns-clause-state c =
    c.keep_next.ensures
    ∙ subst (λ (p : State × List Emission). c.settle.new.world ≡ p.0)
    (fired_in_turn c.args.world.now c.args.due c.set_present.new.self c.fired.new.world c.args.touched.now
    c.in_ok-gathered.gathered.opening c.args.turn.now c.args.turn.now c.fired.new.turn c.requires.lawful c.requires.quiet
    c.proof_keyed.ensures c.proof_keyed-2.ensures c.requires.touched c.in_ok-gathered.ensures.opening c.requires.begun refl
    c.set_present.ensures c.in_ok-fired.ensures.state c.in_ok-fired.ensures.messages)
    c.in_ok-names.ensures.state

pub returns-clause-sent : goal.returns-clause-sent
returns-clause-sent c =
    subst (λ (p : State × List Emission). c.settle.new.emissions.items ≡ c.args.emissions.now.items ++ p.1)
    (fired_in_turn c.args.world.now c.args.due c.set_present.new.self c.fired.new.world c.args.touched.now
    c.in_ok-gathered.gathered.opening c.args.turn.now c.args.turn.now c.fired.new.turn c.requires.lawful c.requires.quiet
    c.proof_keyed.ensures c.proof_keyed-2.ensures c.requires.touched c.in_ok-gathered.ensures.opening c.requires.begun refl
    c.set_present.ensures c.in_ok-fired.ensures.state c.in_ok-fired.ensures.messages)
    c.in_ok-names.ensures.sent

pub returns-clause-names : goal.returns-clause-names
returns-clause-names c =
    subst (λ (t : Touched). AreNames c.args.world.now (own_firing c.args.world.now (ending_of c.args.due)) t
    (keys_of c.in_ok-names.names)) c.requires.touched
    (names_opened c.args.world.now (own_firing c.args.world.now (ending_of c.args.due)) c.fired.new.world
    c.args.touched.now c.in_ok-gathered.gathered.opening c.in_ok-gathered.gathered.before (keys_of c.in_ok-names.names)
    c.requires.quiet c.proof_keyed-2.ensures
    (end_touched c.args.world.now c.args.due c.args.touched.now c.requires.lawful c.proof_keyed.ensures c.requires.touched)
    (end_fired c.args.world.now c.args.due c.set_present.new.self c.fired.new.world c.set_present.ensures
    c.in_ok-fired.ensures.state)
    c.in_ok-gathered.ensures.opening c.in_ok-gathered.ensures.before c.in_ok-names.ensures.named)

pub returns-clause-last : goal.returns-clause-last
returns-clause-last c =
    subst (λ (s : State). IfSome c.settle.new.last (IsSourceSight s)) (sym c.keep_next.ensures) c.in_ok-names.ensures.last
