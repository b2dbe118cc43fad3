use Rattle.std.{proofs.Common.{List, ap, refl, subst, sym, ◌<◌, ◌∙◌}}
use Rattle.pim_model.{specs.{Clearing.clearable_count, Messages.Message, State.State}}
use Rattle.pim_state.{specs.Turns.saying, proofs.Said.said_nothing}
use Rattle.pim_asserts.{specs.{Going.{clear_once, source_bits}, Opened.clear_unneeded_asserts}, proofs.{Fuel.{cleared_by_turn, in_turn, no_turn, nothing_once, turn_is_fewer}, Progress.{stands_last, stands_next}}}
use Rattle.pim_asserts.proofs.part.clear_unneeded_asserts.Goals as goal

pub loop-init : goal.loop-init
loop-init c = record { state = refl; taking = refl }

pub loop-smaller : goal.loop-smaller
loop-smaller c =
    let was = c.args.part.was in
    let g = c.args.part.group.bits in
    let source = source_bits c.args.part.source in
    subst (λ s. clearable_count s < clearable_count c.loop.world) (sym c.in_ok-clear_next.ensures.state)
    (turn_is_fewer was g source c.loop.world (sym c.in_ok-clear_next.ensures.more ∙ c.if-branch.true))

pub loop-preserved : goal.loop-preserved
loop-preserved c =
    let was = c.args.part.was in
    let g = c.args.part.group.bits in
    let source = source_bits c.args.part.source in
    let s = c.loop.world in
    let more = sym c.in_ok-clear_next.ensures.more ∙ c.if-branch.true in
    stands_next (clear_once was g source s) (clear_unneeded_asserts was g source c.clear_next.new.world)
    (clear_unneeded_asserts was g source s) (clear_unneeded_asserts was g source c.args.world.now) c.loop.turn c.clear_next.new.turn c.args.turn.now
    (cleared_by_turn was g source s more
    ∙ ap (λ (u : State). in_turn was g source (clear_once was g source s) (clear_unneeded_asserts was g source u))
    (sym c.in_ok-clear_next.ensures.state))
    c.in_ok-clear_next.ensures.messages c.loop.invariant

pub returns-clause-state : goal.returns-clause-state
returns-clause-state c =
    let was = c.args.part.was in
    let g = c.args.part.group.bits in
    let source = source_bits c.args.part.source in
    let s = c.loop.world in
    let none = sym c.in_ok-clear_next.ensures.more ∙ c.if-branch.false in
    c.in_ok-clear_next.ensures.state
    ∙ ap (λ (p : State × List Message). p.0) (nothing_once was g source s none)
    ∙ (stands_last s (clear_unneeded_asserts was g source s) (clear_unneeded_asserts was g source c.args.world.now) c.loop.turn c.args.turn.now
    (no_turn was g source s none) c.loop.invariant).0

pub returns-clause-messages : goal.returns-clause-messages
returns-clause-messages c =
    let was = c.args.part.was in
    let g = c.args.part.group.bits in
    let source = source_bits c.args.part.source in
    let s = c.loop.world in
    let none = sym c.in_ok-clear_next.ensures.more ∙ c.if-branch.false in
    c.in_ok-clear_next.ensures.messages
    ∙ ap (λ (p : State × List Message). saying c.loop.turn p.1) (nothing_once was g source s none)
    ∙ said_nothing c.loop.turn
    ∙ (stands_last s (clear_unneeded_asserts was g source s) (clear_unneeded_asserts was g source c.args.world.now) c.loop.turn c.args.turn.now
    (no_turn was g source s none) c.loop.invariant).1
