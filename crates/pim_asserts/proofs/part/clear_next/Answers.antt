use Rattle.std.{proofs.Common.{[], Option, ap, is_some, sym, ◌∙◌}, specs.Option.option_map_or}
use Rattle.pim_model.{specs.Clearing.{Cleared, cleared}}
use Rattle.pim_state.{specs.Turns.saying, proofs.Said.said_nothing}
use Rattle.pim_asserts.{specs.Going.{clear_once, source_bits}, proofs.PartToClear.{forgets, nothing_next}}
use Rattle.pim_asserts.proofs.part.clear_next.Goals as goal

pub returns-in_default-clause-more : goal.returns-in_default-clause-more
returns-in_default-clause-more c =
    sym (ap is_some (nothing_next c.args.part.group.bits (source_bits c.args.part.source) c.args.part.was c.args.world.now
    c.proof_keyed.ensures c.proof_keyed.ensures.asserts_rise (sym c.in_default.ensures)))

pub returns-in_default-clause-state : goal.returns-in_default-clause-state
unfolding clear_once
returns-in_default-clause-state c =
    let s = c.args.world.now in
    ap (λ (o : Option Cleared). (option_map_or (cleared s) o (s, [])).0)
    (sym (nothing_next c.args.part.group.bits (source_bits c.args.part.source) c.args.part.was s
    c.proof_keyed.ensures c.proof_keyed.ensures.asserts_rise (sym c.in_default.ensures)))

pub returns-in_default-clause-messages : goal.returns-in_default-clause-messages
unfolding clear_once
returns-in_default-clause-messages c =
    let s = c.args.world.now in
    let t = c.args.turn.now in
    sym (said_nothing t)
    ∙ ap (λ (o : Option Cleared). saying t (option_map_or (cleared s) o (s, [])).1)
    (sym (nothing_next c.args.part.group.bits (source_bits c.args.part.source) c.args.part.was s
    c.proof_keyed.ensures c.proof_keyed.ensures.asserts_rise (sym c.in_default.ensures)))

pub forget-requires : goal.forget-requires
forget-requires c =
    (forgets c.args.part.group.bits (source_bits c.args.part.source) c.args.part.was c.args.world.now c.proof_keyed.ensures
    c.proof_keyed.ensures.asserts_rise c.in-Some.iface.number (sym c.in-Some.ensures)).below

pub returns-clause-more : goal.returns-clause-more
returns-clause-more c =
    sym (forgets c.args.part.group.bits
    (source_bits c.args.part.source) c.args.part.was c.args.world.now c.proof_keyed.ensures
    c.proof_keyed.ensures.asserts_rise c.in-Some.iface.number (sym c.in-Some.ensures)).more

pub returns-clause-state : goal.returns-clause-state
returns-clause-state c =
    c.in_ok-forget.ensures.state
    ∙ (forgets c.args.part.group.bits (source_bits c.args.part.source) c.args.part.was c.args.world.now c.proof_keyed.ensures
    c.proof_keyed.ensures.asserts_rise c.in-Some.iface.number (sym c.in-Some.ensures)).state

pub returns-clause-messages : goal.returns-clause-messages
returns-clause-messages c =
    c.in_ok-forget.ensures.messages
    ∙ ap (saying c.args.turn.now)
    (forgets c.args.part.group.bits (source_bits c.args.part.source) c.args.part.was c.args.world.now c.proof_keyed.ensures
    c.proof_keyed.ensures.asserts_rise c.in-Some.iface.number (sym c.in-Some.ensures)).messages
