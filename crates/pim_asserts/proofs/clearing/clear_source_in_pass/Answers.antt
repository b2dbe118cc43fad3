use Rattle.std.{proofs.Common.{subst, sym}, specs.Prelude.{OnOk, ◌≡◌}}
use Rattle.pim_state.{specs.Turns.saying}
use Rattle.pim_asserts.{specs.{Passes.source_pass, declared.clearing.Pass.Pass}}
use Rattle.pim_asserts.proofs.clearing.clear_source_in_pass.Goals as goal

pub returns-in-Asserts-clause-state : goal.returns-in-Asserts-clause-state
returns-in-Asserts-clause-state c =
    subst (λ (p : Pass). OnOk c.clear_source.result (c.clear_source.new.world
    ≡ (source_pass p c.args.group.bits c.args.world.now c.args.opened).0)) (sym c.in-Asserts.is)
    c.clear_source.ensures.state

pub returns-in-Asserts-clause-messages : goal.returns-in-Asserts-clause-messages
returns-in-Asserts-clause-messages c =
    subst (λ (p : Pass). OnOk c.clear_source.result (c.clear_source.new.turn
    ≡ saying c.args.turn.now (source_pass p c.args.group.bits c.args.world.now c.args.opened).1)) (sym c.in-Asserts.is)
    c.clear_source.ensures.messages

pub returns-in-Bits-clause-state : goal.returns-in-Bits-clause-state
returns-in-Bits-clause-state c =
    subst (λ (p : Pass). OnOk c.clear_bit.result (c.clear_bit.new.world
    ≡ (source_pass p c.args.group.bits c.args.world.now c.args.opened).0)) (sym c.in-Bits.is)
    c.clear_bit.ensures.state

pub returns-in-Bits-clause-messages : goal.returns-in-Bits-clause-messages
returns-in-Bits-clause-messages c =
    subst (λ (p : Pass). OnOk c.clear_bit.result (c.clear_bit.new.turn
    ≡ saying c.args.turn.now (source_pass p c.args.group.bits c.args.world.now c.args.opened).1)) (sym c.in-Bits.is)
    c.clear_bit.ensures.messages
