use Rattle.std.{proofs.Common.{subst, sym}, specs.Prelude.{OnOk, ◌≡◌}}
use Rattle.pim_state.{specs.Turns.saying}
use Rattle.pim_asserts.{specs.{Opened.clear_bits, Passes.group_pass, declared.clearing.Pass.Pass}}
use Rattle.pim_asserts.proofs.clearing.clear_group_in_pass.Goals as goal

pub returns-in-Asserts-clause-state : goal.returns-in-Asserts-clause-state
returns-in-Asserts-clause-state c =
    subst (λ (p : Pass). OnOk c.clear_asserts.result (c.clear_asserts.new.world
    ≡ (group_pass p c.args.world.now c.args.opened.now).0)) (sym c.in-Asserts.is)
    c.clear_asserts.ensures.state

pub returns-in-Asserts-clause-messages : goal.returns-in-Asserts-clause-messages
returns-in-Asserts-clause-messages c =
    subst (λ (p : Pass). OnOk c.clear_asserts.result (c.clear_asserts.new.turn
    ≡ saying c.args.turn.now (group_pass p c.args.world.now c.args.opened.now).1)) (sym c.in-Asserts.is)
    c.clear_asserts.ensures.messages

pub returns-in-Bits-clause-state : goal.returns-in-Bits-clause-state
unfolding clear_bits
returns-in-Bits-clause-state c =
    subst (λ (p : Pass). OnOk c.clear_sources_in_pass.result (c.clear_sources_in_pass.new.world
    ≡ (group_pass p c.args.world.now c.args.opened.now).0)) (sym c.in-Bits.is)
    c.clear_sources_in_pass.ensures.state

pub returns-in-Bits-clause-messages : goal.returns-in-Bits-clause-messages
unfolding clear_bits
returns-in-Bits-clause-messages c =
    subst (λ (p : Pass). OnOk c.clear_sources_in_pass.result (c.clear_sources_in_pass.new.turn
    ≡ saying c.args.turn.now (group_pass p c.args.world.now c.args.opened.now).1)) (sym c.in-Bits.is)
    c.clear_sources_in_pass.ensures.messages
