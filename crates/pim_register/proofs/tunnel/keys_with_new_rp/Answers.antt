use Rattle.std.{proofs.Common.◌∙◌}
use Rattle.law_settled.{proofs.FoundRows.{all_found, found, passed}}
use Rattle.pim_register.{specs.Tunnel.is_rp_changed, proofs.Tunnelled.asked_rp}
use Rattle.pim_register.proofs.tunnel.keys_with_new_rp.Goals as goal

pub loop-key-preserved-in-Continue-1 : goal.loop-key-preserved-in-Continue-1
loop-key-preserved-in-Continue-1 c =
    found (λ e. is_rp_changed c.args.world.now c.args.next.now.ranges e.0) _ c.loop-key.keys.items c.push.new.self.items
    (c.in-Some.key.now, c.in-Some.field-0-1.now) c.loop-key.key-iterator c.next.new.self c.is_other_rp.result
    c.in-Some.ensures.steps c.in_ok-push.ensures.items
    (c.is_other_rp.ensures ∙ asked_rp _ _ _ _ c.rp-before.ensures.value c.rp-after.ensures.value)
    c.if-is_other_rp.true c.loop-key.invariant

pub loop-key-preserved : goal.loop-key-preserved
loop-key-preserved c =
    passed (λ e. is_rp_changed c.args.world.now c.args.next.now.ranges e.0) _ c.loop-key.keys.items
    (c.in-Some.key.now, c.in-Some.field-0-1.now) c.loop-key.key-iterator c.next.new.self c.is_other_rp.result
    c.in-Some.ensures.steps
    (c.is_other_rp.ensures ∙ asked_rp _ _ _ _ c.rp-before.ensures.value c.rp-after.ensures.value)
    c.if-is_other_rp.false c.loop-key.invariant

pub returns-clause-keys : goal.returns-clause-keys
returns-clause-keys c =
    all_found (λ e. is_rp_changed c.args.world.now c.args.next.now.ranges e.0) _ c.loop-key.keys.items
    c.loop-key.key-iterator c.in-None.ensures.steps.0 c.loop-key.invariant
