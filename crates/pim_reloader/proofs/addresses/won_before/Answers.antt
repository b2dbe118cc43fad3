use Rattle.law_settled.{proofs.FoundRows.{all_found, found, passed}}
use Rattle.law_states.{specs.Reloading.is_won_before}
use Rattle.pim_reloader.proofs.addresses.won_before.Goals as goal

pub loop-key-preserved-in-Continue-1 : goal.loop-key-preserved-in-Continue-1
loop-key-preserved-in-Continue-1 c =
    found (is_won_before c.args.world.now c.args.next.now.configured) _ c.loop-key.keys.items c.push.new.self.items
    (c.in-Some.key.now, c.in-Some.row.now) c.loop-key.key-iterator c.next.new.self c.is_won_before.result
    c.in-Some.ensures.steps c.in_ok-push.ensures.items c.is_won_before.ensures c.if-is_won_before.true
    c.loop-key.invariant

pub loop-key-preserved : goal.loop-key-preserved
loop-key-preserved c =
    passed (is_won_before c.args.world.now c.args.next.now.configured) _ c.loop-key.keys.items
    (c.in-Some.key.now, c.in-Some.row.now) c.loop-key.key-iterator c.next.new.self c.is_won_before.result
    c.in-Some.ensures.steps c.is_won_before.ensures c.if-is_won_before.false c.loop-key.invariant

pub returns : goal.returns
returns c =
    all_found (is_won_before c.args.world.now c.args.next.now.configured) _ c.loop-key.keys.items c.loop-key.key-iterator
    c.in-None.ensures.steps.0 c.loop-key.invariant
