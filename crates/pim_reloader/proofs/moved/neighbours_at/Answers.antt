use Rattle.pim_types.{specs.Keys.iface_in}
use Rattle.pim_model.{specs.Tables.is_among}
use Rattle.law_settled.{proofs.FoundRows.{all_found, found, passed}}
use Rattle.pim_reloader.proofs.moved.neighbours_at.Goals as goal

pub loop-key-preserved-in-Continue-1 : goal.loop-key-preserved-in-Continue-1
loop-key-preserved-in-Continue-1 c =
    found (λ e. is_among (iface_in e.0) c.args.places.now) _ c.loop-key.keys.items c.push.new.self.items
    (c.in-Some.key.now, c.in-Some.field-0-1.now) c.loop-key.key-iterator c.next.new.self c.is_among.result
    c.in-Some.ensures.steps c.in_ok-push.ensures.items c.is_among.ensures c.if-is_among.true c.loop-key.invariant

pub loop-key-preserved : goal.loop-key-preserved
loop-key-preserved c =
    passed (λ e. is_among (iface_in e.0) c.args.places.now) _ c.loop-key.keys.items
    (c.in-Some.key.now, c.in-Some.field-0-1.now) c.loop-key.key-iterator c.next.new.self c.is_among.result
    c.in-Some.ensures.steps c.is_among.ensures c.if-is_among.false c.loop-key.invariant

pub returns : goal.returns
returns c =
    all_found (λ e. is_among (iface_in e.0) c.args.places.now) _ c.loop-key.keys.items c.loop-key.key-iterator
    c.in-None.ensures.steps.0 c.loop-key.invariant
