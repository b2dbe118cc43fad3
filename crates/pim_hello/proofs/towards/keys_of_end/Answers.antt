use Rattle.std.{proofs.Common.{ap, ◌∙◌}}
use Rattle.pim_types.{specs.{declared.config.IfaceId.IfaceId, Keys.{iface_in, source_in}}}
use Rattle.law_events.{specs.Adjacent.{end_keeps_dr, keys_of_end, keys_towards}}
use Rattle.pim_hello.{proofs.Led.{own_alone, with_dr}}
use Rattle.pim_hello.proofs.towards.keys_of_end.Goals as goal

pub returns-then-end_keeps_dr : goal.returns-then-end_keeps_dr
unfolding keys_of_end
returns-then-end_keeps_dr c =
    let s = c.args.world.now in
    let k = c.args.key in
    own_alone s (iface_in k) (keys_towards s (iface_in k) (source_in k)) c.in_ok-keys.keys.items c.end_keeps_dr.result
    (end_keeps_dr s k) c.end_keeps_dr.ensures c.if-end_keeps_dr.true
    (c.in_ok-keys.ensures
    ∙ (λ j. keys_towards s (ap (λ (i : IfaceId). i.number) c.hop.ensures.iface j) (c.hop.ensures.address j)))

pub returns : goal.returns
unfolding keys_of_end
returns c =
    let s = c.args.world.now in
    let k = c.args.key in
    with_dr s (iface_in k) (keys_towards s (iface_in k) (source_in k)) c.put_keys_of_dr.new.keys.items c.end_keeps_dr.result
    (end_keeps_dr s k) c.end_keeps_dr.ensures c.if-end_keeps_dr.false c.in_ok-keys.keys.items
    (c.in_ok-keys.ensures
    ∙ (λ j. keys_towards s (ap (λ (i : IfaceId). i.number) c.hop.ensures.iface j) (c.hop.ensures.address j)))
    c.in_ok-put_keys_of_dr.ensures
