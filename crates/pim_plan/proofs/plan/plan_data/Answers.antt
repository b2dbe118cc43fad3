use Rattle.std.{proofs.Common.{ap, ◌∙◌}}
use Rattle.pim_ip.{specs.declared.addr.Addr.Addr}
use Rattle.pim_macros.{specs.declared.sight.StarSight.StarSight}
use Rattle.pim_plan.{proofs.Plans.{data_fits, source_room}}
use Rattle.pim_plan.proofs.plan.plan_data.Goals as goal

pub returns-then-source_is_full : goal.returns-then-source_is_full
returns-then-source_is_full c =
    source_room c.args.world.now c.args.iface c.args.packet _ _ _ _ c.destination-group.ensures c.source-source.ensures.value
    c.source_is_full.ensures c.if-source_is_full.true

pub returns : goal.returns
returns c =
    data_fits c.args.world.now c.args.iface c.args.packet c.requires.rest c.requires.configured c.of-sight.result _
    c.in_ok-new.ensures.ok c.in_ok-keys.keys _ c.of_keys.ensures
    (ap (λ (t : StarSight). t.group.bits) c.of-sight.ensures.star
    ∙ ap (λ (a : Addr). a.bits) c.of-star.ensures.group ∙ c.destination-group.ensures)
    (ap (λ (a : Addr). a.bits) c.of-sight.ensures.source ∙ c.source-source.ensures.value)
    c.of-sight.ensures.sight
    (source_room c.args.world.now c.args.iface c.args.packet _ _ _ _ c.destination-group.ensures c.source-source.ensures.value
    c.source_is_full.ensures c.if-source_is_full.false)
    c.in_ok-keys.ensures
