use Rattle.std.{proofs.{Common.{List, ap, sym, ◌∙◌}, lemmas.List.drop_all}}
use Rattle.pim_views.{specs.declared.opening.GroupOpening.GroupOpening}
use Rattle.pim_register.{specs.Settling.registers_by, proofs.Steps.{next_group, next_item, no_group}}
use Rattle.pim_register.proofs.settling.changed.Goals as goal

pub loop-opened-preserved : goal.loop-opened-preserved
loop-opened-preserved c =
    let groups = c.groups-opened-items.result.now in
    let i = c.loop-opened.opened-index in
    let left = next_item groups i c.opened-item.result c.loop-opened-test.true c.opened-item.is in
    next_group c.opened-item.result _ _ _ _ left c.in_ok-settle_group.ensures ∙ c.loop-opened.invariant

pub returns : goal.returns
returns c =
    let after = c.loop-opened.world in
    let groups = c.groups-opened-items.result.now in
    sym (no_group after)
    ∙ ap (λ (xs : List GroupOpening). registers_by xs after)
    (sym (drop_all c.loop-opened.opened-index groups c.loop-opened-test.false))
    ∙ c.loop-opened.invariant
    ∙ ap (λ (xs : List GroupOpening). registers_by xs c.args.world.now) c.groups-opened-items.ensures
