use Rattle.std.{proofs.Common.{◌+◌, take, refl, sym, subst}}
use Rattle.pim_types.{specs.Keys.addr_cmp}
use Rattle.pim_downstream.{proofs.{RptGroups.{AreGroups, all_groups, another_group, no_groups, no_other_group}, rpt.joined_groups.Goals.{then-is_star_on+in_ok-insert, else-is_star_on}}}
use Rattle.pim_downstream.proofs.rpt.joined_groups.Goals as goal

pub loop-key-init : goal.loop-key-init
unfolding addr_cmp
loop-key-init c = no_groups c.args.iface.number c.args.joined.now _ c.new-groups.ensures.ordered c.new-groups.ensures.empty

pub loop-key-preserved : goal.loop-key-preserved
unfolding addr_cmp
loop-key-preserved c = elim c.if-is_star_on.branch [
  | then-is_star_on+in_ok-insert w ↦
      subst (λ groups. AreGroups c.args.iface.number (take (c.loop-key.key-index + 1) c.args.joined.now) groups.keys)
      (sym w.groups-is)
      (another_group c.args.iface.number c.args.joined.now c.loop-key.key-index _ _ c.loop-key.groups.keys
      c.loop-key.invariant c.loop-key-test.true refl _ (sym w.if-is_star_on.ensures)
      w.in_ok-insert.ensures.ordered w.in_ok-insert.ensures.keys)
  | else-is_star_on w ↦
      subst (λ groups. AreGroups c.args.iface.number (take (c.loop-key.key-index + 1) c.args.joined.now) groups.keys)
      (sym w.groups-is)
      (no_other_group c.args.iface.number c.args.joined.now c.loop-key.key-index _ _ c.loop-key.groups.keys
      c.loop-key.invariant c.loop-key-test.true refl (sym w.if-is_star_on.ensures))
]

pub returns-clause-joined : goal.returns-clause-joined
returns-clause-joined c =
    all_groups c.args.iface.number c.args.joined.now c.loop-key.key-index c.loop-key.groups.keys c.loop-key.invariant
    c.loop-key-test.false
