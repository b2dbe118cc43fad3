use Rattle.std.{proofs.Common.{ap, ◌∙◌}}
use Rattle.pim_model.{specs.Receivers.{is_exclude, is_exclude_among}}
use Rattle.igmp_membership.{specs.MembershipTables.MembershipTables}
use Rattle.pim_macros.{proofs.Asserted.shown_of_all}
use Rattle.pim_macros.proofs.gather.receivers.Goals as goal

pub returns : goal.returns
unfolding is_exclude
returns c =
    let s = c.args.world.now in
    let g = c.args.group.bits in
    shown_of_all _ _ (is_exclude s g) (λ i. c.receivers_star.ensures.interfaces i
    ∙ ap (λ (w : MembershipTables). is_exclude_among w.group_records g i) c.membership.ensures)
    c.without_tunnel.ensures.limit
