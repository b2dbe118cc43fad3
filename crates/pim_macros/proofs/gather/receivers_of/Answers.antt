use Rattle.std.{proofs.Common.{ap, ◌∙◌}}
use Rattle.pim_model.{specs.Receivers.{local_receiver_exclude, local_receiver_exclude_among, local_receiver_include, local_receiver_include_among}}
use Rattle.igmp_membership.{specs.MembershipTables.MembershipTables}
use Rattle.pim_macros.{proofs.Asserted.shown_of_all}
use Rattle.pim_macros.proofs.gather.receivers_of.Goals as goal

pub returns-clause-included : goal.returns-clause-included
unfolding local_receiver_include
returns-clause-included c =
    let s = c.args.world.now in
    let g = c.args.name.group.bits in
    shown_of_all _ _ (local_receiver_include s g c.args.name.source.bits) (λ i. c.receivers_of-found.ensures.included i
    ∙ ap (λ (w : MembershipTables). local_receiver_include_among w.group_records w.source_records g c.args.name.source.bits i) c.membership.ensures)
    c.without_tunnel.ensures.limit

pub returns-clause-excluded : goal.returns-clause-excluded
unfolding local_receiver_exclude
returns-clause-excluded c =
    let s = c.args.world.now in
    let g = c.args.name.group.bits in
    shown_of_all _ _ (local_receiver_exclude s g c.args.name.source.bits) (λ i. c.receivers_of-found.ensures.excluded i
    ∙ ap (λ (w : MembershipTables). local_receiver_exclude_among w.group_records w.source_records g c.args.name.source.bits i) c.membership.ensures)
    c.without_tunnel-2.ensures.limit
