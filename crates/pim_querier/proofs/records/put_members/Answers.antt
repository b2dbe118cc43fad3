use Rattle.std.{proofs.{Common.{◌+◌, None, ap, drop, fold, sym, ◌∙◌}, lemmas.List.drop_more}}
use Rattle.pim_ip.{specs.Addr.addr}
use Rattle.pim_filters.{specs.declared.member.Member.Member}
use Rattle.pim_model.{specs.{State.State, Tables.set_row}}
use Rattle.pim_state.{specs.Lending.with_membership}
use Rattle.pim_querier.{specs.Changes.member_put}
use Rattle.pim_querier.proofs.records.put_members.Goals as goal

pub loop-member-preserved : goal.loop-member-preserved
unfolding member_put set_row
loop-member-preserved c =
    let l = c.loop-member in
    let put = member_put c.args.place.iface.number c.args.place.group.bits in
    let k = l.member-index in
    let members = c.args.members.now in
    let none : Member = record { source = addr 0; end = None } in
    let rest = drop (k + 1) members in
    let moved = ap (with_membership l.world) (rw c.membership_mut.ensures.value at c.in_ok-set_source_record.ensures) in
    ap (λ (s : State). fold put s rest) moved
    ∙ sym (ap (fold put l.world) (drop_more members k none c.loop-member-test.true)) ∙ l.invariant
