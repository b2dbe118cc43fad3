use Rattle.igmp_membership.{specs.MembershipTables.membership_keys}
use Rattle.pim_state.{proofs.Gathered.{gathered_last, gathered_more}}
use Rattle.pim_state.proofs.groups.gather_members.Goals as goal

pub returns : goal.returns
unfolding membership_keys
returns c =
    let two = gathered_more _ _ _ _ _ c.in_ok-gather.ensures c.in_ok-gather-2.ensures in
    let three = gathered_more _ _ _ _ _ two c.in_ok-gather-3.ensures in
    let four = gathered_more _ _ _ _ _ three c.in_ok-gather-4.ensures in
    rw (
      ← c.group_record_rows.ensures.rows,
      ← c.source_record_rows.ensures.rows,
      ← c.group_repeat_rows.ensures,
      ← c.source_repeat_rows.ensures,
      ← c.sending_rows.ensures,
    )
    (gathered_last c.gather-5.result _ _ _ _ _ four c.gather-5.ensures)
