use Rattle.pim_tables.{specs.Ends.row_endings}
use Rattle.igmp_membership.{specs.MembershipTables.membership_endings}
use Rattle.igmp_membership.proofs.membership.Membership.next.Goals as goal

pub returns : goal.returns
unfolding membership_endings row_endings
returns c = rw (← c.self.view_is)
    (c.earlier-2.ensures _ _
    (c.earlier.ensures _ _
    (c.earlier-queries.ensures _ _
    (c.earlier-records.ensures _ _ c.next.ensures c.next-2.ensures) c.next-3.ensures)
    c.next-4.ensures) c.next-5.ensures)
