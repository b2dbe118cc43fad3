use Rattle.pim_worlds.{proofs.Tests.ten_tests}
use Rattle.pim_worlds.proofs.settled.is_tidy.Goals as goal

pub returns : goal.returns
returns c =
    ten_tests _ _ _ _ _ _ _ _ _ _ _
    (rw (rw c.neighbours.ensures at c.iter.ensures) at (rw c.are_up.ensures at c.if-not-are_up.false))
    (rw (rw c.membership-membership.ensures at c.querier_rows.ensures) at (rw c.are_up-2.ensures at c.if-not-are_up-2.false))
    (rw (rw c.membership-membership.ensures at c.group_record_rows.ensures.rows) at (rw c.are_up-3.ensures at c.if-not-are_up-3.false))
    (rw (rw c.membership-membership.ensures at c.source_record_rows.ensures.rows) at (rw c.are_up-4.ensures at c.if-not-are_up-4.false))
    (rw (rw c.membership-membership.ensures at c.group_repeat_rows.ensures) at (rw c.are_up-5.ensures at c.if-not-are_up-5.false))
    (rw (rw c.membership-membership.ensures at c.source_repeat_rows.ensures) at (rw c.are_up-6.ensures at c.if-not-are_up-6.false))
    (rw (rw c.membership-membership.ensures at c.sending_rows.ensures) at (rw c.are_up-7.ensures at c.if-not-are_up-7.false))
    (rw (rw c.store-store.ensures at c.downstream_rows.ensures.rows) at (rw c.are_up-8.ensures at c.if-not-are_up-8.false))
    (rw (rw c.store-store.ensures at c.assert_rows.ensures.rows) at (rw c.are_up-9.ensures at c.if-not-are_up-9.false))
    (rw (rw c.store-store.ensures at c.source_rows.ensures) at c.are_live.ensures)
