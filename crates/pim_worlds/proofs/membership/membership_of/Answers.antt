use Rattle.std.{proofs.Common.{◌∙◌, ap}}
use Rattle.igmp_membership.{specs.MembershipTables.MembershipTables}
use Rattle.pim_worlds.{specs.Recorded.{all_refilled, tables_in}, proofs.FilledRecords.all_filled}
use Rattle.pim_worlds.proofs.membership.membership_of.Goals as goal

pub returns-clause-made : goal.returns-clause-made
returns-clause-made c = λ rise.
    c.in_ok-put_all.ensures.put c.if-not-branch.false
    ∙ ap (λ (m : MembershipTables). all_refilled m (tables_in c.args.queriers.now c.args.rows.now)) c.new-membership.ensures
    ∙ all_filled (tables_in c.args.queriers.now c.args.rows.now) rise
