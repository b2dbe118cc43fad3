use Rattle.pim_reloader.{proofs.Asked.{none_there, one_there}}
use Rattle.pim_reloader.proofs.queriers.put_under.Goals as goal

pub returns-in_default : goal.returns-in_default
returns-in_default c =
    none_there c.args.world.now c.args.key c.requires c.querier.result (rw c.membership-2.ensures at c.querier.ensures.row)
    c.in_default.is

pub returns : goal.returns
returns c =
    one_there c.args.world.now c.args.key c.requires c.change_querier.result _ _ c.querier.result c.in-Some.row
    c.row_under-after.result (rw c.membership.ensures at c.proof_rising.ensures.queriers)
    (rw c.membership-2.ensures at c.querier.ensures.row) c.in-Some.is c.row_under-after.ensures.row c.membership_mut.ensures.value
    c.change_querier.ensures
