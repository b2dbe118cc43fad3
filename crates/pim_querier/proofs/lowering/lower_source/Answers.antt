use Rattle.std.{proofs.Common.ap}
use Rattle.pim_state.{specs.Lending.with_membership}
use Rattle.pim_querier.{proofs.{Lowered.{lowered_as_read, none_lowered}, Starting.then_ok}}
use Rattle.pim_querier.proofs.lowering.lower_source.Goals as goal

pub returns-in_default : goal.returns-in_default
returns-in_default c =
    none_lowered c.args.place.iface.number c.args.place.group.bits c.args.end c.args.world.now c.args.source
    (rw c.membership-2.ensures at c.in_default.ensures)

pub returns : goal.returns
returns c =
    then_ok c.change_source_record.result
    (λ e. lowered_as_read c.args.place.iface.number c.args.place.group.bits c.args.end c.args.world.now _ c.args.source
    c.source.result c.in-Some.row c.lowered.result
    (rw c.membership.ensures at c.proof_rising_source_records.ensures)
    (rw c.membership-2.ensures at c.in-Some.ensures) c.source.ensures c.lowered.ensures
    (ap (with_membership c.args.world.now) (rw c.membership_mut.ensures.value at e)))
    c.change_source_record.ensures
