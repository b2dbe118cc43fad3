use Rattle.std.{proofs.Common.ap}
use Rattle.pim_model.{specs.Tables.set_row}
use Rattle.pim_state.{specs.Lending.with_membership}
use Rattle.pim_querier.{proofs.{Sent.put_beside, Starting.then_ok}}
use Rattle.pim_querier.proofs.applying.write_beside.Goals as goal

pub returns : goal.returns
unfolding set_row
returns c =
    then_ok c.drop_repeats.result
    (put_beside c.args.place.iface.number c.args.place.group.bits c.args.world.now _ c.put_members.new.world c.drop_empty.new.world
    c.drop_repeats.new.world c.args.known.now c.timer-end.result c.members.result.now c.is_none_left-is_none.result
    c.members.ensures.members c.timer-end.ensures
    (ap (with_membership c.args.world.now) (rw c.membership_mut.ensures.value at c.in_ok-set_group_record.ensures))
    c.in_ok-put_members.ensures c.is_none_left-is_none.ensures c.drop_empty.ensures)
    c.drop_repeats.ensures
