use Rattle.std.{proofs.Common.ap}
use Rattle.pim_state.{specs.Lending.with_membership}
use Rattle.pim_querier.{proofs.{Expired.members_near, Sent.members_set, Starting.then_ok}}
use Rattle.pim_querier.proofs.records.set_members.Goals as goal

pub put_members-requires : goal.put_members-requires
put_members-requires c =
    members_near c.args.place.iface.number c.members.result.now c.args.known.now.members c.members.ensures.members c.requires

pub returns : goal.returns
returns c =
    then_ok c.drop_repeats.result
    (members_set c.args.place.iface.number c.args.place.group.bits c.args.world.now c.drop_empty.new.world _ c.put_members.new.world
    c.drop_repeats.new.world c.args.known.now c.is_no_record.result c.members.result.now c.members.ensures.members
    c.is_no_record.ensures c.drop_empty.ensures
    (ap (with_membership c.drop_empty.new.world) (rw c.membership_mut.ensures.value at c.drop_source_records.ensures))
    c.in_ok-put_members.ensures)
    c.drop_repeats.ensures
