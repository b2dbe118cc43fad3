use Rattle.std.{proofs.Common.ap}
use Rattle.pim_state.{specs.Lending.with_membership}
use Rattle.pim_querier.{proofs.Sent.repeats_left}
use Rattle.pim_querier.proofs.records.drop_repeats.Goals as goal

pub returns : goal.returns
returns c =
    repeats_left c.args.place.iface.number c.args.place.group.bits c.args.world.now _ c.drop_source_repeat.new.world
    c.drop_group_repeat.new.world
    (ap (with_membership c.args.world.now) (rw c.membership_mut.ensures.value at c.in_ok-drop_unrecorded.ensures))
    c.drop_source_repeat.ensures c.drop_group_repeat.ensures
