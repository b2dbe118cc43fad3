use Rattle.std.{proofs.Common.ap}
use Rattle.pim_state.{specs.Lending.with_membership}
use Rattle.pim_querier.{proofs.OneSource.source_dropped}
use Rattle.pim_querier.proofs.records.drop_source.Goals as goal

pub returns : goal.returns
returns c =
    source_dropped c.args.place.iface.number c.args.place.group.bits c.args.source.bits c.args.world.now _ c.drop_empty.new.world
    c.has_sources-is_none.result
    (ap (with_membership c.args.world.now) (rw c.membership_mut.ensures.value at c.remove_source_record.ensures))
    c.has_sources-is_none.ensures c.drop_empty.ensures
