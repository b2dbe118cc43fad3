use Rattle.pim_types.{specs.Keys.addr_cmp}
use Rattle.pim_querier.{proofs.NamedRecords.gathered_rise}
use Rattle.pim_querier.proofs.applying.members_among.Goals as goal

pub returns-clause-ascending : goal.returns-clause-ascending
unfolding addr_cmp
returns-clause-ascending c =
    gathered_rise c.args.place.iface.number c.args.place.group.bits c.args.world.now.source_records c.loop-source.members.items
    c.loop-source.source-iterator c.args.sources.now.keys c.in-None.ensures.steps.0 c.loop-source.invariant
    c.len.ensures.ordered
