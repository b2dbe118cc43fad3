use Rattle.igmp_wire.{specs.Written.bits_of}
use Rattle.std.{proofs.Common.{ap, ◌∙◌}}
use Rattle.pim_querier.{proofs.Looking.grows_as}
use Rattle.pim_querier.proofs.report.apply_record.Goals as goal

pub returns-clause-known : goal.returns-clause-known
returns-clause-known c = λ after grows.
    c.in_ok-name.ensures c.args.world.now.source_records after c.in_ok-asked.ensures.known
    (grows_as c.args.iface.number c.args.group_record.now.group c.group.result.bits c.args.group_record.now.sources
    (bits_of c.deref-2.result.now) c.args.world.now.source_records after c.group.ensures
    (ap (λ sources. bits_of sources) c.deref-2.ensures.value ∙ c.in_ok-sources.ensures) grows)
