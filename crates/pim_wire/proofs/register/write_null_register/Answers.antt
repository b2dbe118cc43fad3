use Rattle.pim_wire.{proofs.Laws.null_register_reads}
use Rattle.pim_wire.proofs.register.write_null_register.Goals as goal

pub returns-clause-reads : goal.returns-clause-reads
returns-clause-reads c = λ source_is group_is. null_register_reads c.args.source.bits c.args.group.bits source_is group_is
