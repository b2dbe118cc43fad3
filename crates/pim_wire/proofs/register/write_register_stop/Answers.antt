use Rattle.pim_wire.{proofs.Laws.register_stop_reads}
use Rattle.pim_wire.proofs.register.write_register_stop.Goals as goal

pub returns-clause-reads : goal.returns-clause-reads
returns-clause-reads c = λ group_is. register_stop_reads c.args.group.bits c.args.source.bits c.register_stop_bytes.ensures.in_range group_is
