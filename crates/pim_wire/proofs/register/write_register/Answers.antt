use Rattle.std.{proofs.Common.arith}
use Rattle.pim_wire.{proofs.Laws.register_reads}
use Rattle.pim_wire.proofs.register.write_register.Goals as goal

pub returns-clause-reads : goal.returns-clause-reads
returns-clause-reads c = λ p is short source_is group_is. register_reads c.args.inner.now p is (omega arith) source_is group_is
