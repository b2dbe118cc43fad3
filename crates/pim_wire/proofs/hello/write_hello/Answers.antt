use Rattle.std.{proofs.Common.arith}
use Rattle.pim_wire.{proofs.Laws.hello_reads}
use Rattle.pim_wire.proofs.hello.write_hello.Goals as goal

pub returns-clause-reads : goal.returns-clause-reads
returns-clause-reads c = λ low.
    hello_reads c.args.propagation_delay c.args.override_interval c.args.priority c.args.generation low (omega arith) (omega arith) (omega arith) low
