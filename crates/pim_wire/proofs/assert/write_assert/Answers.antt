use Rattle.std.{proofs.Common.arith}
use Rattle.pim_wire.{proofs.Laws.assert_reads}
use Rattle.pim_wire.proofs.assert.write_assert.Goals as goal

pub returns-clause-reads : goal.returns-clause-reads
returns-clause-reads c = λ group_is source_fits.
    assert_reads c.args.group.bits c.args.source.bits c.args.rpt c.args.preference c.args.metric c.requires (omega arith) group_is source_fits
