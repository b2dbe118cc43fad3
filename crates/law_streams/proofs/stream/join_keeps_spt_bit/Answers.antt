use Rattle.law_streams.{proofs.Bits.join_keeps_spt_bit}
use Rattle.law_streams.proofs.stream.join_keeps_spt_bit.Goals as goal

pub returns : goal.returns
returns c = join_keeps_spt_bit
