use Rattle.law_streams.{proofs.ChangedBits.change_keeps_spt_bit}
use Rattle.law_streams.proofs.stream.change_keeps_spt_bit.Goals as goal

pub returns : goal.returns
returns c = change_keeps_spt_bit
