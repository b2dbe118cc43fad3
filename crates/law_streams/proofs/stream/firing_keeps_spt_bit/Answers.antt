use Rattle.law_streams.{proofs.TimedBits.firing_keeps_spt_bit}
use Rattle.law_streams.proofs.stream.firing_keeps_spt_bit.Goals as goal

pub returns : goal.returns
returns c = firing_keeps_spt_bit
