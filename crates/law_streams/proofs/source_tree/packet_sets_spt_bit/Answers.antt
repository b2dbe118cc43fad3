use Rattle.law_streams.{proofs.Turning.packet_sets_spt_bit}
use Rattle.law_streams.proofs.source_tree.packet_sets_spt_bit.Goals as goal

pub returns : goal.returns
returns c = packet_sets_spt_bit
