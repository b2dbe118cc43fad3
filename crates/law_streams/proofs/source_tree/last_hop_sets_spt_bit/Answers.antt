use Rattle.law_streams.{proofs.LastHop.last_hop_sets_spt_bit}
use Rattle.law_streams.proofs.source_tree.last_hop_sets_spt_bit.Goals as goal

pub returns : goal.returns
returns c = last_hop_sets_spt_bit
