use Rattle.law_converges.{proofs.NextHops.old_next_hop_is_pruned}
use Rattle.law_converges.proofs.next_hops.old_next_hop_is_pruned.Goals as goal

pub returns : goal.returns
returns c = old_next_hop_is_pruned
