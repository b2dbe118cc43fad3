use Rattle.law_converges.{proofs.TakesOver.new_next_hop_takes_over}
use Rattle.law_converges.proofs.next_hops.new_next_hop_takes_over.Goals as goal

pub returns : goal.returns
returns c = new_next_hop_takes_over
