use Rattle.law_converges.{proofs.NextHops.join_follows_next_hop}
use Rattle.law_converges.proofs.next_hops.join_follows_next_hop.Goals as goal

pub returns : goal.returns
returns c = join_follows_next_hop
