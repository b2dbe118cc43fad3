use Rattle.law_streams.{proofs.NetHops.net_hops_end}
use Rattle.law_streams.proofs.promises.net_hops_end.Goals as goal

pub returns : goal.returns
returns c = net_hops_end
