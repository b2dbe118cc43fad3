use Rattle.law_streams.{proofs.Hosts.host_asks}
use Rattle.law_streams.proofs.served.host_asks.Goals as goal

pub returns : goal.returns
returns c = host_asks
