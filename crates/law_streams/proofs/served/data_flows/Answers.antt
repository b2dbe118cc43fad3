use Rattle.law_streams.{proofs.Comes.data_flows}
use Rattle.law_streams.proofs.served.data_flows.Goals as goal

pub returns : goal.returns
returns c = data_flows
