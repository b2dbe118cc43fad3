use Rattle.law_streams.{proofs.Roots.root_sends}
use Rattle.law_streams.proofs.served.root_sends.Goals as goal

pub returns : goal.returns
returns c = root_sends
