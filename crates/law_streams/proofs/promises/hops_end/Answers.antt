use Rattle.law_streams.{proofs.Hops.hops_end}
use Rattle.law_streams.proofs.promises.hops_end.Goals as goal

pub returns : goal.returns
returns c = hops_end
