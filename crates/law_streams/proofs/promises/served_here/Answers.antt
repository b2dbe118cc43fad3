use Rattle.law_streams.{proofs.ServedData.served_here}
use Rattle.law_streams.proofs.promises.served_here.Goals as goal

pub returns : goal.returns
returns c = served_here
