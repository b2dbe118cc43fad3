use Rattle.law_streams.{proofs.Fewer.time_adds_none}
use Rattle.law_streams.proofs.promises.time_adds_none.Goals as goal

pub returns : goal.returns
returns c = time_adds_none
