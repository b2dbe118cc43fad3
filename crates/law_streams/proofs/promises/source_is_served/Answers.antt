use Rattle.law_streams.{proofs.ServedData.source_is_served}
use Rattle.law_streams.proofs.promises.source_is_served.Goals as goal

pub returns : goal.returns
returns c = source_is_served
