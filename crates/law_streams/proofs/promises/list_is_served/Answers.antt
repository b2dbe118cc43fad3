use Rattle.law_streams.{proofs.ServedData.list_is_served}
use Rattle.law_streams.proofs.promises.list_is_served.Goals as goal

pub returns : goal.returns
returns c = list_is_served
