use Rattle.law_streams.{proofs.ServedData.member_is_served}
use Rattle.law_streams.proofs.promises.member_is_served.Goals as goal

pub returns : goal.returns
returns c = member_is_served
