use Rattle.law_streams.{proofs.Own.others_give_none}
use Rattle.law_streams.proofs.promises.others_give_none.Goals as goal

pub returns : goal.returns
returns c = others_give_none
