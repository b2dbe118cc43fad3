use Rattle.law_streams.{proofs.Copies.never_back}
use Rattle.law_streams.proofs.promises.never_back.Goals as goal

pub returns : goal.returns
returns c = never_back
