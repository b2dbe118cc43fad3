use Rattle.law_streams.{proofs.Bounded.nothing_new_adds_none}
use Rattle.law_streams.proofs.promises.nothing_new_adds_none.Goals as goal

pub returns : goal.returns
returns c = nothing_new_adds_none
