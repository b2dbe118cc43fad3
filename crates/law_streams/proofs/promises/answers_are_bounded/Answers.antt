use Rattle.law_streams.{proofs.Follows.answers_are_bounded}
use Rattle.law_streams.proofs.promises.answers_are_bounded.Goals as goal

pub returns : goal.returns
returns c = answers_are_bounded
