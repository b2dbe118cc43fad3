use Rattle.law_streams.{proofs.Follows.seen_is_silent}
use Rattle.law_streams.proofs.promises.seen_is_silent.Goals as goal

pub returns : goal.returns
returns c = seen_is_silent
