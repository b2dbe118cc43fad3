use Rattle.law_streams.{proofs.Follows.one_source_follows}
use Rattle.law_streams.proofs.promises.one_source_follows.Goals as goal

pub returns : goal.returns
returns c = one_source_follows
