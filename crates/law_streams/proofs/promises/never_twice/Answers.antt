use Rattle.law_streams.{proofs.Copies.never_twice}
use Rattle.law_streams.proofs.promises.never_twice.Goals as goal

pub returns : goal.returns
returns c = never_twice
