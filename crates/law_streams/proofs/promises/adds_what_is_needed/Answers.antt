use Rattle.law_streams.{proofs.Bounded.adds_what_is_needed}
use Rattle.law_streams.proofs.promises.adds_what_is_needed.Goals as goal

pub returns : goal.returns
returns c = adds_what_is_needed
