use Rattle.law_converges.{proofs.LinkQuerier.exactly_one_querier}
use Rattle.law_converges.proofs.elections.exactly_one_querier.Goals as goal

pub returns : goal.returns
returns c = exactly_one_querier
