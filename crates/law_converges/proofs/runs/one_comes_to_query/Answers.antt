use Rattle.law_converges.{proofs.LinkQuerierRun.one_comes_to_query}
use Rattle.law_converges.proofs.runs.one_comes_to_query.Goals as goal

pub returns : goal.returns
returns c = one_comes_to_query
