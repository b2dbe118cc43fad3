use Rattle.law_converges.{proofs.NothingElse.nothing_else_comes}
use Rattle.law_converges.proofs.ways.nothing_else_comes.Goals as goal

pub returns : goal.returns
returns c = nothing_else_comes
