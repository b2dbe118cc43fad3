use Rattle.law_converges.{proofs.EachMemberRun.nothing_else_comes_to_both}
use Rattle.law_converges.proofs.runs.nothing_else_comes_to_both.Goals as goal

pub returns : goal.returns
returns c = nothing_else_comes_to_both
