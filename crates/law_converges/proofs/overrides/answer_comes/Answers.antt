use Rattle.law_converges.{proofs.LinkRptLower.answer_comes}
use Rattle.law_converges.proofs.overrides.answer_comes.Goals as goal

pub returns : goal.returns
returns c = answer_comes
