use Rattle.law_converges.{proofs.SourceMemberRun.sent_comes_once}
use Rattle.law_converges.proofs.runs.sent_comes_once.Goals as goal

pub returns : goal.returns
returns c = sent_comes_once
