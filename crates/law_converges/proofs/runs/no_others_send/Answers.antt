use Rattle.law_converges.{proofs.MemberLinksRun.no_others_send}
use Rattle.law_converges.proofs.runs.no_others_send.Goals as goal

pub returns : goal.returns
returns c = no_others_send
