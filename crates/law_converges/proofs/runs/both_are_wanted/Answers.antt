use Rattle.law_converges.{proofs.MemberLinksRun.both_are_wanted}
use Rattle.law_converges.proofs.runs.both_are_wanted.Goals as goal

pub returns : goal.returns
returns c = both_are_wanted
