use Rattle.law_converges.{proofs.SourceWays.each_source_member_is_served}
use Rattle.law_converges.proofs.served.each_source_member_is_served.Goals as goal

pub returns : goal.returns
returns c = each_source_member_is_served
