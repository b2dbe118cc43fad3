use Rattle.law_converges.{proofs.AskedByMembers.each_way_is_short}
use Rattle.law_converges.proofs.served.each_way_is_short.Goals as goal

pub returns : goal.returns
returns c = each_way_is_short
