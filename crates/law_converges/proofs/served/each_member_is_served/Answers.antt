use Rattle.law_converges.{proofs.EachMember.each_member_is_served}
use Rattle.law_converges.proofs.served.each_member_is_served.Goals as goal

pub returns : goal.returns
returns c = each_member_is_served
