use Rattle.law_converges.{proofs.MemberLinks.member_is_wanted}
use Rattle.law_converges.proofs.served.member_is_wanted.Goals as goal

pub returns : goal.returns
returns c = member_is_wanted
