use Rattle.law_converges.{proofs.LinkMembers.member_stays_known}
use Rattle.law_converges.proofs.members.member_stays_known.Goals as goal

pub returns : goal.returns
returns c = member_stays_known
