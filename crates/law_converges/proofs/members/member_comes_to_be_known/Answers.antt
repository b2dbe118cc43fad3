use Rattle.law_converges.{proofs.LinkMembers.member_comes_to_be_known}
use Rattle.law_converges.proofs.members.member_comes_to_be_known.Goals as goal

pub returns : goal.returns
returns c = member_comes_to_be_known
