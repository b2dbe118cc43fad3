use Rattle.pim_anycast.{proofs.MembersLaws.members_know}
use Rattle.pim_anycast.proofs.members.members_know.Goals as goal

pub returns : goal.returns
returns c = members_know
