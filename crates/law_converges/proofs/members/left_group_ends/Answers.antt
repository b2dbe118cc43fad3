use Rattle.law_converges.{proofs.LeftGroups.left_group_ends}
use Rattle.law_converges.proofs.members.left_group_ends.Goals as goal

pub returns : goal.returns
returns c = left_group_ends
