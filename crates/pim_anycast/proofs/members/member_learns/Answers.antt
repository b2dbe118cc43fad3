use Rattle.pim_anycast.{proofs.Learning.member_learns}
use Rattle.pim_anycast.proofs.members.member_learns.Goals as goal

pub returns : goal.returns
returns c = member_learns
