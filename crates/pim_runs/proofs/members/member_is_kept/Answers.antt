use Rattle.pim_runs.{proofs.Answering.member_is_kept}
use Rattle.pim_runs.proofs.members.member_is_kept.Goals as goal

pub returns : goal.returns
returns c = member_is_kept
