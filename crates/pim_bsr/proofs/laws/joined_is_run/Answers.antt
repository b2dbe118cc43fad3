use Rattle.pim_bsr.{proofs.JoinedLaws.joined_is_run}
use Rattle.pim_bsr.proofs.laws.joined_is_run.Goals as goal

pub returns : goal.returns
returns c = joined_is_run
