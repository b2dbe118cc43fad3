use Rattle.pim_candidate.{proofs.Standing.not_standing}
use Rattle.pim_candidate.proofs.laws.not_standing.Goals as goal

pub returns : goal.returns
returns c = not_standing
