use Rattle.law_settled.{proofs.FiringLaws.opening_is_ahead}
use Rattle.law_settled.proofs.laws.opening_is_ahead.Goals as goal

pub returns : goal.returns
returns c = opening_is_ahead
