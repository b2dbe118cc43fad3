use Rattle.law_settled.{proofs.FiringLaws.advanced_is_ahead}
use Rattle.law_settled.proofs.laws.advanced_is_ahead.Goals as goal

pub returns : goal.returns
returns c = advanced_is_ahead
