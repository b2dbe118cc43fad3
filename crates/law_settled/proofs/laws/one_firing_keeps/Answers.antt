use Rattle.law_settled.{proofs.FiringLaws.one_firing_keeps}
use Rattle.law_settled.proofs.laws.one_firing_keeps.Goals as goal

pub returns : goal.returns
returns c = one_firing_keeps
