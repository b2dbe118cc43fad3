use Rattle.pim_candidate.{proofs.Sound.all_learn_the_set}
use Rattle.pim_candidate.proofs.laws.all_learn_the_set.Goals as goal

pub returns : goal.returns
returns c = all_learn_the_set
