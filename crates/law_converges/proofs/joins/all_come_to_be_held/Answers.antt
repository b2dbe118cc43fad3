use Rattle.law_converges.{proofs.LinkJoins.all_come_to_be_held}
use Rattle.law_converges.proofs.joins.all_come_to_be_held.Goals as goal

pub returns : goal.returns
returns c = all_come_to_be_held
