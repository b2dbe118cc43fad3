use Rattle.law_converges.{proofs.JoinsAsked.each_join_is_asked}
use Rattle.law_converges.proofs.joins.each_join_is_asked.Goals as goal

pub returns : goal.returns
returns c = each_join_is_asked
