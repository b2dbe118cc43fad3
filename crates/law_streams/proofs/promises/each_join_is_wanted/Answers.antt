use Rattle.law_streams.{proofs.FewJoins.each_join_is_wanted}
use Rattle.law_streams.proofs.promises.each_join_is_wanted.Goals as goal

pub returns : goal.returns
returns c = each_join_is_wanted
