use Rattle.law_streams.{proofs.LiesUnder.each_lies_under}
use Rattle.law_streams.proofs.promises.each_lies_under.Goals as goal

pub returns : goal.returns
returns c = each_lies_under
