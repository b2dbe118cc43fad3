use Rattle.law_streams.{proofs.Shorter.each_is_shorter}
use Rattle.law_streams.proofs.promises.each_is_shorter.Goals as goal

pub returns : goal.returns
returns c = each_is_shorter
