use Rattle.law_streams.{proofs.StreamRoots.each_register_is_brought}
use Rattle.law_streams.proofs.stream.each_register_is_brought.Goals as goal

pub returns : goal.returns
returns c = each_register_is_brought
