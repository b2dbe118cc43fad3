use Rattle.law_streams.{proofs.ServedRegistered.register_is_brought}
use Rattle.law_streams.proofs.served.register_is_brought.Goals as goal

pub returns : goal.returns
returns c = register_is_brought
