use Rattle.law_converges.{proofs.SilentRouters.unasked_sends_none}
use Rattle.law_converges.proofs.served.unasked_sends_none.Goals as goal

pub returns : goal.returns
returns c = unasked_sends_none
