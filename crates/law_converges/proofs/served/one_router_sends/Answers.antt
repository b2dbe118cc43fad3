use Rattle.law_converges.{proofs.AloneOnLink.one_router_sends}
use Rattle.law_converges.proofs.served.one_router_sends.Goals as goal

pub returns : goal.returns
returns c = one_router_sends
