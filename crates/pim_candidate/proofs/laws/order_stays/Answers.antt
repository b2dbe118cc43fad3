use Rattle.pim_candidate.{proofs.InOrder.order_stays}
use Rattle.pim_candidate.proofs.laws.order_stays.Goals as goal

pub returns : goal.returns
returns c = order_stays
