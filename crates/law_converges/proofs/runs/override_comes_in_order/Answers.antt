use Rattle.law_converges.{proofs.CarriedNetworkRun.override_comes_in_order}
use Rattle.law_converges.proofs.runs.override_comes_in_order.Goals as goal

pub returns : goal.returns
returns c = override_comes_in_order
