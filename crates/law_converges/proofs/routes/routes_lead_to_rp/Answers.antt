use Rattle.law_converges.{proofs.RoutesToRp.routes_lead_to_rp}
use Rattle.law_converges.proofs.routes.routes_lead_to_rp.Goals as goal

pub returns : goal.returns
returns c = routes_lead_to_rp
