use Rattle.law_converges.{proofs.RoutesToRpRun.routes_lead_on_plan}
use Rattle.law_converges.proofs.runs.routes_lead_on_plan.Goals as goal

pub returns : goal.returns
returns c = routes_lead_on_plan
