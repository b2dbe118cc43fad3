use Rattle.law_converges.{proofs.AskedByMembersRun.plan_comes_to_lead_to_hosts}
use Rattle.law_converges.proofs.runs.plan_comes_to_lead_to_hosts.Goals as goal

pub returns : goal.returns
returns c = plan_comes_to_lead_to_hosts
