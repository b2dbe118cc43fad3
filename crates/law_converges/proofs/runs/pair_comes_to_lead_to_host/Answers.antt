use Rattle.law_converges.{proofs.AskedByMembersRun.pair_comes_to_lead_to_host}
use Rattle.law_converges.proofs.runs.pair_comes_to_lead_to_host.Goals as goal

pub returns : goal.returns
returns c = pair_comes_to_lead_to_host
