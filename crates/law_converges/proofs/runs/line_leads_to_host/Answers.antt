use Rattle.law_converges.{proofs.AskedByMembersRun.line_leads_to_host}
use Rattle.law_converges.proofs.runs.line_leads_to_host.Goals as goal

pub returns : goal.returns
returns c = line_leads_to_host
