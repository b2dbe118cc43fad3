use Rattle.law_converges.{proofs.AskedByMembers.links_come_to_lead_to_hosts}
use Rattle.law_converges.proofs.served.links_come_to_lead_to_hosts.Goals as goal

pub returns : goal.returns
returns c = links_come_to_lead_to_hosts
