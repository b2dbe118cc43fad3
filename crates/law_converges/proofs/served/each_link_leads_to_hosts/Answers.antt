use Rattle.law_converges.{proofs.AskedByMembers.each_link_leads_to_hosts}
use Rattle.law_converges.proofs.served.each_link_leads_to_hosts.Goals as goal

pub returns : goal.returns
returns c = each_link_leads_to_hosts
