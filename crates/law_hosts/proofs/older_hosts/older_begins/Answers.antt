use Rattle.law_hosts.{proofs.Begins.older_begins}
use Rattle.law_hosts.proofs.older_hosts.older_begins.Goals as goal

pub returns : goal.returns
returns c = older_begins
