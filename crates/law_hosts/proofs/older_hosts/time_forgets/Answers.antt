use Rattle.law_hosts.{proofs.SureSteps.time_forgets}
use Rattle.law_hosts.proofs.older_hosts.time_forgets.Goals as goal

pub returns : goal.returns
returns c = time_forgets
