use Rattle.law_hosts.{proofs.SureSteps.run_is_sure}
use Rattle.law_hosts.proofs.older_hosts.run_is_sure.Goals as goal

pub returns : goal.returns
returns c = run_is_sure
