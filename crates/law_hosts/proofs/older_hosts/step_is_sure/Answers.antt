use Rattle.law_hosts.{proofs.SureSteps.step_is_sure}
use Rattle.law_hosts.proofs.older_hosts.step_is_sure.Goals as goal

pub returns : goal.returns
returns c = step_is_sure
