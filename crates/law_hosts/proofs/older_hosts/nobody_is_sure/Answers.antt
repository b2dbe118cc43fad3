use Rattle.law_hosts.{proofs.Sure.nobody_is_sure}
use Rattle.law_hosts.proofs.older_hosts.nobody_is_sure.Goals as goal

pub returns : goal.returns
returns c = nobody_is_sure
