use Rattle.law_hosts.{proofs.PlanesBehind.telling_again_only_looks}
use Rattle.law_hosts.proofs.behind.telling_again_only_looks.Goals as goal

pub returns : goal.returns
returns c = telling_again_only_looks
