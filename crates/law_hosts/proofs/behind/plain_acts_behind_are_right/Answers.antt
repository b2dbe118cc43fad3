use Rattle.law_hosts.{proofs.PlanesBehind.plain_acts_behind_are_right}
use Rattle.law_hosts.proofs.behind.plain_acts_behind_are_right.Goals as goal

pub returns : goal.returns
returns c = plain_acts_behind_are_right
