use Rattle.igmp_older_saved.{proofs.Resumed.hosts_are_resumed}
use Rattle.igmp_older_saved.proofs.laws.hosts_are_resumed.Goals as goal

pub returns : goal.returns
returns c = hosts_are_resumed
