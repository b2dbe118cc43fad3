use Rattle.igmp_older_saved.{proofs.Resumed.saved_hosts_are_held}
use Rattle.igmp_older_saved.proofs.laws.saved_hosts_are_held.Goals as goal

pub returns : goal.returns
returns c = saved_hosts_are_held
