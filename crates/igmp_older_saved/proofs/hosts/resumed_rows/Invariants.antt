use Rattle.std.{proofs.Common.{◌≡◌, ◌++◌, drop, map}}
use Rattle.igmp_older_saved.{specs.Hosts.{entry_resumed, resumed_rows}}
use Rattle.igmp_older_saved.proofs.hosts.resumed_rows.Given as goal

abbrev pub invariant-loop-host : goal.invariant-loop-host
invariant-loop-host l = l.rows.items ++ map entry_resumed (drop l.host-index l.hosts) ≡ resumed_rows l.hosts
