use Rattle.std.{proofs.Common.{◌≡◌, drop}, specs.List.list_all}
use Rattle.igmp_older_saved.{specs.Hosts.is_held}
use Rattle.igmp_older_saved.proofs.hosts.are_held.Given as goal

abbrev pub invariant-loop-host : goal.invariant-loop-host
invariant-loop-host g l =
    let test = is_held (g.Q.Querier.group_records l.querier) (g.Q.Querier.present l.querier) in
    list_all test (drop l.host-index l.hosts) ≡ list_all test l.hosts
