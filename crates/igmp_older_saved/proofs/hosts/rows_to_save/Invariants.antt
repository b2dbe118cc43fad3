use Rattle.std.{proofs.Common.{◌≡◌, ◌++◌, filter, map}}
use Rattle.igmp_older_saved.{specs.Hosts.{entry_told, is_held, saved_hosts}}
use Rattle.igmp_older_saved.proofs.hosts.rows_to_save.Given as goal

abbrev pub invariant-loop-key : goal.invariant-loop-key
invariant-loop-key g l =
    let groups = g.Q.Querier.group_records l.querier in
    l.hosts.items ++ filter (is_held groups l.moment) (map (entry_told l.moment) l.key-iterator)
    ≡ saved_hosts groups l.moment l.fn.rows
