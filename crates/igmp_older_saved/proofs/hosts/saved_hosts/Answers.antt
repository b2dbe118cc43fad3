use Rattle.igmp_older_saved.{proofs.Resumed.rise_if}
use Rattle.igmp_older_saved.proofs.hosts.saved_hosts.Goals as goal

pub returns-clause-rise : goal.returns-clause-rise
returns-clause-rise g c =
    rise_if c.rows_to_save.result (λ v. v.items) (g.Q.Querier.group_records c.args.querier.now) (g.Q.Querier.present c.args.querier.now)
    c.args.presence.now.rows c.rows-rows.ensures.rising (rw c.rows-rows.ensures.rows at c.rows_to_save.ensures)
