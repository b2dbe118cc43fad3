use Rattle.std.{proofs.Common.◌∙◌}
use Rattle.pim_tables.{proofs.Rows.changed_by}
use Rattle.pim_tables.proofs.timed.Timed.change.Goals as goal

pub returns-clause-by : goal.returns-clause-by
returns-clause-by g c = λ change is. rw (← c.self.view_is)
    (c.in_ok-update_in_step.ensures.ok
    ∙ changed_by c.args.key change c.args.row (g.K.ReadRows.table c.self.inside.rows) c.proof_rise.ensures (rw (← c.self.view_is) at is))
