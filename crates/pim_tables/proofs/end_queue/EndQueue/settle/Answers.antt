use Rattle.pim_types.{specs.Keys.same_key}
use Rattle.pim_timers.{specs.Armed.holds, proofs.Armed.right_unless}
use Rattle.pim_tables.{specs.Ends.ends_in}
use Rattle.pim_tables.proofs.end_queue.EndQueue.settle.Goals as goal

pub settle_ended-requires-clause-right : goal.settle_ended-requires-clause-right
settle_ended-requires-clause-right g c = λ right.
    right_unless (ends_in g.R.Ends.kinds g.R.Ends.ends (g.K.ReadRows.table c.args.rows.now)) (holds c.self.inside.queue)
    (λ t. same_key t.key c.args.key) c.first.result c.is_of-is_own.result c.first.ensures c.is_of-is_own.ensures right
    (rw (← c.self.view_is) at c.requires.others)

pub settle_ended-requires-clause-armed : goal.settle_ended-requires-clause-armed
settle_ended-requires-clause-armed g c = rw (← c.self.view_is) at c.requires.armed
