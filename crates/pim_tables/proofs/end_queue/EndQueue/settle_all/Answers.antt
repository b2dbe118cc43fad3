use Rattle.pim_tables.proofs.end_queue.EndQueue.settle_all.Goals as goal

pub settle_ended-requires-clause-armed : goal.settle_ended-requires-clause-armed
settle_ended-requires-clause-armed g c = rw (← c.self.view_is) at c.requires
