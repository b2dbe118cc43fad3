use Rattle.pim_tables.{proofs.Firsts.next_is_first}
use Rattle.pim_tables.proofs.end_queue.EndQueue.first.Goals as goal

pub returns : goal.returns
returns g c = λ rows rise step.
    next_is_first g.R.Ends.kinds g.R.Ends.ends rows g.met.R.Ends.apart rise c.self.inside.queue _
    (rw (← c.self.view_is) at step) c.first.ensures
