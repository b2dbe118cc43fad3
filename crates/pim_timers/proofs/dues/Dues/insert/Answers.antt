use Rattle.pim_timers.{proofs.Members.inserted}
use Rattle.pim_timers.proofs.dues.Dues.insert.Goals as goal

pub returns-clause-ok : goal.returns-clause-ok
returns-clause-ok c = rw (← c.self.view_is)
    (inserted c.self.inside.set.keys c.insert.new.self.keys c.args.due (λ d. c.in_ok-insert.ensures.updates.0 d))
