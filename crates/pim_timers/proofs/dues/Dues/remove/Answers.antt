use Rattle.pim_timers.{proofs.Members.removed}
use Rattle.pim_timers.proofs.dues.Dues.remove.Goals as goal

pub returns : goal.returns
returns c = rw (← c.self.view_is) (removed c.self.inside.set.keys c.remove.new.self.keys c.args.due
    (λ d. c.remove.ensures.updates.0 d))
