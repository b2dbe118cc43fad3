use Rattle.pim_bsr.{proofs.Accepted.accepted_by}
use Rattle.pim_bsr.proofs.listener.Listener.given.Goals as goal

pub returns-clause-accepted : goal.returns-clause-accepted
returns-clause-accepted c =
    rw (← c.self.view_is) (accepted_by c.self.inside.choice c.self.inside.configured.items c.self.inside.limit c.self.inside.table c.self.invariant)
