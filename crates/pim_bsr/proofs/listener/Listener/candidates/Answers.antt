use Rattle.pim_bsr.{proofs.Offered.accepted_if}
use Rattle.pim_bsr.proofs.listener.Listener.candidates.Goals as goal

pub returns-clause-accepted : goal.returns-clause-accepted
returns-clause-accepted c =
    rw (← c.self.view_is)
    (accepted_if (λ v. v.items) c.self.inside.choice c.self.inside.configured.items c.self.inside.limit c.self.inside.table
    c.self.invariant c.candidates_by.result (rw c.rps.ensures at c.candidates_by.ensures.given) c.candidates_by.ensures.priorities)
