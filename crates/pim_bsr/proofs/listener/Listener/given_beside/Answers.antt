use Rattle.pim_bsr.{specs.Table.configured, proofs.Accepted.accepted_beside}
use Rattle.pim_bsr.proofs.listener.Listener.given_beside.Goals as goal

pub returns-clause-accepted : goal.returns-clause-accepted
unfolding configured
returns-clause-accepted c =
    rw (← c.self.view_is)
    (accepted_beside c.self.inside.choice c.self.inside.configured.items c.args.ranges.now c.self.inside.limit c.args.limit c.self.inside.table c.self.invariant)
