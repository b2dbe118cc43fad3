use Rattle.pim_ip.{proofs.ViewLemmas.reads_as_itself}
use Rattle.pim_ip.proofs.ipv4.Ipv4View.header.Goals as goal

pub returns-clause-again : goal.returns-clause-again
returns-clause-again c = rw (← c.self.view_is) (reads_as_itself c.self.inside.header.now c.self.inside.payload.now c.self.invariant)
