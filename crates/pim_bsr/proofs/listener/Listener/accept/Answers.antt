use Rattle.pim_bsr.proofs.listener.Listener.accept.Goals as goal

pub invariant_of-self : goal.invariant_of-self
invariant_of-self g c = rw (← c.self.view_is) at c.requires.sound
