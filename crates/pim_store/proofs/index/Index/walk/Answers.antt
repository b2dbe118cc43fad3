use Rattle.pim_store.proofs.index.Index.walk.Goals as goal

pub returns-clause-all : goal.returns-clause-all
returns-clause-all c = rw (← c.self.view_is) c.self.invariant.entries
