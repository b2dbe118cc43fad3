use Rattle.pim_store.proofs.index.Index.contains.Goals as goal

pub returns-in-Some-clause-entries : goal.returns-in-Some-clause-entries
returns-in-Some-clause-entries c = rw (← c.self.view_is) c.self.invariant.entries

pub returns-in-None-clause-entries : goal.returns-in-None-clause-entries
returns-in-None-clause-entries c = rw (← c.self.view_is) c.self.invariant.entries
