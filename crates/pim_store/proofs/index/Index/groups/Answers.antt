use Rattle.pim_store.proofs.index.Index.groups.Goals as goal

pub returns-clause-entries : goal.returns-clause-entries
returns-clause-entries c = rw (← c.self.view_is) c.self.invariant.entries
