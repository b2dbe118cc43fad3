use Rattle.std.{proofs.Common.◌∙◌}
use Rattle.pim_store.{proofs.Walked.source_marked}
use Rattle.pim_store.proofs.store.Store.has_facts.Goals as goal

pub returns-clause-has : goal.returns-clause-has
returns-clause-has c = rw (← c.self.view_is)
    (c.contains.ensures.found ∙ source_marked _ _ c.contains.ensures.entries c.self.invariant c.args.name.group c.args.name.source)
