use Rattle.std.{proofs.Common.◌∙◌}
use Rattle.pim_store.{proofs.Walked.same_groups}
use Rattle.pim_store.proofs.store.Store.groups.Goals as goal

pub returns : goal.returns
returns c = rw (← c.self.view_is)
    (c.groups.ensures.groups ∙ same_groups _ _ c.groups.ensures.entries c.self.invariant)
