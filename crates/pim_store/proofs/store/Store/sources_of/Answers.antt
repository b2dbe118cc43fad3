use Rattle.std.{proofs.Common.◌∙◌}
use Rattle.pim_store.{proofs.Walked.same_sources}
use Rattle.pim_store.proofs.store.Store.sources_of.Goals as goal

pub returns : goal.returns
returns c = rw (← c.self.view_is)
    (c.among.ensures
    ∙ same_sources c.args.group.bits _ _ c.walk.ensures.all c.self.invariant c.walk.ensures.ascending _
    c.walk.ensures.entries)
