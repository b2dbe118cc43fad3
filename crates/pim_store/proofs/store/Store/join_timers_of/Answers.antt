use Rattle.std.{proofs.Common.{ap, ◌∙◌}}
use Rattle.pim_types.{specs.Keys.is_of_group}
use Rattle.pim_store.{specs.Said.timers_in, proofs.Timers.timers_filtered}
use Rattle.pim_store.proofs.store.Store.join_timers_of.Goals as goal

pub returns : goal.returns
returns c = rw (← c.self.view_is)
    (c.among.ensures ∙ ap timers_in c.walk.ensures.entries ∙ timers_filtered (is_of_group c.args.group.bits) _)
