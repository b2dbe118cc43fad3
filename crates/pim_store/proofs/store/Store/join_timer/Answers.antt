use Rattle.std.{proofs.Common.{ap, ◌∙◌}}
use Rattle.pim_model.{specs.Tables.row_at}
use Rattle.pim_store.{specs.Said.timers_in, proofs.Places.entry_named}
use Rattle.pim_store.proofs.store.Store.join_timer.Goals as goal

pub returns-clause-timer : goal.returns-clause-timer
returns-clause-timer c = rw (← c.self.view_is)
    (c.timer.ensures.timer
    ∙ ap (row_at (timers_in c.self.inside.index))
    (entry_named c.plain_key.result c.args.group c.args.source c.plain_key.ensures))
