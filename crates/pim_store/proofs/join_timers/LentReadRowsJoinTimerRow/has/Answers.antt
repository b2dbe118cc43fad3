use Rattle.std.{proofs.Common.{ap, is_some, ◌∙◌}}
use Rattle.pim_model.{specs.Tables.has_row}
use Rattle.pim_store.proofs.join_timers.LentReadRowsJoinTimerRow.has.Goals as goal

pub returns : goal.returns
unfolding has_row
returns c = c.is_some.ensures ∙ ap (λ o. is_some o) c.get.ensures
