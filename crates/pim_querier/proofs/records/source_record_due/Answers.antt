use Rattle.std.{proofs.Common.◌∙◌}
use Rattle.pim_querier.{proofs.Starting.then_ok}
use Rattle.pim_querier.proofs.records.source_record_due.Goals as goal

pub returns : goal.returns
returns c = then_ok c.drop_repeats.result (λ e. e ∙ c.in_ok-end_source.ensures) c.drop_repeats.ensures
