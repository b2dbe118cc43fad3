use Rattle.pim_model.{specs.Step.change}
use Rattle.law_events.{proofs.{Configured.change_configured, Reached.unreached_keeps}}
use Rattle.law_events.proofs.named.unreached_is_same.Goals as goal

pub returns : goal.returns
returns c = λ s w a. unreached_keeps s (change s w a).state (change_configured s w a)
