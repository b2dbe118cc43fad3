use Rattle.pim_model.{specs.Step.change}
use Rattle.law_events.{proofs.{Configured.change_configured, Reached.named_is_reached}}
use Rattle.law_events.proofs.named.named_is_reached.Goals as goal

pub returns : goal.returns
returns c = λ s w a. named_is_reached s (change s w a).state (change_configured s w a)
