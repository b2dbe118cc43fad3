use Rattle.pim_model.{specs.Reach.own_firing}
use Rattle.law_events.{proofs.{Configured.firing_configured, Reached.named_is_reached}}
use Rattle.law_events.proofs.named.fired_is_reached.Goals as goal

pub returns : goal.returns
returns c = λ s e. named_is_reached s (own_firing s e) (firing_configured s e)
