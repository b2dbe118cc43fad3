use Rattle.pim_model.{specs.Reach.own_firing}
use Rattle.law_events.{proofs.{Configured.firing_configured, Reached.named_within}}
use Rattle.law_events.proofs.named.fired_are_few.Goals as goal

pub returns : goal.returns
returns c = λ s e. named_within s (own_firing s e) (firing_configured s e)
