use Rattle.law_states.{proofs.Ups.placed_are_configured}
use Rattle.law_states.proofs.placed.placed_are_configured.Goals as goal

pub returns : goal.returns
returns c = placed_are_configured
