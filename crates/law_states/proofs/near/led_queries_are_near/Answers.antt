use Rattle.law_states.{proofs.NearStates.led_queries_are_near}
use Rattle.law_states.proofs.near.led_queries_are_near.Goals as goal

pub returns : goal.returns
returns c = led_queries_are_near
