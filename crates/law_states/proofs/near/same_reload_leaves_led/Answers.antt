use Rattle.law_states.{proofs.NearStates.same_reload_leaves_led}
use Rattle.law_states.proofs.near.same_reload_leaves_led.Goals as goal

pub returns : goal.returns
returns c = same_reload_leaves_led
