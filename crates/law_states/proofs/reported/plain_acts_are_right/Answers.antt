use Rattle.law_states.{proofs.DocumentedPlanes.plain_acts_are_right}
use Rattle.law_states.proofs.reported.plain_acts_are_right.Goals as goal

-- src/lib.rt:60:1
pub returns : goal.returns
returns c = plain_acts_are_right
