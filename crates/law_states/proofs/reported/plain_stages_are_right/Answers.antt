use Rattle.law_states.{proofs.Anew.plain_stages_are_right}
use Rattle.law_states.proofs.reported.plain_stages_are_right.Goals as goal

pub returns : goal.returns
returns c = plain_stages_are_right
