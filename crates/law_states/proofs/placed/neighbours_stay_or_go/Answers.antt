use Rattle.law_states.{proofs.Moved.neighbours_stay_or_go}
use Rattle.law_states.proofs.placed.neighbours_stay_or_go.Goals as goal

pub returns : goal.returns
returns c = neighbours_stay_or_go
