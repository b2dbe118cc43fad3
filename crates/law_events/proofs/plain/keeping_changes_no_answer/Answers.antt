use Rattle.law_events.{proofs.KeptAlive.no_answer_changed}
use Rattle.law_events.proofs.plain.keeping_changes_no_answer.Goals as goal

pub returns : goal.returns
returns c = λ s g src rests there. no_answer_changed g src s rests there
