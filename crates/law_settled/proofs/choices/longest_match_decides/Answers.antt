use Rattle.law_settled.{proofs.ChosenRps.longest_match_decides}
use Rattle.law_settled.proofs.choices.longest_match_decides.Goals as goal

pub returns : goal.returns
returns c = longest_match_decides
