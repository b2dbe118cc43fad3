use Rattle.law_settled.{proofs.ChosenRps.first_is_chosen}
use Rattle.law_settled.proofs.choices.first_is_chosen.Goals as goal

pub returns : goal.returns
returns c = first_is_chosen
