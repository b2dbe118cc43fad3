use Rattle.law_settled.{proofs.ChosenRps.none_is_chosen}
use Rattle.law_settled.proofs.choices.none_is_chosen.Goals as goal

pub returns : goal.returns
returns c = none_is_chosen
