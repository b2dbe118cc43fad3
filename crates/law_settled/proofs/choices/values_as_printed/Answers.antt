use Rattle.law_settled.{proofs.ChosenRps.values_as_printed}
use Rattle.law_settled.proofs.choices.values_as_printed.Goals as goal

pub returns : goal.returns
returns c = values_as_printed
