use Rattle.pim_shown.{proofs.Causes.{of_source, of_star}}
use Rattle.pim_shown.proofs.laws.there_is_a_neighbour_as_told.Goals as goal

pub returns-clause-star : goal.returns-clause-star
returns-clause-star c s g = of_star s g

pub returns-clause-source : goal.returns-clause-source
returns-clause-source c s g src = of_source s g src
