use Rattle.law_converges.{proofs.LeftLinks.only_wanted_is_brought}
use Rattle.law_converges.proofs.served.only_wanted_is_brought.Goals as goal

pub returns : goal.returns
returns c = only_wanted_is_brought
