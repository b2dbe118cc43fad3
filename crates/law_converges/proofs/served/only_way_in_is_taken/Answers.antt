use Rattle.law_converges.{proofs.SilentRouters.only_way_in_is_taken}
use Rattle.law_converges.proofs.served.only_way_in_is_taken.Goals as goal

pub returns : goal.returns
returns c = only_way_in_is_taken
