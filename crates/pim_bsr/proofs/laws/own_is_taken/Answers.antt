use Rattle.pim_bsr.{proofs.Own.own_is_taken}
use Rattle.pim_bsr.proofs.laws.own_is_taken.Goals as goal

pub returns : goal.returns
returns c = own_is_taken
