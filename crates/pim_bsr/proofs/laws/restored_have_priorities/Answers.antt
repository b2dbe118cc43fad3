use Rattle.pim_bsr.{proofs.Saving.restored_have_priorities}
use Rattle.pim_bsr.proofs.laws.restored_have_priorities.Goals as goal

pub returns : goal.returns
returns c = restored_have_priorities
