use Rattle.pim_saved.{proofs.Told.one_byte_is_told}
use Rattle.pim_saved.proofs.laws.one_byte_is_told.Goals as goal

pub returns : goal.returns
returns c = one_byte_is_told
