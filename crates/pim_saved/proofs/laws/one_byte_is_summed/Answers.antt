use Rattle.pim_saved.{proofs.Changed.one_byte_is_summed}
use Rattle.pim_saved.proofs.laws.one_byte_is_summed.Goals as goal

pub returns : goal.returns
returns c = one_byte_is_summed
