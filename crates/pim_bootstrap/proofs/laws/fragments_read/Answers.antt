use Rattle.pim_bootstrap.{proofs.Packed.fragments_read}
use Rattle.pim_bootstrap.proofs.laws.fragments_read.Goals as goal

pub returns : goal.returns
returns c = fragments_read
