use Rattle.pim_bootstrap.{proofs.Packed.fragments_fit}
use Rattle.pim_bootstrap.proofs.laws.fragments_fit.Goals as goal

pub returns : goal.returns
returns c = fragments_fit
