use Rattle.pim_bsr.{proofs.Ranges.static_alone}
use Rattle.pim_bsr.proofs.laws.static_alone.Goals as goal

pub returns : goal.returns
returns c = static_alone
