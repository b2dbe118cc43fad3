use Rattle.pim_bsr.{proofs.Sounder.sound_configured}
use Rattle.pim_bsr.proofs.laws.sound_configured.Goals as goal

pub returns : goal.returns
returns c = sound_configured
