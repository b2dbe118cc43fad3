use Rattle.pim_bsr.{proofs.Sounder.sound_stays}
use Rattle.pim_bsr.proofs.laws.sound_stays.Goals as goal

pub returns : goal.returns
returns c = sound_stays
