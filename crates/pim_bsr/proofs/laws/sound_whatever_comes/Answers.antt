use Rattle.pim_bsr.{proofs.Sounder.sound_whatever_comes}
use Rattle.pim_bsr.proofs.laws.sound_whatever_comes.Goals as goal

pub returns : goal.returns
returns c = sound_whatever_comes
