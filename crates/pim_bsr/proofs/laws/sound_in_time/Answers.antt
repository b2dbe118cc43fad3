use Rattle.pim_bsr.{proofs.Sounder.sound_in_time}
use Rattle.pim_bsr.proofs.laws.sound_in_time.Goals as goal

pub returns : goal.returns
returns c = sound_in_time
