use Rattle.pim_candidate.{proofs.Sound.sound_stays}
use Rattle.pim_candidate.proofs.laws.sound_stays.Goals as goal

pub returns : goal.returns
returns c = sound_stays
