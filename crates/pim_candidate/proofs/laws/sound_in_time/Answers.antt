use Rattle.pim_candidate.{proofs.Sound.sound_in_time}
use Rattle.pim_candidate.proofs.laws.sound_in_time.Goals as goal

pub returns : goal.returns
returns c = sound_in_time
