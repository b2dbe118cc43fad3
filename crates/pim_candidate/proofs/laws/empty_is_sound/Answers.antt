use Rattle.pim_candidate.{proofs.Sound.empty_is_sound}
use Rattle.pim_candidate.proofs.laws.empty_is_sound.Goals as goal

pub returns : goal.returns
returns c = empty_is_sound
