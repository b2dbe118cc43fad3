use Rattle.law_states.{proofs.Anew.sound_plane_stays_sound}
use Rattle.law_states.proofs.reported.sound_plane_stays_sound.Goals as goal

pub returns : goal.returns
returns c = sound_plane_stays_sound
