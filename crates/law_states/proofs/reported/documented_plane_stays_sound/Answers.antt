use Rattle.law_states.{proofs.Anew.documented_plane_stays_sound}
use Rattle.law_states.proofs.reported.documented_plane_stays_sound.Goals as goal

pub returns : goal.returns
returns c = documented_plane_stays_sound
