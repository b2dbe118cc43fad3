use Rattle.law_states.{proofs.DocumentedPlanes.documented_plane_is_sound}
use Rattle.law_states.proofs.reported.documented_plane_is_sound.Goals as goal

-- src/lib.rt:54:1
pub returns : goal.returns
returns c = documented_plane_is_sound
