use Rattle.law_hosts.{proofs.PlanesBehind.plane_behind_front_is_sound}
use Rattle.law_hosts.proofs.behind.plane_behind_front_is_sound.Goals as goal

pub returns : goal.returns
returns c = plane_behind_front_is_sound
