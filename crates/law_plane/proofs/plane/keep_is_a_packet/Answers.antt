use Rattle.law_plane.{proofs.Keeps.keep_is_a_packet}
use Rattle.law_plane.proofs.plane.keep_is_a_packet.Goals as goal

pub returns : goal.returns
returns c = keep_is_a_packet
