use Rattle.law_plane.{proofs.Planes.spent_packet_tells}
use Rattle.law_plane.proofs.offload.spent_packet_tells.Goals as goal

pub returns : goal.returns
returns c = spent_packet_tells
