use Rattle.law_plane.{proofs.Orders.plain_once_is_enough}
use Rattle.law_plane.proofs.split.plain_once_is_enough.Goals as goal

pub returns : goal.returns
returns c = plain_once_is_enough
