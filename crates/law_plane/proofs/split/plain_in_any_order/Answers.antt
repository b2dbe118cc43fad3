use Rattle.law_plane.{proofs.Orders.plain_in_any_order}
use Rattle.law_plane.proofs.split.plain_in_any_order.Goals as goal

pub returns : goal.returns
returns c = plain_in_any_order
