use Rattle.law_plane.{proofs.Routed.event_keeps_routes}
use Rattle.law_plane.proofs.stays.event_keeps_routes.Goals as goal

pub returns : goal.returns
returns c = event_keeps_routes
