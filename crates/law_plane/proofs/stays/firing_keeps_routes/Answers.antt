use Rattle.law_plane.{proofs.Routed.firing_keeps_routes}
use Rattle.law_plane.proofs.stays.firing_keeps_routes.Goals as goal

pub returns : goal.returns
returns c = firing_keeps_routes
