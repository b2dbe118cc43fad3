-- No event but new routes and new RP ranges changes either, and no timer's end does.
use Rattle.std.{proofs.Common.{◌≡◌, arith}}
use Rattle.pim_model.{specs.{Reach.own_firing, State.State}}
use Rattle.law_events.{proofs.Configured.{change_ground, firing_ground, ground}}
use Rattle.law_plane.{specs.Staying.{EventKeepsRoutes, FiringKeepsRoutes, KeepsRoutes}}

routed : (s t : State) → ground t ≡ ground s → KeepsRoutes s t
routed s t e = grind arith

pub event_keeps_routes : EventKeepsRoutes
event_keeps_routes s w a e = grind (arith, routed, change_ground)

pub firing_keeps_routes : FiringKeepsRoutes
firing_keeps_routes s e = routed s (own_firing s e) (firing_ground s e)
