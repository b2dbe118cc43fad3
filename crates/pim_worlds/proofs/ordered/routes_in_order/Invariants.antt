use Rattle.std.{proofs.Common.{◌≡◌, map, take}}
use Rattle.law_states.{specs.Placing.route_in_order}
use Rattle.pim_worlds.proofs.ordered.routes_in_order.Given as goal

abbrev pub invariant-loop-route : goal.invariant-loop-route
invariant-loop-route l = l.made.items ≡ map (route_in_order l.order) (take l.route-index l.routes)
