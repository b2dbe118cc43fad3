use Rattle.std.{proofs.Common.{◌≡◌, drop}, specs.List.list_all}
use Rattle.pim_model.{specs.Limits.is_route}
use Rattle.pim_mrib.proofs.limits.each_is_route.Given as goal

abbrev pub invariant-loop-route : goal.invariant-loop-route
invariant-loop-route l =
    list_all (is_route l.interfaces.configured) (drop l.route-index l.routes)
    ≡ list_all (is_route l.interfaces.configured) l.routes
