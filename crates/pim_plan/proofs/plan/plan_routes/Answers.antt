use Rattle.std.{proofs.Common.{List, ap, subst, sym, ◌≡◌, ◌∙◌}}
use Rattle.pim_types.{specs.declared.config.Route.Route}
use Rattle.pim_state.{specs.declared.touched.Touched.Touched}
use Rattle.pim_model.{specs.declared.accepted.Accepted.Accepted}
use Rattle.pim_mrib.{specs.Routes.RouteTable}
use Rattle.law_events.{specs.Moved.keys_by_routes}
use Rattle.pim_rerouted.{specs.OtherRoutes.with_routes, proofs.OtherRoutes.none_by_same_routes}
use Rattle.pim_plan.{specs.{Planning.IsPlanned, declared.plan.Planning.Planning}, proofs.Plans.routes_fit}
use Rattle.pim_plan.proofs.plan.plan_routes.Goals as goal

pub returns-then-has_routes-clause-plan : goal.returns-then-has_routes-clause-plan
returns-then-has_routes-clause-plan c =
    let s = c.args.world.now in
    let routes = c.args.routes.now in
    let same : s.routes ≡ routes = c.has_routes.ensures.0 c.if-has_routes.true in
    subst (λ (p : Planning). IsPlanned s (Accepted.Routes routes) p) (sym c.of_nothing.ensures)
    (routes_fit s routes _ c.args.table (ap Touched.Keys (none_by_same_routes s routes same))
    c.requires)

pub returns-clause-plan : goal.returns-clause-plan
returns-clause-plan c =
    let s = c.args.world.now in
    routes_fit s c.args.routes.now c.in_ok-touched.touched c.args.table
    (c.in_ok-touched.ensures
    ∙ ap (λ (t : RouteTable). Touched.Keys (keys_by_routes s (with_routes s t.routes))) c.deref.ensures
    ∙ ap (λ (rs : List Route). Touched.Keys (keys_by_routes s (with_routes s rs))) c.requires)
    c.requires
