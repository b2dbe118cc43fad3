use Rattle.std.{proofs.Common.{List, ap, ◌∙◌, ℕ}, specs.List.flat_map}
use Rattle.pim_state.{specs.declared.touched.Touched.Touched}
use Rattle.pim_mrib.{specs.Routes.RouteTable}
use Rattle.law_events.{specs.Moved.{keys_by_routes, moved_of_group}}
use Rattle.pim_rerouted.{specs.OtherRoutes.with_routes}
use Rattle.pim_rerouted.proofs.rerouted.touched_by_routes.Goals as goal

pub returns : goal.returns
unfolding keys_by_routes
returns c =
    let s = c.args.world.now in
    ap Touched.Keys (c.in_ok-keys_of_groups.ensures
    ∙ ap (λ (gs : List ℕ). flat_map (moved_of_group s (with_routes s c.of-next.result.table.now.routes)) gs) c.in_ok-groups.ensures)
    ∙ ap (λ (t : RouteTable). Touched.Keys (keys_by_routes s (with_routes s t.routes))) c.of-next.ensures.table
