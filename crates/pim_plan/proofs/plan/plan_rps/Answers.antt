use Rattle.std.proofs.Common.{ap, subst, sym, ◌≡◌, ◌∙◌}
use Rattle.pim_types.{specs.declared.config.RpTable.RpTable}
use Rattle.pim_state.{specs.declared.touched.Touched.Touched}
use Rattle.pim_model.{specs.{declared.accepted.Accepted.Accepted, Step.rps_replaced}}
use Rattle.pim_mrib.{specs.Routes.RouteTable}
use Rattle.law_events.{specs.Moved.keys_by_rps}
use Rattle.pim_rerouted.{proofs.OtherRoutes.none_by_same_rps}
use Rattle.pim_plan.{specs.{Planning.IsPlanned, declared.plan.Planning.Planning}, proofs.Plans.rps_fit}
use Rattle.pim_plan.proofs.plan.plan_rps.Goals as goal

pub returns-then-has_ranges-clause-plan : goal.returns-then-has_ranges-clause-plan
returns-then-has_ranges-clause-plan c =
    let s = c.args.world.now in
    let ranges = c.args.ranges.now in
    let same : s.ranges ≡ ranges = c.has_ranges.ensures.0 c.if-has_ranges.true in
    subst (λ (p : Planning). IsPlanned s (Accepted.Rps ranges) p) (sym c.of_nothing.ensures)
    (rps_fit s ranges _ c.args.table (ap Touched.Keys (none_by_same_rps s ranges same))
    c.requires)

pub returns-clause-plan : goal.returns-clause-plan
returns-clause-plan c =
    let s = c.args.world.now in
    rps_fit s c.args.ranges.now c.in_ok-touched.touched c.args.table
    (c.in_ok-touched.ensures
    ∙ ap (λ (t : RouteTable). Touched.Keys (keys_by_rps s (rps_replaced s t.ranges))) c.deref.ensures
    ∙ ap (λ (rs : RpTable). Touched.Keys (keys_by_rps s (rps_replaced s rs))) c.requires)
    c.requires
