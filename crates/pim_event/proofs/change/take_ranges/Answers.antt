use Rattle.std.proofs.Common.{ap, subst, sym, ◌≡◌, ◌∙◌}
use Rattle.pim_types.{specs.declared.config.RpTable.RpTable}
use Rattle.pim_model.{specs.Step.rps_replaced}
use Rattle.pim_event.{specs.Replacing.RangesReplaced}
use Rattle.pim_rerouted.{proofs.OtherRoutes.same_rps_replaced}
use Rattle.pim_event.proofs.change.take_ranges.Goals as goal

pub returns-then-has_ranges_of-clause-state : goal.returns-then-has_ranges_of-clause-state
returns-then-has_ranges_of-clause-state c =
    let same : c.args.world.now.ranges ≡ c.args.next.ranges =
    c.has_ranges_of.ensures.0 c.if-has_ranges_of.true in
    subst (λ (rs : RpTable). c.args.world.now ≡ rps_replaced c.args.world.now rs) same
    (same_rps_replaced c.args.world.now)

pub returns-then-has_ranges_of-clause-replaced : goal.returns-then-has_ranges_of-clause-replaced
returns-then-has_ranges_of-clause-replaced c =
    let same : c.args.world.now.ranges ≡ c.args.next.ranges =
    c.has_ranges_of.ensures.0 c.if-has_ranges_of.true in
    c.keep_ranges.ensures ∙ ap RangesReplaced (sym same)

pub returns-clause-replaced : goal.returns-clause-replaced
returns-clause-replaced c = c.keep_ranges-2.ensures ∙ ap RangesReplaced c.in_ok-before.ensures.back
