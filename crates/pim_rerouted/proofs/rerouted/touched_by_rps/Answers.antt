use Rattle.std.{proofs.Common.{List, ap, filter, map, ◌∙◌, ℕ}}
use Rattle.pim_types.{specs.Keys.star_key}
use Rattle.pim_state.{specs.declared.touched.Touched.Touched}
use Rattle.pim_model.{specs.Step.rps_replaced}
use Rattle.law_events.{specs.Moved.keys_by_rps}
use Rattle.pim_rerouted.{specs.OtherRoutes.group_has_other_rp}
use Rattle.pim_rerouted.proofs.rerouted.touched_by_rps.Goals as goal

pub returns : goal.returns
unfolding keys_by_rps
returns c =
    let s = c.args.world.now in
    ap Touched.Keys (c.in_ok-keys_with_other_rp.ensures
    ∙ ap (λ (gs : List ℕ). map (star_key 0) (filter (group_has_other_rp s (rps_replaced s c.args.next.now.ranges)) gs))
    c.in_ok-groups.ensures)
