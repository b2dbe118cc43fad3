use Rattle.std.{proofs.Common.{◌≡◌, ◌++◌, filter, map}}
use Rattle.pim_types.{specs.Keys.star_key}
use Rattle.pim_model.{specs.Step.rps_replaced}
use Rattle.pim_state.{specs.Groups.numbers_of}
use Rattle.pim_rerouted.{specs.OtherRoutes.group_has_other_rp}
use Rattle.pim_rerouted.proofs.rerouted.keys_with_other_rp.Given as goal

abbrev pub invariant-loop-group : goal.invariant-loop-group
invariant-loop-group l =
    l.keys.items ++ map (star_key 0)
    (filter (group_has_other_rp l.world (rps_replaced l.world l.next.ranges)) (numbers_of l.group-iterator))
    ≡ map (star_key 0)
    (filter (group_has_other_rp l.world (rps_replaced l.world l.next.ranges)) (numbers_of l.fn.groups.entries))
