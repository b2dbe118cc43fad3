use Rattle.std.{proofs.Common.{◌≡◌, ◌++◌}, specs.List.flat_map}
use Rattle.law_events.{specs.Moved.moved_of_group}
use Rattle.pim_state.{specs.Groups.numbers_of}
use Rattle.pim_rerouted.{specs.OtherRoutes.with_routes}
use Rattle.pim_rerouted.proofs.rerouted.keys_of_groups.Given as goal

abbrev pub invariant-loop-group : goal.invariant-loop-group
invariant-loop-group l =
    l.keys.items
    ++ flat_map (moved_of_group l.world (with_routes l.world l.next.table.now.routes)) (numbers_of l.group-iterator)
    ≡ flat_map (moved_of_group l.world (with_routes l.world l.next.table.now.routes)) (numbers_of l.fn.groups.entries)
