use Rattle.std.{proofs.Common.{◌≡◌, ◌++◌, filter, map}}
use Rattle.pim_types.{specs.Keys.source_key}
use Rattle.pim_state.{specs.Groups.numbers_of}
use Rattle.pim_rerouted.{specs.OtherRoutes.{has_other_route, with_routes}}
use Rattle.pim_rerouted.proofs.rerouted.put_sources.Given as goal

abbrev pub invariant-loop-source : goal.invariant-loop-source
invariant-loop-source l =
    l.keys.items ++ map (source_key 0 l.group.bits)
    (filter (has_other_route l.world (with_routes l.world l.next.table.now.routes)) (numbers_of l.source-iterator))
    ≡ l.fn.keys.items ++ map (source_key 0 l.group.bits)
    (filter (has_other_route l.world (with_routes l.world l.next.table.now.routes)) (numbers_of l.fn.sources.entries))
