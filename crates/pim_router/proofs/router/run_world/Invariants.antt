use Rattle.std.{proofs.Common.{drop, take}, specs.List.Sorted.IsStrictlySortedBy}
use Rattle.pim_types.{specs.Keys.key_cmp}
use Rattle.pim_fanout.{specs.Refreshing.touches}
use Rattle.pim_event.{proofs.Costs.Counted, specs.{Disturbing.IsLastDisturbed, Listing.IsLastListed, Staying.LastOffersStay}}
use Rattle.pim_router.{specs.Stepping.{Stands, disturbance}, proofs.Runs.Runs}
use Rattle.pim_router.proofs.router.run_world.Given as goal

abbrev pub invariant-loop-event : goal.invariant-loop-event
invariant-loop-event l =
    Runs l.fn.core.world l.events l.core.world l.outcomes.items (drop l.event-index l.events)
    × Stands l.core
    × Counted l.fn.core.world l.events l.event-index l.core.world l.probes.meter (touches l.core.cache)
    × IsLastListed l.fn.core.world (take l.event-index l.events) l.core.cache.changed
    × LastOffersStay l.fn.core.world (take l.event-index l.events) (disturbance l.core)
    × IsLastDisturbed l.fn.core.world (take l.event-index l.events) (disturbance l.core)
    × IsStrictlySortedBy key_cmp l.core.cache.changed
