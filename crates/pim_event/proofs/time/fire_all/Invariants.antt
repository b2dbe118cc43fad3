use Rattle.std.{specs.Prelude.◌≡◌}
use Rattle.pim_fanout.{specs.Refreshing.touches}
use Rattle.law_settled.{proofs.FiringLaws.instants_left}
use Rattle.pim_mfc.{specs.Laws.ShowsRows}
use Rattle.pim_model.{specs.{Cache.cached, Timers.next_due, State.State}}
use Rattle.pim_event.{proofs.{Disturbing.AllDisturbs, Firings.AllCosts, Instants.ByMoment, Listing.AllLists}, specs.Staying.StaysBeside}
use Rattle.pim_event.proofs.time.fire_all.Given as goal

abbrev pub invariant-instants : goal.invariant-instants
invariant-instants l =
    ByMoment l.fn.turn.draw l.moment l.fn.core.world l.fn.emissions.items l.core.world l.emissions.items
    × (l.turn.draw ≡ l.fn.turn.draw) × ShowsRows l.core.cache.mfc.rows (cached l.core.world)
    × AllCosts l.fn.turn.draw l.moment l.fn.core.world (touches l.fn.core.cache) l.core.world (touches l.core.cache)
    × AllLists l.fn.turn.draw l.moment l.fn.core.world l.fn.core.cache.changed l.core.world l.core.cache.changed
    × ((o : State) → StaysBeside l.fn.core.cache.disturbed o l.fn.core.world → StaysBeside l.core.cache.disturbed o l.core.world)
    × AllDisturbs l.fn.turn.draw l.moment l.fn.core.world l.fn.core.cache.disturbed l.core.world l.core.cache.disturbed
    × (l.core.replaced ≡ l.fn.core.replaced)

abbrev pub decreases-instants : goal.decreases-instants
decreases-instants l = instants_left l.moment (next_due l.moment l.core.world)
