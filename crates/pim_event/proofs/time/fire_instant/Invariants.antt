use Rattle.std.{specs.Prelude.◌≡◌}
use Rattle.pim_fanout.{specs.Refreshing.touches}
use Rattle.law_settled.{proofs.FiringLaws.still_due}
use Rattle.pim_mfc.{specs.Laws.ShowsRows}
use Rattle.pim_model.{specs.{Cache.cached, State.State}}
use Rattle.pim_event.{proofs.{Disturbing.InstantDisturbs, Firings.InstantCosts, Instants.WithinInstant, Listing.InstantLists}, specs.{Staying.StaysBeside, Ends.ending_of}}
use Rattle.pim_event.proofs.time.fire_instant.Given as goal

abbrev pub invariant-firings : goal.invariant-firings
invariant-firings l =
    WithinInstant l.fn.turn.draw l.fn.core.world (ending_of l.first) l.fn.emissions.items l.core.world l.emissions.items
    × (l.turn.draw ≡ l.fn.turn.draw) × ShowsRows l.core.cache.mfc.rows (cached l.core.world)
    × InstantCosts l.fn.turn.draw l.fn.core.world (ending_of l.first) (touches l.fn.core.cache) l.core.world (touches l.core.cache)
    × InstantLists l.fn.turn.draw l.fn.core.world (ending_of l.first) l.fn.core.cache.changed l.core.world l.core.cache.changed
    × ((o : State) → StaysBeside l.fn.core.cache.disturbed o l.fn.core.world → StaysBeside l.core.cache.disturbed o l.core.world)
    × InstantDisturbs l.fn.turn.draw l.fn.core.world (ending_of l.first) l.fn.core.cache.disturbed l.core.world l.core.cache.disturbed
    × (l.core.replaced ≡ l.fn.core.replaced)

abbrev pub decreases-firings : goal.decreases-firings
decreases-firings l = still_due l.first.0 l.fn.core.world l.core.world
