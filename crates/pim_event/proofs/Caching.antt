-- The forwarding cache after an event, put together.
use Rattle.std.{proofs.Common.{Err, Ok, OnOk, Result, ℕ, ◌≡◌}, specs.List.Sorted.IsStrictlySortedBy}
use Rattle.pim_types.{specs.{Keys.key_cmp, declared.event.Event.Event}}
use Rattle.pim_fanout.{specs.Refreshing.{CacheValue, touches}}
use Rattle.pim_mfc.{specs.Laws.ShowsRows}
use Rattle.pim_model.{specs.{Cache.cached, State.State}}
use Rattle.law_events.{specs.Named.event_named}
use Rattle.pim_event.{specs.{Caching.CacheAfter, Costs.IsCheap, Disturbing.event_touched, Listing.ListsSame, Staying.UntouchedOffersStay}}

pub cache_after : {A E : Type 0} (r : Result A E) (s : State) (e : Event) (t : State) (cache : CacheValue) (probes : ℕ)
    → OnOk r (ShowsRows cache.mfc.rows (cached t)) → OnOk r (IsCheap s e probes (touches cache))
    → OnOk r (ListsSame cache.changed (event_named s e)) → IsStrictlySortedBy key_cmp cache.changed
    → cache.disturbed ≡ event_touched s e → OnOk r (UntouchedOffersStay cache.disturbed s t)
    → OnOk r (CacheAfter s e t cache probes)
cache_after (Ok x) s e t cache probes shown cheap listed once disturbs stays =
    record { shown = shown; cheap = cheap; listed = listed; once = once; disturbs = disturbs; stays = stays }
cache_after (Err fault) s e t cache probes shown cheap listed once disturbs stays = tt
