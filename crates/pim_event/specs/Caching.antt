-- The forwarding cache and the state, after a part of an event and after the event.
use Rattle.std.{specs.{List.Sorted.IsStrictlySortedBy, Prelude.{List, ℕ, ◌+◌, ◌*◌, ◌≤◌, ◌≡◌, length}}}
use Rattle.pim_types.{specs.{declared.{event.Event.Event, fact.Key.Key}, Keys.key_cmp}}
use Rattle.pim_model.{specs.{Cache.cached, State.State}}
use Rattle.pim_fanout.{specs.Refreshing.{CacheValue, touches}}
use Rattle.pim_mfc.{specs.Laws.ShowsRows}
use Rattle.law_events.{specs.Named.event_named}
use Rattle.pim_event.{specs.{Costs.IsCheap, Disturbing.event_touched, Listing.{ListsMore, ListsSame}, Staying.{StaysBeside, UntouchedOffersStay}}}

-- The cache after a change of the state from `s` to `t`, between which the listed sources are named. Its rows are those
-- of `t`. It touched at most two rows for each name, and its list of changed sources has the names too. What it doesn't
-- call disturbed is the same in `t` as in `s`.
pub record CacheFollows (s t : State) (names : List Key) (before after : CacheValue) : Type 0 where
  pub shown : ShowsRows after.mfc.rows (cached t)
  pub few : touches after ≤ touches before + 2 * length names
  pub listed : ListsMore before.changed names after.changed
  pub stays : (o : State) → StaysBeside before.disturbed o s → StaysBeside after.disturbed o t

-- What the router shows of the cache after an event that began with all counts and lists empty.
pub record CacheAfter (s : State) (e : Event) (t : State) (cache : CacheValue) (probes : ℕ) : Type 0 where
  pub shown : ShowsRows cache.mfc.rows (cached t)
  pub cheap : IsCheap s e probes (touches cache)
  pub listed : ListsSame cache.changed (event_named s e)
  pub once : IsStrictlySortedBy key_cmp cache.changed
  pub disturbs : cache.disturbed ≡ event_touched s e
  pub stays : UntouchedOffersStay cache.disturbed s t
