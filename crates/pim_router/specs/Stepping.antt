-- What holds of the parts of a router between its events, and what a run of events leaves of them.
use Rattle.std.{specs.{Global.Vec, List.Sorted.IsStrictlySortedBy, Prelude.{List, Ok, Result, true, ℕ, ◌≡◌, IfOk, IsOkUnless, OnOk}}}
use Rattle.pim_ip.{specs.declared.fault.Fault.Fault}
use Rattle.pim_types.{specs.{Keys.key_cmp, declared.{event.Event.Event, outcome.Outcome.Outcome}}}
use Rattle.pim_model.{specs.{Cache.cached, Limits.config_test, Step.{run, state_after}}}
use Rattle.law_events.{specs.Rest.IsAtRest}
use Rattle.law_states.{specs.{Reload.config_of, NearStates.is_near}}
use Rattle.pim_mfc.{specs.Laws.ShowsRows}
use Rattle.pim_fanout.{specs.Refreshing.touches}
use Rattle.pim_event.{specs.{Costs.IsLastCheap, Disturbing.IsLastDisturbed, Listing.IsLastListed, Replacing.Disturbance, Staying.LastOffersStay, declared.parts.Core.Core}}

-- Nothing is left to be done, the rows of the cache are those of the state, its configuration is an accepted one, and its
-- timers end within their periods.
pub record Stands (core : Core) : Type 0 where
  pub rest : IsAtRest core.world
  pub shown : ShowsRows core.cache.mfc.rows (cached core.world)
  pub accepted : config_test (config_of core.world) ≡ Ok tt
  pub near : is_near core.world ≡ true

abbrev pub disturbance : Core → Disturbance
disturbance core = record { touched = core.cache.disturbed; replaced = core.replaced }

-- What a run of events leaves. The fault is want of memory.
pub record RunsTo (o : Core) (events : List Event) (result : Result (Vec Outcome) Fault) (t : Core) (probes : ℕ) : Type 0 where
  pub outcomes : IfOk result (λ outcomes. outcomes.items ≡ run o.world events)
  pub state : OnOk result (t.world ≡ state_after o.world events)
  pub stands : OnOk result (Stands t)
  pub cheap : OnOk result (IsLastCheap o.world events probes (touches t.cache))
  pub listed : OnOk result (IsLastListed o.world events t.cache.changed)
  pub once : OnOk result (IsStrictlySortedBy key_cmp t.cache.changed)
  pub disturbed : OnOk result (IsLastDisturbed o.world events (disturbance t))
  pub stays : OnOk result (LastOffersStay o.world events (disturbance t))
  pub fault : IsOkUnless result Fault.Memory
