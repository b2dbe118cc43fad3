-- What a reload leaves of what an event may change.
use Rattle.std.{specs.{Global.Vec, List.Sorted.IsStrictlySortedBy, Prelude.{List, Ok, Result, length, ℕ, ◌++◌, ◌≡◌, ◌≤◌, IfOk, IsOkUnless, OnOk}}}
use Rattle.pim_ip.{specs.declared.fault.Fault.Fault}
use Rattle.pim_types.{specs.{Keys.key_cmp, declared.{config.Config.Config, event.Event.Event, outcome.Emission.Emission}}}
use Rattle.pim_model.{specs.{Cache.cached, Limits.config_test, State.{State, iface_count}, Step.{run, state_after}}}
use Rattle.law_states.{specs.{Reload.config_of, Reloading.sent_by, Placing.{gone_on, in_order, moved, resubnetted}}}
use Rattle.pim_mfc.{specs.Laws.ShowsRows}
use Rattle.pim_worlds.{specs.{Leading.LeadWithin, declared.orders.Orders.Orders}}
use Rattle.pim_state.{specs.declared.touched.Touched.Touched}
use Rattle.pim_event.{specs.{Replacing.NoneReplaced, Stepping.Rests, declared.parts.Core.Core}}
use Rattle.pim_reloader.{specs.Listing.ListsFacts}

-- What is left is this state, and this is sent. The fault is want of memory.
pub record Reloads (o : Core) (after : State × List Emission) (result : Result (Vec Emission) Fault) (t : Core) : Type 0 where
  pub state : OnOk result (t.world ≡ after.0)
  pub sent : IfOk result (λ sent. sent.items ≡ after.1)
  pub shown : OnOk result (ShowsRows t.cache.mfc.rows (cached t.world))
  pub listed : OnOk result (ListsFacts o.world t.world t.cache.changed)
  pub once : OnOk result (IsStrictlySortedBy key_cmp t.cache.changed)
  pub disturbed : OnOk result (t.cache.disturbed ≡ Touched.All)
  pub replaced : OnOk result (t.replaced ≡ NoneReplaced)
  pub fault : IsOkUnless result Fault.Memory

-- The same of a part of a reload, after which another part follows.
pub record LeadsTo (after : State × List Emission) (result : Result (Vec Emission) Fault) (t : Core) : Type 0 where
  pub state : OnOk result (t.world ≡ after.0)
  pub sent : IfOk result (λ sent. sent.items ≡ after.1)
  pub shown : OnOk result (ShowsRows t.cache.mfc.rows (cached t.world))
  pub fault : IsOkUnless result Fault.Memory

-- Interfaces that are removed go down, by these events: no event, one, or one after the other.
pub record Removes (o : Core) (events : List Event) (result : Result (Vec Emission) Fault) (t : Core) : Type 0 where
  pub state : OnOk result (t.world ≡ state_after o.world events)
  pub sent : IfOk result (λ sent. sent.items ≡ sent_by (run o.world events))
  pub rests : OnOk result (Rests t)
  pub fault : IsOkUnless result Fault.Memory

-- ---- by a map of places

-- What a state can be moved by to the order between, and gone on from there to the next one's configuration in that order.
pub record AreReady (s next : State) (orders : Orders) : Type 0 where
  pub few_old : length orders.old.items ≤ 120
  pub few_new : length orders.new.items ≤ 120
  pub old : config_test (in_order orders.old.items (config_of s)) ≡ Ok tt
  pub new : config_test (in_order orders.new.items (config_of next)) ≡ Ok tt
  pub lead : LeadWithin orders.to.items (iface_count s) (length (in_order orders.old.items (config_of s)).interfaces)
  pub few : orders.kept ≤ length (in_order orders.old.items (config_of s)).interfaces
  pub kept : orders.kept ≤ length (in_order orders.new.items (config_of next)).interfaces

-- A reload by a map of places up to where the facts go to their places, by the orders of the map.
unfoldable pub halfway : State → Orders → Config → ℕ → State × List Emission
halfway s orders c w =
    let old : Config = in_order orders.old.items (config_of s) in
    let new : Config = in_order orders.new.items c in
    let first : State × List Emission =
    moved s orders.to.items old (resubnetted orders.kept old.interfaces new.interfaces) w in
    let next : State × List Emission = gone_on first.0 orders.kept (iface_count first.0) new w in
    (next.0, first.1 ++ next.1)
