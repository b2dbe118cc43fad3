-- No event and no firing changes the settings or what is configured, and none but new routes and RP ranges changes
-- these.
use Rattle.std.{proofs.Common.{◌≡◌, ℕ, suc, ◌≤◌, Bool, true, false, List, [], ◌∷◌, Some, map, max, refl, sym, ap, arith}, specs.List.list_any}
use Rattle.pim_types.{specs.{declared.{config.{Route.Route, RpTable.RpTable, Settings.Settings}, fact.{InterfaceRow.InterfaceRow, Key.Key}, timer.TimerKind.TimerKind}, Keys.{group_in, star_key}}}
use Rattle.pim_wire.{specs.declared.hello.Hello.Hello as HelloValue}
use Rattle.pim_model.{specs.{declared.accepted.Accepted.Accepted, Firing.fired, Hellos.{hello_received, hello_triggered, neighbour_due, neighbour_replaced, neighbour_restarted}, Querier.{querier_up, querying}, Reach.own_firing, State.{Addressing, State}, Step.{change, iface_down, iface_up, rps_replaced}, Tables.Table, Timers.Ending}}
use Rattle.law_events.{specs.{Events.touched_by_event, Locality.{AgreesBut, touching}, Scopes.{only_up, reads, scope}, Switched.is_switch, Touches.{isnt_neighbour, touched_by}}, proofs.{EventLaws.change_touches, Hellos.hello_ups, SilentEvents.timer_touches, Reached.IsConfigured}}

-- ---- a group of no key

-- every key's group is below
unfoldable pub beyond : List Key → ℕ
beyond [] = 0
beyond (k ∷ ks) = max (suc (group_in k)) (beyond ks)

apart : (n : ℕ) (k : Key) → suc (group_in k) ≤ n → reads (star_key 0 n) k ≡ false
unfolding reads
apart n k low = grind arith

none_read : (n : ℕ) (keys : List Key) → beyond keys ≤ n → list_any (reads (star_key 0 n)) keys ≡ false
unfolding beyond
none_read n [] low = refl
none_read n (k ∷ ks) low = rw (apart n k (omega (arith, low))) (none_read n ks (omega (arith, low)))

pub untouched : (keys : List Key) → touching keys (star_key 0 (beyond keys)) ≡ false
unfolding touching
untouched keys = none_read (beyond keys) keys (omega arith)

-- what an event leaves, but for new routes and RP ranges
pub record Ground : Type 0 where
  pub settings : Settings
  pub configured : Addressing
  pub routes : List Route
  pub ranges : RpTable

abbrev pub ground : State → Ground
ground s = record { settings = s.settings; configured = s.configured; routes = s.routes; ranges = s.ranges }

beside : (keys : List Key) (s t : State) → AgreesBut (touching keys) s t → ground t ≡ ground s
unfolding scope
beside keys s t agree = sym (ap ground (agree (star_key 0 (beyond keys)) (untouched keys)))

is_configured : (s t : State) → ground t ≡ ground s → IsConfigured s t
is_configured s t e = grind arith

pub configured_beside : (keys : List Key) (s t : State) → AgreesBut (touching keys) s t → IsConfigured s t
configured_beside keys s t agree = is_configured s t (beside keys s t agree)

-- ---- events

hello_ground : (s : State) (i address : ℕ) (h : HelloValue) (w : ℕ) → ground (hello_received s i address h w) ≡ ground s
unfolding hello_received hello_triggered neighbour_replaced neighbour_restarted
hello_ground s i address h w = grind arith

by_keys : (s : State) (w : ℕ) (a : Accepted) (keys : List Key) → touched_by_event s a ≡ Some keys
    → ground (change s w a).state ≡ ground s
by_keys s w a keys e = beside keys s (change s w a).state (change_touches s w a keys e)

abbrev pub ground_after : State → Accepted → Ground
ground_after s (Accepted.Routes routes) = record (ground s) { routes = routes }
ground_after s (Accepted.Rps ranges) = record (ground s) { ranges = ranges }
ground_after s a = ground s

pub change_ground : (s : State) (w : ℕ) (a : Accepted) → ground (change s w a).state ≡ ground_after s a
unfolding change iface_up iface_down querier_up querying rps_replaced touched_by_event
change_ground s w (Accepted.Advance moment) = refl
change_ground s w (Accepted.Up i) = refl
change_ground s w (Accepted.Down i) = refl
change_ground s w (Accepted.Routes routes) = refl
change_ground s w (Accepted.Rps ranges) = refl
change_ground s w (Accepted.Hello i from h) = hello_ground s i.number from.bits h w
change_ground s w a = by_keys s w a _ refl

pub change_configured : (s : State) (w : ℕ) (a : Accepted) → IsConfigured s (change s w a).state
unfolding change rps_replaced
change_configured s w a = grind (arith, is_configured, change_ground)

-- which interfaces are up
abbrev pub ups : State → Table InterfaceRow
ups s = map only_up s.interfaces

ups_beside : (keys : List Key) (s t : State) → AgreesBut (touching keys) s t → ups t ≡ ups s
unfolding scope
ups_beside keys s t agree =
    sym (ap (λ (u : State). u.interfaces) (agree (star_key 0 (beyond keys)) (untouched keys)))

-- no event changes which interfaces are up, but that one goes up or down
pub change_ups : (s : State) (w : ℕ) (a : Accepted) → is_switch a ≡ false → ups (change s w a).state ≡ ups s
unfolding change rps_replaced touched_by_event
change_ups s w (Accepted.Advance moment) e = refl
change_ups s w (Accepted.Up i) e = cc
change_ups s w (Accepted.Down i) e = cc
change_ups s w (Accepted.Routes routes) e = refl
change_ups s w (Accepted.Rps ranges) e = refl
change_ups s w (Accepted.Hello i from h) e = hello_ups s i.number from.bits w h
change_ups s w a e = ups_beside _ s (change s w a).state (change_touches s w a _ refl)

-- ---- firings

fired_ups : (s : State) (kind : TimerKind) (k : Key) (b : Bool) → isnt_neighbour kind ≡ b
    → ups (fired s kind k).0 ≡ ups s
unfolding fired neighbour_due
fired_ups s TimerKind.Neighbour k b e = refl
fired_ups s kind k true e = ups_beside (touched_by kind k) s (fired s kind k).0 (timer_touches s k kind e)
fired_ups s kind k false e = cc

pub firing_ups : (s : State) (e : Ending) → ups (own_firing s e) ≡ ups s
unfolding own_firing
firing_ups s e = grind (arith, fired_ups)

fired_ground : (s : State) (kind : TimerKind) (k : Key) (b : Bool) → isnt_neighbour kind ≡ b
    → ground (fired s kind k).0 ≡ ground s
unfolding fired neighbour_due
fired_ground s TimerKind.Neighbour k b e = refl
fired_ground s kind k true e = beside (touched_by kind k) s (fired s kind k).0 (timer_touches s k kind e)
fired_ground s kind k false e = cc

pub firing_ground : (s : State) (e : Ending) → ground (own_firing s e) ≡ ground s
unfolding own_firing
firing_ground s e = grind (arith, fired_ground)

pub firing_configured : (s : State) (e : Ending) → IsConfigured s (own_firing s e)
firing_configured s e = is_configured s (own_firing s e) (firing_ground s e)
