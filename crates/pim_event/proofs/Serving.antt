-- Of which interfaces the router is the DR: an event and the expiry of a timer leave it, but those that are said to move it.
use Rattle.std.{proofs.Common.{◌≡◌, ℕ, Bool, true, false, not, List, refl, ap}, specs.Prelude.Some}
use Rattle.pim_types.{specs.{declared.{fact.Key.Key, timer.TimerKind.TimerKind}, Keys.star_key}}
use Rattle.pim_model.{specs.{declared.accepted.Accepted.Accepted, Firing.fired, Neighbours.is_dr, Reach.own_firing, State.State, Step.{change, rps_replaced}, Timers.Ending}}
use Rattle.law_events.{specs.{Events.touched_by_event, Locality.{AgreesBut, touching}, Scopes.scope, Touches.{isnt_neighbour, touched_by}}, proofs.{EventLaws.change_touches, SilentEvents.timer_touches, Configured.{beyond, untouched}, Unreached.{Around, dr_around}, Hellos.{end_dr, hello_dr}}}
use Rattle.pim_event.{specs.{Ends.end_moves_dr, Staying.moves_dr}}

-- ---- what touches some keys alone leaves the DR

around_of : (keys : List Key) (s t : State) → AgreesBut (touching keys) s t → Around s t
unfolding scope
around_of keys s t agree =
    let same = agree (star_key 0 (beyond keys)) (untouched keys) in
    record {
      settings = ap (λ (u : State). u.settings) same;
      configured = ap (λ (u : State). u.configured) same;
      priorities = ap (λ (u : State). u.neighbours) same;
    }

by_keys : (s : State) (w : ℕ) (a : Accepted) (keys : List Key) → touched_by_event s a ≡ Some keys → (i : ℕ)
    → is_dr s i ≡ is_dr (change s w a).state i
by_keys s w a keys e i =
    let after : State = (change s w a).state in
    dr_around s after (around_of keys s after (change_touches s w a keys e)) i

holds : (b : Bool) → not b ≡ false → b ≡ true
holds true e = refl
holds false e = cc

pub event_dr : (s : State) (w : ℕ) (a : Accepted) → moves_dr s a ≡ false → (i : ℕ)
    → is_dr s i ≡ is_dr (change s w a).state i
unfolding change rps_replaced moves_dr touched_by_event is_dr
event_dr s w (Accepted.Advance moment) calm i = refl
event_dr s w (Accepted.Up j) calm i = cc
event_dr s w (Accepted.Down j) calm i = cc
event_dr s w (Accepted.Routes routes) calm i = refl
event_dr s w (Accepted.Rps ranges) calm i = refl
event_dr s w (Accepted.Hello j from h) calm i = hello_dr s j.number from.bits w h (holds _ calm) i
event_dr s w a calm i = by_keys s w a _ refl i

fired_dr : (s : State) (kind : TimerKind) (k : Key) → isnt_neighbour kind ≡ true → (i : ℕ)
    → is_dr s i ≡ is_dr (fired s kind k).0 i
fired_dr s kind k is i =
    let after : State = (fired s kind k).0 in
    dr_around s after (around_of (touched_by kind k) s after (timer_touches s k kind is)) i

pub firing_dr : (s : State) (e : Ending) → end_moves_dr s e.timer.kind e.timer.key ≡ false → (i : ℕ)
    → is_dr s i ≡ is_dr (own_firing s e) i
unfolding own_firing end_moves_dr is_dr
firing_dr s e calm i = go e.timer.kind refl calm
  where
    go : (kind : TimerKind) → e.timer.kind ≡ kind → end_moves_dr s kind e.timer.key ≡ false
        → is_dr s i ≡ is_dr (own_firing s e) i
    go TimerKind.Neighbour is calm = end_dr s e is (holds _ calm) i
    go kind is calm =
        fired_dr (record s { present = e.end }) e.timer.kind e.timer.key (ap isnt_neighbour is) i
