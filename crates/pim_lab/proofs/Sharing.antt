-- Routers behind their fronts for RPs that share an address: what is asked of a router, and what one event then is.
use Rattle.std.{proofs.Common.{◌≡◌, ◌∙◌, ◌++◌, ℕ, Bool, false, List, [], Option, Some, None, Ok, Err, map, refl, ap}, specs.{Option.option_map_or}}
use Rattle.pim_ip.{specs.{Ipv4.{Packet, ipv4_reading}, declared.refusal.Refusal.Refusal}}
use Rattle.pim_types.{specs.declared.{config.IfaceId.IfaceId, event.{Event.Event, EventKind.EventKind}, name.SourceGroup.SourceGroup, outcome.{Emission.Emission, Outcome.Outcome}}}
use Rattle.pim_model.{specs.{Network.{Network, Station, moved_at, sent_by, station_at}, State.State, Unicast.no_ranges}}
use Rattle.pim_net.{specs.Showing.{Standing, shown_state, with_sent_at}}
use Rattle.igmp_older.specs.{Joined.joined_step, Presence.Present}
use Rattle.pim_anycast.{specs.{Announced.{announced_due, announced_new, is_announced, is_local, local_keys}, Joined.{event_given, kind_given, sent_after, sent_before}, Passed.{bytes_given, copies_of, passed}, declared.{front.Passed.Passed, set.RpSet.RpSet}}}
use Rattle.igmp_older.specs.Joined as older
use Rattle.pim_lab.{specs.{Fronts.{Stands, behind}, Shared.{IsWatchOf, beside, came_behind, shared_network, shared_outcome}, declared.shared.Watch.Watch}, proofs.Fronts.{asked_of, moved_at_is, shown, station_after}}

-- ---- what is asked of a router

module _ (sets : List RpSet) (standing : Option Standing) (s : State) (stands : Stands standing s) where
  pub asked_passed : (bytes : List ℕ)
      → passed sets (option_map_or (λ (r : Standing). r.state.ranges) standing no_ranges) bytes ≡ passed sets s.ranges bytes
  asked_passed bytes = rw (asked_of (λ (t : State). t.ranges) no_ranges standing s stands) refl

  pub asked_before : (g src : ℕ)
      → is_announced sets (option_map_or (λ (r : Standing). r.state.ranges) standing no_ranges)
      (option_map_or (λ (r : Standing). is_local r.state g src) standing false) g
      ≡ is_announced sets s.ranges (is_local s g src) g
  asked_before g src =
      rw (asked_of (λ (t : State). t.ranges) no_ranges standing s stands, asked_of (λ (t : State). is_local t g src) false standing s stands)
      refl

  pub asked_new : (before : Bool) (g src : ℕ)
      → announced_new sets (option_map_or (λ (r : Standing). r.state.ranges) standing no_ranges) before
      (option_map_or (λ (r : Standing). is_local r.state g src) standing false) g src
      ≡ announced_new sets s.ranges before (is_local s g src) g src
  asked_new before g src =
      rw (asked_of (λ (t : State). t.ranges) no_ranges standing s stands, asked_of (λ (t : State). is_local t g src) false standing s stands)
      refl

  pub asked_due : (moment : ℕ)
      → announced_due sets (option_map_or (λ (r : Standing). r.state.ranges) standing no_ranges)
      (option_map_or (λ (r : Standing). local_keys r.state) standing []) moment
      (option_map_or (λ (r : Standing). r.state.present) standing 0)
      ≡ announced_due sets s.ranges (local_keys s) moment s.present
  asked_due moment =
      rw (
        asked_of (λ (t : State). t.ranges) no_ranges standing s stands,
        asked_of local_keys [] standing s stands,
        asked_of (λ (t : State). t.present) 0 standing s stands,
      )
      refl

  pub asked_present : option_map_or (λ (r : Standing). r.state.present) standing 0 ≡ s.present
  asked_present = asked_of (λ (t : State). t.present) 0 standing s stands

-- ---- what is watched

pub packet_watch : (sets : List RpSet) (s : State) (i : IfaceId) (bytes : List ℕ) (p : Packet) (name : SourceGroup) (before : Bool)
    → Ok p ≡ ipv4_reading bytes → name.group.bits ≡ p.destination → name.source.bits ≡ p.source
    → before ≡ is_announced sets s.ranges (is_local s name.group.bits name.source.bits) name.group.bits
    → IsWatchOf sets s (EventKind.Frame i bytes) (Watch.Source name before)
packet_watch sets s i bytes p name before reads group source is t = rw (← reads, ← group, ← source, is) refl

pub no_packet : (sets : List RpSet) (s : State) (i : IfaceId) (bytes : List ℕ) (e : Refusal) → Err e ≡ ipv4_reading bytes
    → IsWatchOf sets s (EventKind.Frame i bytes) Watch.Nothing
no_packet sets s i bytes e reads t = rw (← reads) refl

-- ---- what is given of a packet by unicast

module _ (sets : List RpSet) (s : State) (draw : ℕ) (bytes : List ℕ) (told : Passed) (is : told ≡ passed sets s.ranges bytes) where
  pub unicast_given : (given : List ℕ) → given ≡ bytes_given told bytes
      → (let given_event : Event = record { draw = draw; kind = EventKind.Unicast given } in given_event)
      ≡ event_given sets s (record { draw = draw; kind = EventKind.Unicast bytes })
  unfolding event_given kind_given
  unicast_given given same = rw (same, is) refl

  pub unicast_before : (copies : List Emission) → copies ≡ copies_of told → copies ≡ sent_before sets s (EventKind.Unicast bytes)
  unicast_before copies same = rw (same, is) refl

-- ---- one event at a router of a network

-- packets that are added leave the stations as they were
pub station_kept : (n : Network) (r : ℕ) (sent : List Emission) (k : ℕ) → station_at (with_sent_at n r sent) k ≡ station_at n k
unfolding station_at
station_kept n r sent k = go (station_at n r)
  where
    go : (o : Option Station)
        → station_at (option_map_or (λ (st : Station). record n { frames = n.frames ++ map (sent_by st.links) sent }) o n) k ≡ station_at n k
    go None = refl
    go (Some st) = refl

module _ (n : Network) (r : ℕ) (st : Station) (here : station_at n r ≡ Some st) (sets : List RpSet) (p : Present) (e : Event) where
  abbrev pub copied : Network
  copied = with_sent_at n r (sent_before sets st.state e.kind)

  abbrev pub given : Event
  given = older.event_given (behind p st.state) (event_given sets st.state e)

  pub copied_here : station_at copied r ≡ Some st
  copied_here = station_kept n r (sent_before sets st.state e.kind) r ∙ here

  -- the router's state after it
  abbrev pub left : State
  left = ((came_behind sets (behind p st.state) e).1).state

  after_here : station_at (moved_at copied (r, given)).1 r ≡ Some (record st { state = left })
  unfolding joined_step
  after_here =
      ap (λ (m : Outcome × Network). station_at m.1 r) (moved_at_is copied r st copied_here given)
      ∙ station_after copied r st copied_here given

  pub shown_after : (o : Option Network) → o ≡ Some (moved_at copied (r, given)).1 → shown_state o r ≡ Some left
  shown_after o is = shown o (moved_at copied (r, given)).1 r (record st { state = left }) is after_here

  -- with what the first front sends
  pub outcome_is : (copies after : List Emission) (o : Outcome) → copies ≡ sent_before sets st.state e.kind
      → o ≡ (came_behind sets (behind p st.state) e).0 → after ≡ sent_after sets st.state left e.kind
      → beside copies o after ≡ shared_outcome sets (behind p st.state) e
  unfolding shared_outcome
  outcome_is copies after o before came last = rw (before, came, last) refl

  pub network_is : (o : Option Network) (after : List Emission) → o ≡ Some (with_sent_at (moved_at copied (r, given)).1 r after)
      → after ≡ sent_after sets st.state left e.kind → o ≡ Some (shared_network n r sets (behind p st.state) e)
  unfolding shared_network
  network_is o after is last =
      is ∙ ap (λ (es : List Emission). Some (with_sent_at (moved_at copied (r, given)).1 r es)) last
