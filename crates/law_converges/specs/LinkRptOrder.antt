-- No Prune(S,G,rpt) that is overridden in order takes effect: where frames come in the order in which they were sent, and
-- soon enough, the Join(S,G,rpt) of a router below comes while the Prune still waits (RFC 7761, 4.5.3 and 4.5.7).
use Rattle.std.{specs.Prelude.{Bool, List, None, Some, [], false, length, nat_lt, slice_get, true, ℕ, ◌*◌, ◌+◌, ◌<◌, ◌==◌, ◌^◌, ◌∷◌, ◌≡◌, ◌≤◌, ◌⊎◌}}
use Rattle.pim_ip.{specs.Ipv4.{is_link_local, is_multicast, is_source_specific, is_unicast}}
use Rattle.pim_types.{specs.{Keys.rpt_key, declared.{event.Event.Event, fact.OverrideTimerRow.OverrideTimerRow}}}
use Rattle.pim_wire.{specs.{Values.JoinPrune, declared.join_prune.EntryKind.EntryKind}}
use Rattle.pim_model.{specs.{declared.accepted.Accepted.Accepted, Cause.done_as, Full.is_full, Messages.entry, Neighbours.{effective_override_interval, neighbour_count}, Network.{Deliver, Move, Network, Station, event_of, frame_at, moved, station_at}, Sets.prunes, State.{my_address}, Tables.row_at}}
use Rattle.law_streams.{specs.{Copies.happens, Joins.{Hears, join_value}, InTimeJoins.{Always, IsBy, IsReady, Pair, time_at}}}
use Rattle.law_converges.{specs.LinkRpt.{Throughout, WantsFrom, is_pruned_by, joins_source, override_packet, override_wait, prunes_source, sees_join}}

-- Two routers on a link, of which the lower one wants the source down the group's tree, over the upper one. All times are in
-- ms, and in the time at a router, which is when it started plus its present.
pub record Wire : Type 0 where
  pub pair : Pair
  pub group : ℕ
  pub source : ℕ
  -- when each router started
  pub started : ℕ → ℕ
  -- when each frame was sent, by its number
  pub sent : ℕ → ℕ
  -- the frames that prune the source off the group's tree at the upper router
  pub prunes : ℕ → Bool
  -- how long a frame takes, and how late the override timer ends, at most
  pub within : ℕ
  pub late : ℕ
  -- the propagation delay and the override interval of the link
  pub propagation : ℕ
  pub interval : ℕ

-- the addresses are such that a Join(S,G,rpt) can be written, of a group with an RP
pub record IsOverridable (x : Wire) : Type 0 where
  pub of_group : is_multicast x.group ≡ true
  pub goes_far : is_link_local x.group ≡ false
  pub general : is_source_specific x.group ≡ false
  pub of_host : is_unicast x.source ≡ true
  pub to_fits : ((x.pair).hop).address.bits < 2 ^ 32

-- a frame is a Join(S,G,rpt) to the upper router, of the lower one or another
pub record IsOverride (x : Wire) (n : Network) (number : ℕ) : Type 0 where
  pub from : ℕ
  pub is : frame_at n number
      ≡ Some (record { link = Some (x.pair).link; bytes = override_packet x.group x.source (x.pair).hop from })

-- ---- what a move brings; `last` is the number of the last of these frames that came to the router

-- a Prune of the source comes to the upper router in its turn: no Join(S,G,rpt) that was sent before is still to come
pub record PruneComes (x : Wire) (last number : ℕ) (n : Network) (m : Move) : Type 0 where
  pub draw : ℕ
  pub is : m ≡ Deliver (x.pair).upper (x.pair).down number draw
  pub later : last < number
  pub there : number ≤ length n.frames
  pub prunes : x.prunes number ≡ true
  pub none_between : (k : ℕ) → last < k → k ≤ number → IsOverride x n k → ⊥
  pub station : Station
  pub at : station_at n (x.pair).upper ≡ Some station
  pub event : Event
  pub brought : event_of n m ≡ Some ((x.pair).upper, event)
  pub message : JoinPrune
  pub taken : done_as (happens station.state event) ≡ Some (Accepted.JoinPruneToMe (record { number = (x.pair).down }) message)
  pub named : prunes_source (x.pair).down x.group x.source message ≡ true
  pub unjoined : joins_source station.state (x.pair).down x.group x.source message ≡ false
  pub lasts : (message.holdtime == 0) ≡ false
  -- it isn't there before it was sent, and it waits for as long as the link's delays say
  pub after : x.sent number ≤ time_at x.started (x.pair).upper station
  pub many : nat_lt 1 (neighbour_count station.state (x.pair).down) ≡ true
  pub waits : x.propagation + x.interval ≤ override_wait station.state (x.pair).down

-- a Join(S,G,rpt) comes in its turn to the upper router, which hears who sent it, and has room
pub record JoinComes (x : Wire) (last number : ℕ) (n : Network) (m : Move) : Type 0 where
  pub draw : ℕ
  pub is : m ≡ Deliver (x.pair).upper (x.pair).down number draw
  pub later : last < number
  pub there : number ≤ length n.frames
  pub override : IsOverride x n number
  pub station : Station
  pub at : station_at n (x.pair).upper ≡ Some station
  pub of_host : is_unicast override.from ≡ true
  pub hears : Hears station.state (x.pair).down override.from
  pub own : my_address station.state (x.pair).down ≡ ((x.pair).hop).address.bits
  pub linked : slice_get station.links (x.pair).down ≡ Some (x.pair).link
  pub room : is_full station.state (Accepted.JoinPruneToMe (record { number = (x.pair).down })
      (join_value ((x.pair).hop).address.bits x.group (entry EntryKind.SourceRpt x.source) [])) ≡ false

-- a Prune of the source comes to the lower router in its turn: no other that was sent before is still to come
pub record PruneIsSeen (x : Wire) (last number : ℕ) (n : Network) (m : Move) : Type 0 where
  pub draw : ℕ
  pub is : m ≡ Deliver (x.pair).lower ((x.pair).hop).iface.number number draw
  pub later : last < number
  pub there : number ≤ length n.frames
  pub none_between : (k : ℕ) → last < k → k < number → x.prunes k ≡ false
  pub prunes : x.prunes number ≡ true
  pub station : Station
  pub at : station_at n (x.pair).lower ≡ Some station
  pub event : Event
  pub brought : event_of n m ≡ Some ((x.pair).lower, event)
  pub message : JoinPrune
  pub taken : done_as (happens station.state event) ≡ Some (Accepted.JoinPruneSeen ((x.pair).hop).iface message)
  pub to : (message.upstream == ((x.pair).hop).address.bits) ≡ true
  pub named : prunes_source ((x.pair).hop).iface.number x.group x.source message ≡ true
  pub unjoined : joins_source station.state ((x.pair).hop).iface.number x.group x.source message ≡ false
  pub interval : effective_override_interval station.state ((x.pair).hop).iface.number ≤ x.interval

-- a Join(S,G,rpt) of another router comes to the lower router in its turn: no Prune that was sent before is still to come
pub record JoinIsSeen (x : Wire) (last number : ℕ) (n : Network) (m : Move) : Type 0 where
  pub draw : ℕ
  pub is : m ≡ Deliver (x.pair).lower ((x.pair).hop).iface.number number draw
  pub later : last < number
  pub there : number ≤ length n.frames
  pub none_between : (k : ℕ) → last < k → k ≤ number → x.prunes k ≡ false
  pub override : IsOverride x n number
  pub after : (st : Station) → station_at (moved n m).1 (x.pair).lower ≡ Some st → x.sent number ≤ time_at x.started (x.pair).lower st

-- nothing of these: the upper router takes no Prune of the source, and the lower one sees no Join(S,G,rpt) to the upper one
pub record NoneComes (x : Wire) (n : Network) (m : Move) : Type 0 where
  pub unpruned : (e : Event) (st : Station) → event_of n m ≡ Some ((x.pair).upper, e) → station_at n (x.pair).upper ≡ Some st
      → is_pruned_by (x.pair).down x.group x.source (done_as (happens st.state e)) ≡ false
  pub unjoined : (e : Event) (st : Station) → event_of n m ≡ Some ((x.pair).lower, e) → station_at n (x.pair).lower ≡ Some st
      → sees_join x.group x.source (x.pair).hop st.state (done_as (happens st.state e)) ≡ false

abbrev pub Brings : (x : Wire) (up low up' low' : ℕ) → Network → Move → Type 0
Brings x up low up' low' n m =
    (PruneComes x up up' n m × (low' ≡ low)) ⊎ (JoinComes x up up' n m × (low' ≡ low)) ⊎ (PruneIsSeen x low low' n m × (up' ≡ up))
    ⊎ (JoinIsSeen x low low' n m × (up' ≡ up)) ⊎ (NoneComes x n m × (up' ≡ up) × (low' ≡ low))

-- ---- what is asked of each move

-- Until a Join(S,G,rpt) has come to the upper router, or a Prune to the lower one, neither's time is more than `within` beyond
-- when it was sent.
pub record AreOnTime (x : Wire) (up low : ℕ) (n : Network) : Type 0 where
  pub joins : (k : ℕ) → up < k → IsOverride x n k → IsBy x.started (x.pair).upper (x.sent k + x.within) n
  pub prunes : (k : ℕ) → low < k → k ≤ length n.frames → x.prunes k ≡ true
      → IsBy x.started (x.pair).upper (x.sent k + x.within) n × IsBy x.started (x.pair).lower (x.sent k + x.within) n

pub record GoesOn (x : Wire) (n : Network) (m : Move) : Type 0 where
  -- the lower router wants the source throughout, over the link
  pub wants : (e : Event) (st : Station) → event_of n m ≡ Some ((x.pair).lower, e) → station_at n (x.pair).lower ≡ Some st
      → Throughout (WantsFrom x.group x.source (x.pair).hop (x.pair).from) st.state e (done_as (happens st.state e))
  pub linked : (st : Station) → station_at n (x.pair).lower ≡ Some st
      → slice_get st.links ((x.pair).hop).iface.number ≡ Some (x.pair).link
  -- what it sends is sent at the time at it
  pub sends : (e : Event) (st : Station) (k : ℕ) → event_of n m ≡ Some ((x.pair).lower, e)
      → station_at (moved n m).1 (x.pair).lower ≡ Some st → length n.frames < k → k ≤ length ((moved n m).1).frames
      → x.sent k ≤ time_at x.started (x.pair).lower st
  -- its override timer ends at most so late, by the time at either router
  pub timer : (st : Station) (row : OverrideTimerRow) → station_at n (x.pair).lower ≡ Some st
      → row_at (st.state).override_timers (rpt_key 0 x.group x.source) ≡ Some row
      → IsBy x.started (x.pair).lower (row.end + x.started (x.pair).lower + x.late) (moved n m).1
      × IsBy x.started (x.pair).upper (row.end + x.started (x.pair).lower + x.late) (moved n m).1

pub record IsInOrder (x : Wire) (up low : ℕ) (n : Network) (m : Move) : Type 0 where
  pub up_then : ℕ
  pub low_then : ℕ
  pub brings : Brings x up low up_then low_then n m
  pub goes_on : GoesOn x n m
  pub on_time : AreOnTime x up_then low_then (moved n m).1

abbrev pub AreInOrder : (x : Wire) (up low : ℕ) → Network → List Move → Type 0
AreInOrder x up low n [] = Unit {0}
AreInOrder x up low n (m ∷ ms) = (f : IsInOrder x up low n m) × AreInOrder x f.up_then f.low_then (moved n m).1 ms

-- ---- the law

-- DownstreamJPState(S,G,rpt,I) of the upper router isn't Prune
pub record IsUnpruned (x : Wire) (n : Network) : Type 0 where
  pub station : Station
  pub there : station_at n (x.pair).upper ≡ Some station
  pub unpruned : prunes station.state x.group x.source (x.pair).down ≡ false

-- To begin with the upper router is in NoInfo, the lower one wants the source, and no frame so far is a Prune of it.
pub record Begins (x : Wire) (n : Network) : Type 0 where
  pub apart : ((x.pair).lower == (x.pair).upper) ≡ false
  pub above : Station
  pub above_is : station_at n (x.pair).upper ≡ Some above
  pub no_info : row_at (above.state).downstream (rpt_key (x.pair).down x.group x.source) ≡ None
  pub below : Station
  pub below_is : station_at n (x.pair).lower ≡ Some below
  pub wants : WantsFrom x.group x.source (x.pair).hop (x.pair).from below.state
  pub ready : IsReady (x.pair).upper n
  pub none : (k : ℕ) → k ≤ length n.frames → x.prunes k ≡ false

-- Where 2 within + late is below the propagation delay, however many moves there are, the upper router's state is never Prune.
-- In the stored scenarios override_too_late, where it is above, and override_before_prune, where the Join comes before the
-- Prune that it overrides, it is.
abbrev pub OverriddenPruneHasNoEffect : Type 0
OverriddenPruneHasNoEffect = (x : Wire) (n : Network) (ms : List Move) → IsOverridable x → 2 * x.within + x.late < x.propagation
    → 1 ≤ x.interval → Begins x n → AreInOrder x (length n.frames) (length n.frames) n ms → Always (IsUnpruned x) n ms
