-- Joins come in time: where what a router sends to its next hop is delivered soon, and neither goes down, what it joins
-- there never expires while it wants the group, or the source. On a link with several routers it may hold its Join back
-- for another router's (Join suppression, RFC 7761, 4.5.4 and 4.5.5).
use Rattle.std.{specs.Prelude.{Bool, List, None, Option, Some, [], false, length, map, slice_get, true, ℕ, ◌&&◌, ◌*◌, ◌+◌, ◌<◌, ◌==◌, ◌∷◌, ◌≡◌, ◌≤◌, ◌⊎◌}}
use Rattle.pim_types.{specs.{Keys.key_of, declared.{event.Event.Event, fact.{JoinTimerRow.JoinTimerRow, Key.Key}, path.{Hop.Hop, Path.Path}}}}
use Rattle.pim_wire.{specs.declared.join_prune.{Entry.Entry, EntryKind.EntryKind}}
use Rattle.pim_model.{specs.{declared.accepted.Accepted.Accepted, Cause.done_as, Desires.{join_desired, join_desired_star, rpf_source, rpf_star}, Downstream.{is_named, joined_keys, pruned_keys}, Full.is_full, Messages.entry, Neighbours.nbr, Network.{Deliver, Move, Network, Sent, Station, event_of, frame_at, moved, station_at}, Sets.is_loser, State.{State, my_address}, Tables.row_at, Unicast.{route, rp_of, rp_route}}}
use Rattle.law_events.{specs.Rest.IsAtRest}
use Rattle.law_streams.{specs.{Copies.happens, Joins.{Hears, HoldsTree, IsWritable, join_packet, join_value}, Timed.AreTimed, Ways.IsGroup, SourceTreeClimbing.IsSource}}

-- ---- what is joined

-- what is joined: a group, with its RP, by Joins(*,G); or a source of a group, by Joins(S,G)
pub data Join : Type 0 where
  Star : (rp : ℕ) → Join
  Source : (src : ℕ) → Join

-- The source that is joined, if it isn't a group.
abbrev pub source_of : Join → Option ℕ
source_of (Star rp) = None
source_of (Source src) = Some src

-- (*,G) or (S,G) on an interface
abbrev pub join_key : Join → ℕ → ℕ → Key
join_key x i g = key_of i g (source_of x) false

-- The entry of a Join/Prune for what is joined.
abbrev pub entry_of : Join → Entry
entry_of (Star rp) = entry EntryKind.Star rp
entry_of (Source src) = entry EntryKind.Source src

-- what is joined has addresses that a Join may have
abbrev pub IsJoin : Join → ℕ → Type 0
IsJoin (Star rp) g = IsGroup g rp
IsJoin (Source src) g = IsSource g src

-- JoinDesired(*,G) or JoinDesired(S,G)
abbrev pub is_wanted : Join → State → ℕ → Bool
is_wanted (Star rp) s g = join_desired_star s g
is_wanted (Source src) s g = join_desired s g src

-- the router's RP of the group is that one; of a source nothing is asked
abbrev pub IsRp : Join → State → ℕ → Type 0
IsRp (Star rp) s g = rp_of s g ≡ Some rp
IsRp (Source src) s g = Unit {0}

-- the route to the RP, or to the source
abbrev pub way_to : Join → State → ℕ → Option Path
way_to (Star rp) s g = rp_route s g
way_to (Source src) s g = route s src

-- RPF'(*,G) or RPF'(S,G)
abbrev pub rpf_of : Join → State → ℕ → Option Hop
rpf_of (Star rp) s g = rpf_star s g
rpf_of (Source src) s g = rpf_source s g src

-- the assert of (*,G) or of (S,G) on an interface is lost
abbrev pub is_lost_at : Join → State → ℕ → ℕ → Bool
is_lost_at x s g i = is_loser (row_at s.asserts (join_key x i g))

-- ---- two routers on a link

-- two routers on a link: the lower one wants a group or source, and its Joins go to the upper one
pub record Pair : Type 0 where
  pub lower : ℕ
  pub upper : ℕ
  pub link : ℕ
  -- the lower one's interface to the link and the upper one's address there, which is its next hop to the RP, or to the source
  pub hop : Hop
  -- the lower one's address there
  pub from : ℕ
  -- the upper one's interface to the link
  pub down : ℕ

-- a router joins over the upper one: its next hop to RP(G), or to the source, which is a live neighbour, and no assert
-- of what is joined is lost on the link
pub record GoesUp (x : Join) (g : ℕ) (c : Pair) (st : Station) : Type 0 where
  pub rp_known : IsRp x st.state g
  pub next : nbr st.state (way_to x st.state g) ≡ Some c.hop
  pub unlost : is_lost_at x st.state g (c.hop).iface.number ≡ false
  pub own : my_address st.state (c.hop).iface.number ≡ c.from
  pub linked : slice_get st.links (c.hop).iface.number ≡ Some c.link

-- the upper one's interface is up, and the lower one a live neighbour there
pub record Listens (x : Join) (g : ℕ) (c : Pair) (st : Station) : Type 0 where
  pub rp_known : IsRp x st.state g
  pub hears : Hears st.state c.down c.from
  pub own : my_address st.state c.down ≡ (c.hop).address.bits
  pub linked : slice_get st.links c.down ≡ Some c.link

pub record AreThere (x : Join) (g : ℕ) (c : Pair) (n : Network) : Type 0 where
  pub below : Station
  pub below_is : station_at n c.lower ≡ Some below
  pub goes_up : GoesUp x g c below
  pub above : Station
  pub above_is : station_at n c.upper ≡ Some above
  pub listens : Listens x g c above

-- a router wants the group, or the source
pub record Wants (x : Join) (g r : ℕ) (n : Network) : Type 0 where
  pub station : Station
  pub there : station_at n r ≡ Some station
  pub wanted : is_wanted x station.state g ≡ true

-- the upper router holds the lower one's Join beyond its present time, and nobody is pruning it
pub record IsHeld (x : Join) (g : ℕ) (c : Pair) (n : Network) : Type 0 where
  pub station : Station
  pub there : station_at n c.upper ≡ Some station
  pub end : ℕ
  pub later : (station.state).present < end
  pub holds : HoldsTree station.state (join_key x c.down g) (Some end)

-- before the first of the moves, and after each
abbrev pub Always : (Network → Type 0) → Network → List Move → Type 0
Always P n [] = P n
Always P n (m ∷ ms) = P n × Always P (moved n m).1 ms

-- ---- time

-- the time at a router, from when each router started; all times are in ms
abbrev pub time_at : (ℕ → ℕ) → ℕ → Station → ℕ
time_at started r st = (st.state).present + started r

-- A router's present time isn't past a timestamp.
abbrev pub IsBy : (ℕ → ℕ) → (r moment : ℕ) → Network → Type 0
IsBy started r moment n = (st : Station) → station_at n r ≡ Some st → time_at started r st ≤ moment

-- ---- a frame comes in time

-- a Join from the lower one to the upper one, with the sources that it prunes off the group's tree
abbrev pub prunes_of : List ℕ → List Entry
prunes_of pruned = map (entry EntryKind.SourceRpt) pruned

abbrev pub frame_of : Join → ℕ → Pair → List ℕ → Sent
frame_of x g c pruned = record {
  link = Some c.link;
  bytes = join_packet c.from (c.hop).address.bits g (entry_of x) (prunes_of pruned);
}

-- the move delivers the frame of a number to the upper one, no sooner than it was sent, and there is room for what it
-- says
pub record IsTaken (x : Join) (g : ℕ) (started : ℕ → ℕ) (c : Pair) (pruned : List ℕ) (number sent : ℕ) (n : Network) (m : Move) : Type 0 where
  pub draw : ℕ
  pub is : m ≡ Deliver c.upper c.down number draw
  pub after : (st : Station) → station_at n c.upper ≡ Some st → sent ≤ time_at started c.upper st
  pub room : (st : Station) → station_at n c.upper ≡ Some st
      → is_full st.state (Accepted.JoinPruneToMe (record { number = c.down })
      (join_value (c.hop).address.bits g (entry_of x) (prunes_of pruned))) ≡ false

-- the frame is delivered before the upper one's time is past d after it was sent, if the moves go so far
abbrev pub ComesBy : Join → (g d : ℕ) → (ℕ → ℕ) → Pair → List ℕ → (number sent : ℕ) → Network → List Move → Type 0
ComesBy x g d started c pruned number sent n [] = Unit {0}
ComesBy x g d started c pruned number sent n (m ∷ ms) =
    IsTaken x g started c pruned number sent n m
    ⊎ (IsBy started c.upper (sent + d) (moved n m).1
    × ComesBy x g d started c pruned number sent (moved n m).1 ms)

-- ---- what is asked of each move

-- a Join/Prune to the router prunes it on the interface
abbrev pub prunes_it : Join → ℕ → ℕ → Option Accepted → Bool
prunes_it x g i (Some (Accepted.JoinPruneToMe j m)) =
    (j.number == i) && is_named (pruned_keys j.number m) (join_key x i g)
prunes_it x g i o = false

-- A Join that a router sees to the same neighbour, for which it would suppress its own Join of the group or source.
abbrev pub is_suppressed : Join → State → ℕ → Hop → Option Accepted → Bool
is_suppressed x s g hop (Some (Accepted.JoinPruneSeen j m)) =
    ((j.number == hop.iface.number) && (m.upstream == hop.address.bits))
    && is_named (joined_keys s j.number m) (join_key x j.number g)
is_suppressed x s g hop o = false

-- a third of what the holdtime of a Join (210 s) is beyond the longest suppression (84 s)
abbrev pub most_late_shared : ℕ
most_late_shared = 42000

-- the upper router holds what is joined beyond its present time, and until a timestamp at least
pub record HoldsTo (x : Join) (g : ℕ) (started : ℕ → ℕ) (c : Pair) (limit : ℕ) (n : Network) : Type 0 where
  pub station : Station
  pub there : station_at n c.upper ≡ Some station
  pub end : ℕ
  pub later : (station.state).present < end
  pub holds : HoldsTree station.state (join_key x c.down g) (Some end)
  pub lasts : limit ≤ end + started c.upper

-- before the upper one's time is past d after a Join was sent, it holds what is joined until 210 s after that
abbrev pub IsHeldSoon : Join → (g d : ℕ) → (ℕ → ℕ) → Pair → (sent : ℕ) → Network → List Move → Type 0
IsHeldSoon x g d started c sent n [] = Unit {0}
IsHeldSoon x g d started c sent n (m ∷ ms) =
    IsBy started c.upper (sent + d) (moved n m).1
    × (HoldsTo x g started c (sent + 210000) (moved n m).1 ⊎ IsHeldSoon x g d started c sent (moved n m).1 ms)

-- a Join of another router that the lower one saw at a move comes to both within d, which is below 42 s; n is the
-- network before the move
pub record ComesToBoth (x : Join) (g d : ℕ) (started : ℕ → ℕ) (c : Pair) (n : Network) (m : Move) (ms : List Move) : Type 0 where
  pub few : d < most_late_shared
  pub sent : ℕ
  -- the lower one sees it within d, and no sooner than it was sent
  pub seen : (st : Station) → station_at n c.lower ≡ Some st → time_at started c.lower st ≤ sent + d
  pub after : (st : Station) → station_at (moved n m).1 c.lower ≡ Some st → sent ≤ time_at started c.lower st
  -- so does the upper one
  pub comes : HoldsTo x g started c (sent + 210000) (moved n m).1 ⊎ IsHeldSoon x g d started c sent (moved n m).1 ms

pub record IsInTime (x : Join) (g d : ℕ) (started : ℕ → ℕ) (c : Pair) (n : Network) (m : Move) (ms : List Move) : Type 0 where
  -- the lower one's Join timer is at most d late, by the time at either router
  pub timer : (st : Station) (row : JoinTimerRow) → station_at n c.lower ≡ Some st
      → row_at (st.state).join_timers (join_key x 0 g) ≡ Some row
      → IsBy started c.lower (row.end + started c.lower + d) (moved n m).1
      × IsBy started c.upper (row.end + started c.lower + d) (moved n m).1
  -- each Join of the lower router prunes sources that are addresses of hosts, and comes within d
  pub joins : (e : Event) (st : Station) (number : ℕ) (pruned : List ℕ) → event_of n m ≡ Some (c.lower, e)
      → station_at (moved n m).1 c.lower ≡ Some st → length n.frames < number
      → frame_at (moved n m).1 number ≡ Some (frame_of x g c pruned)
      → IsWritable c.from (c.hop).address.bits g (entry_of x) (prunes_of pruned)
      × ComesBy x g d started c pruned number (time_at started c.lower st) (moved n m).1 ms
  -- nobody prunes the group, or the source, at the upper router
  pub unpruned : (e : Event) (st : Station) → event_of n m ≡ Some (c.upper, e) → station_at n c.upper ≡ Some st
      → prunes_it x g c.down (done_as (happens st.state e)) ≡ false
  -- each Join of another router, for which the lower one holds its own back, comes to both
  pub shared : (e : Event) (st : Station) → event_of n m ≡ Some (c.lower, e) → station_at n c.lower ≡ Some st
      → is_suppressed x st.state g c.hop (done_as (happens st.state e)) ≡ true → ComesToBoth x g d started c n m ms

abbrev pub AreInTime : Join → (g d : ℕ) → (ℕ → ℕ) → Pair → Network → List Move → Type 0
AreInTime x g d started c n [] = Unit {0}
AreInTime x g d started c n (m ∷ ms) =
    IsInTime x g d started c n m ms × AreInTime x g d started c (moved n m).1 ms

-- ---- the law

-- The router is ready, as it is after any events.
pub record IsReady (r : ℕ) (n : Network) : Type 0 where
  pub station : Station
  pub there : station_at n r ≡ Some station
  pub at_rest : IsAtRest station.state
  pub timed : AreTimed station.state

-- to begin with, the upper one holds a Join until 2 d after the lower one's next at least, by the time at both
pub record IsCovered (x : Join) (g d : ℕ) (started : ℕ → ℕ) (c : Pair) (n : Network) : Type 0 where
  pub below : Station
  pub below_is : station_at n c.lower ≡ Some below
  pub above : Station
  pub above_is : station_at n c.upper ≡ Some above
  pub end : ℕ
  pub later : (above.state).present < end
  pub holds : HoldsTree above.state (join_key x c.down g) (Some end)
  pub lasts : (row : JoinTimerRow) → row_at (below.state).join_timers (join_key x 0 g) ≡ Some row
      → row.end + started c.lower + 2 * d < end + started c.upper

-- half of what the holdtime of a Join (210 s) is beyond its period (60 s)
abbrev pub most_late : ℕ
most_late = 75000

pub record ComeInTime (x : Join) (g d : ℕ) (started : ℕ → ℕ) (c : Pair) (n : Network) (ms : List Move) : Type 0 where
  pub apart : (c.lower == c.upper) ≡ false
  pub lower_ready : IsReady c.lower n
  pub upper_ready : IsReady c.upper n
  pub covered : IsCovered x g d started c n
  pub there : Always (AreThere x g c) n ms
  pub in_time : AreInTime x g d started c n ms

-- However many moves there are, while the lower one wants the group, or the source, the upper one holds it, whoever's
-- Joins refresh it.
abbrev pub JoinsAreShared : Type 0
JoinsAreShared = (x : Join) (g d : ℕ) (started : ℕ → ℕ) (c : Pair) (n : Network) (ms : List Move)
    → IsJoin x g → d < most_late → ComeInTime x g d started c n ms → Always (Wants x g c.lower) n ms
    → Always (IsHeld x g c) n ms

-- ---- it comes to be held

-- after each move the upper one's time isn't past a bound yet, or it holds what is joined
abbrev pub IsHeldAfter : Join → (g : ℕ) → (ℕ → ℕ) → Pair → (bound : ℕ) → Network → List Move → Type 0
IsHeldAfter x g started c bound n [] = Unit {0}
IsHeldAfter x g started c bound n (m ∷ ms) =
    (IsBy started c.upper bound (moved n m).1 ⊎ IsHeld x g c (moved n m).1)
    × IsHeldAfter x g started c bound (moved n m).1 ms

-- While the lower one wants the group, or the source, the upper one holds it from 2 d after the end of the lower one's
-- present Join timer on, and without end, whether it held it before or not.
abbrev pub JoinsComeToBeHeld : Type 0
JoinsComeToBeHeld = (x : Join) (g d : ℕ) (started : ℕ → ℕ) (c : Pair) (n : Network) (ms : List Move) (st : Station) (row : JoinTimerRow)
    → IsJoin x g → d < most_late → (c.lower == c.upper) ≡ false → IsReady c.lower n → IsReady c.upper n
    → Always (AreThere x g c) n ms → AreInTime x g d started c n ms → Always (Wants x g c.lower) n ms
    → station_at n c.lower ≡ Some st → row_at (st.state).join_timers (join_key x 0 g) ≡ Some row
    → IsHeldAfter x g started c (row.end + started c.lower + 2 * d) n ms

-- ---- along a way

-- the upper one of a pair loses no assert of what is joined where the Joins come
pub record IsUnlost (x : Join) (g : ℕ) (c : Pair) (n : Network) : Type 0 where
  pub station : Station
  pub there : station_at n c.upper ≡ Some station
  pub unlost : is_lost_at x station.state g c.down ≡ false

-- each pair's upper one is the lower one of the next
abbrev pub IsWayUp : Join → (g d : ℕ) → (ℕ → ℕ) → Network → List Move → ℕ → List Pair → Type 0
IsWayUp x g d started n ms r [] = Unit {0}
IsWayUp x g d started n ms r (c ∷ cs) =
    (c.lower ≡ r) × ComeInTime x g d started c n ms × Always (IsUnlost x g c) n ms
    × IsWayUp x g d started n ms c.upper cs

abbrev pub AreHeld : Join → ℕ → Network → List Move → List Pair → Type 0
AreHeld x g n ms [] = Unit {0}
AreHeld x g n ms (c ∷ cs) = Always (IsHeld x g c) n ms × AreHeld x g n ms cs

-- While the first router of a way wants the group, or the source, each of the others holds it, whoever's Joins refresh
-- it.
abbrev pub WayStaysJoined : Type 0
WayStaysJoined = (x : Join) (g d : ℕ) (started : ℕ → ℕ) (n : Network) (ms : List Move) (r : ℕ) (cs : List Pair)
    → IsJoin x g → d < most_late → IsWayUp x g d started n ms r cs → Always (Wants x g r) n ms
    → AreHeld x g n ms cs
