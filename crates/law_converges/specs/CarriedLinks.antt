-- What each law of a link asks besides that what is sent there comes to all in order and soon: that a router can hear what comes,
-- and that nothing ends sooner what it has heard.
use Rattle.std.{specs.Prelude.{List, Some, false, length, slice_get, true, ℕ, ◌*◌, ◌+◌, ◌<◌, ◌==◌, ◌≡◌, ◌≤◌}}
use Rattle.pim_ip.{specs.{Addr.addr, Ipv4.is_unicast}}
use Rattle.pim_types.{specs.declared.{config.Settings.Settings, event.Event.Event, fact.AssertMetric.AssertMetric}}
use Rattle.pim_wire.{specs.Hellos.hello_holdtime}
use Rattle.pim_model.{specs.{declared.accepted.Accepted.Accepted, Cause.done_as, Full.{hello_is_full, is_full}, Network.{Deliver, Move, Network, Station, event_of, frame_at, moved, station_at}, Querier.is_lower_querier, Tables.hop_at}}
use Rattle.law_streams.{specs.{Adjacent.{Adjacent, begins_or_ends, shortens}, Copies.happens, Hellos.Listens, InTimeJoins.{Always, IsReady, Join, Pair, entry_of, frame_of, is_suppressed, prunes_it, prunes_of}, Joins.{Hears, IsWritable, join_value}, Neighbours.HoldsNeighbour, Shared.frame_from}}
use Rattle.law_converges.{specs.{Carried.{EachMove, Traffic}, LinkAsserts.{CanGiveWay, IsSayable, assert_packet, is_about, said}, LinkDr.{AreOfMembers, ForgetsBy, GreetsBy, IsOne, Member, Stands, between}, LinkLosers.{KeepsLoss, LosesUntil, Wins, loser_key, survives, winner_of}, LinkQuerier.{Asks, HoldsBack, KeepsLead, LeadsBy, cuts, general_of, interval_of, present_for}}}

-- ---- Hellos

-- a router can hear the Hellos of another, and has room for a neighbour
pub record HearsHello (c : Adjacent) (n : Network) : Type 0 where
  pub station : Station
  pub there : station_at n c.upper ≡ Some station
  pub linked : slice_get station.links c.down ≡ Some c.link
  pub listens : Listens station.state c.down c.address
  pub room : hello_is_full station.state c.down c.address hello_holdtime ≡ false

pub record HelloKeeps (c : Adjacent) (n : Network) (m : Move) : Type 0 where
  pub hears : (number draw : ℕ) → m ≡ Deliver c.upper c.down number draw → HearsHello c n
  -- neither interface begins or ends, and no Hello ends sooner than the one before
  pub sender_stays : (e : Event) (st : Station) → event_of n m ≡ Some (c.lower, e) → station_at n c.lower ≡ Some st
      → begins_or_ends c.iface (done_as (happens st.state e)) ≡ false
  pub receiver_stays : (e : Event) (st : Station) → event_of n m ≡ Some (c.upper, e) → station_at n c.upper ≡ Some st
      → begins_or_ends c.down (done_as (happens st.state e)) ≡ false
  pub lengthens : (e : Event) (st : Station) (end : ℕ) → event_of n m ≡ Some (c.upper, e) → station_at n c.upper ≡ Some st
      → HoldsNeighbour st.state c.down c.address end → shortens st.state c.down c.address end (done_as (happens st.state e)) ≡ false

-- the routers of a link, of which each can hear the Hellos of each other
pub record Meet (d bound : ℕ) (started : ℕ → ℕ) (link : ℕ) (members : List Member) (n : Network) (ms : List Move) : Type 0 where
  pub apart : (x y : Member) → IsOne members x → IsOne members y → x.address ≡ y.address → x ≡ y
  pub ready : (x : Member) → IsOne members x → IsReady x.router n
  pub stand : (x : Member) → IsOne members x → Always (Stands link x) n ms
  pub greet : (x : Member) → IsOne members x → GreetsBy d bound started x n
  pub hear : (x y : Member) → IsOne members x → IsOne members y → (x.router == y.router) ≡ false
      → EachMove (HelloKeeps (between link x y)) n ms
  pub alone : (y : Member) → IsOne members y → AreOfMembers members y n ms
  pub forget : (y : Member) → IsOne members y → ForgetsBy bound started members y n

-- ---- queries

-- a router of a higher address can hear another's queries, by which it takes that for the querier for long enough
pub record HearsQuery (t : Settings) (hold : ℕ) (c : Adjacent) (n : Network) : Type 0 where
  pub station : Station
  pub there : station_at n c.upper ≡ Some station
  pub linked : slice_get station.links c.down ≡ Some c.link
  pub listens : Listens station.state c.down c.address
  pub lower : is_lower_querier station.state c.down c.address ≡ true
  pub lasts : hold ≤ present_for (station.state).settings (general_of t)

pub record QueryKeeps (t : Settings) (hold : ℕ) (c : Adjacent) (n : Network) (m : Move) : Type 0 where
  pub hears : (number draw : ℕ) → m ≡ Deliver c.upper c.down number draw → HearsQuery t hold c n
  pub follows : (e : Event) (st : Station) → event_of n m ≡ Some (c.upper, e) → station_at n c.upper ≡ Some st
      → begins_or_ends c.down (done_as (happens st.state e)) ≡ false
  pub lengthens : (e : Event) (st : Station) (end : ℕ) → event_of n m ≡ Some (c.upper, e) → station_at n c.upper ≡ Some st
      → HoldsBack st.state c.down end → cuts st.state c.down end (done_as (happens st.state e)) ≡ false

-- the routers of a link, of which each can hear the queries of that with the lowest address
pub record Ask (t : Settings) (hold d bound : ℕ) (started : ℕ → ℕ) (link : ℕ) (first : Member) (others : List Member) (n : Network)
    (ms : List Move) : Type 0 where
  pub often : interval_of t + 2 * d < hold
  pub robust : t.robustness < 8
  pub asks : Always (Asks t (between link first first)) n ms
  pub leads : LeadsBy t d bound started (between link first first) n
  pub keeps : KeepsLead (between link first first) n ms
  pub apart : (y : Member) → IsOne others y → (first.router == y.router) ≡ false
  pub hear : (y : Member) → IsOne others y → EachMove (QueryKeeps t hold (between link first y)) n ms

-- ---- Joins

-- two routers of a link, of which one joins over the other
abbrev pub pair_of : (link : ℕ) → Member → Member → Pair
pair_of link x y = record { lower = x.router; upper = y.router; link = link; hop = hop_at x.iface y.address; from = x.address; down = y.iface }

-- the move shows the lower one a Join of another router to the upper one
pub record SeesJoin (x : Join) (g : ℕ) (c : Pair) (n : Network) (m : Move) : Type 0 where
  pub number : ℕ
  pub draw : ℕ
  pub is : m ≡ Deliver c.lower (c.hop).iface.number number draw
  pub from : ℕ
  pub pruned : List ℕ
  pub framed : frame_at n number ≡ Some (frame_from x g c from pruned)
  pub writable : IsWritable from (c.hop).address.bits g (entry_of x) (prunes_of pruned)

pub record JoinKeeps (x : Join) (g : ℕ) (t : Traffic) (c : Pair) (n : Network) (m : Move) : Type 0 where
  -- a Join of the lower one prunes sources that are addresses of hosts
  pub writable : (e : Event) (st : Station) (number : ℕ) (pruned : List ℕ) → event_of n m ≡ Some (c.lower, e)
      → station_at (moved n m).1 c.lower ≡ Some st → length n.frames < number
      → frame_at (moved n m).1 number ≡ Some (frame_of x g c pruned)
      → IsWritable c.from (c.hop).address.bits g (entry_of x) (prunes_of pruned)
  -- the upper one has room for whoever joins over it, and joins nothing over itself
  pub room : (number draw from : ℕ) (pruned : List ℕ) (st : Station) → m ≡ Deliver c.upper c.down number draw
      → frame_at n number ≡ Some (frame_from x g c from pruned) → station_at n c.upper ≡ Some st
      → is_full st.state (Accepted.JoinPruneToMe (record { number = c.down })
      (join_value (c.hop).address.bits g (entry_of x) (prunes_of pruned))) ≡ false
  pub others : (number from : ℕ) (pruned : List ℕ) → frame_at (moved n m).1 number ≡ Some (frame_from x g c from pruned)
      → (t.by number == c.upper) ≡ false
  -- nobody prunes what is joined at the upper one
  pub unpruned : (e : Event) (st : Station) → event_of n m ≡ Some (c.upper, e) → station_at n c.upper ≡ Some st
      → prunes_it x g c.down (done_as (happens st.state e)) ≡ false
  -- the lower one holds its own Join back for none but another's to the upper one
  pub shared : (e : Event) (st : Station) → event_of n m ≡ Some (c.lower, e) → station_at n c.lower ≡ Some st
      → is_suppressed x st.state g c.hop (done_as (happens st.state e)) ≡ true → SeesJoin x g c n m

-- the upper one can hear whoever joins over it
pub record HearsJoins (x : Join) (g : ℕ) (c : Pair) (n : Network) (m : Move) : Type 0 where
  pub hears : (number draw from : ℕ) (pruned : List ℕ) (st : Station) → is_unicast from ≡ true
      → m ≡ Deliver c.upper c.down number draw → frame_at n number ≡ Some (frame_from x g c from pruned) → station_at n c.upper ≡ Some st → Hears st.state c.down from

-- ---- asserts

-- a router gives way to the winner's Assert, and its assert needn't go
pub record GivesWay (g src : ℕ) (metric : AssertMetric) (c : Adjacent) (draw : ℕ) (n : Network) : Type 0 where
  pub station : Station
  pub there : station_at n c.upper ≡ Some station
  pub can : CanGiveWay g src metric c station
  pub stays : survives (loser_key g src metric c) (winner_of g src metric c) station.state draw
      (Some (Accepted.Assert (record { number = c.down }) (addr c.address) (said g src metric))) ≡ true

pub record LoserKeeps (g src : ℕ) (metric : AssertMetric) (c : Adjacent) (n : Network) (m : Move) : Type 0 where
  pub gives : (number draw : ℕ) → m ≡ Deliver c.upper c.down number draw
      → frame_at n number ≡ Some (record { link = Some c.link; bytes = assert_packet c.address g src metric })
      → GivesWay g src metric c draw n
  -- nothing ends the loss sooner
  pub keeps : (e : Event) (st : Station) (end : ℕ) → event_of n m ≡ Some (c.upper, e) → station_at n c.upper ≡ Some st
      → LosesUntil st.state (loser_key g src metric c) (winner_of g src metric c) end
      → KeepsLoss st.state (loser_key g src metric c) (winner_of g src metric c) end e

-- one router wins, and another gives way to it
pub record Yields (g src : ℕ) (metric : AssertMetric) (c : Adjacent) (n : Network) (ms : List Move) : Type 0 where
  pub sayable : IsSayable c.address g src metric
  pub about : is_about (said g src metric) ≡ true
  pub wins : Always (Wins g src metric c) n ms
  pub hears : EachMove (LoserKeeps g src metric c) n ms
