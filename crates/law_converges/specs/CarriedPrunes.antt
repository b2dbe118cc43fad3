-- What is asked of the routers of a link, besides that it carries what is sent there, for a Prune(S,G,rpt) that is overridden to
-- have no effect.
use Rattle.std.{specs.Prelude.{Bool, Some, [], false, nat_lt, slice_get, true, ℕ, ◌+◌, ◌==◌, ◌≡◌, ◌≤◌}}
use Rattle.pim_ip.{specs.Ipv4.is_unicast}
use Rattle.pim_types.{specs.declared.event.Event.Event}
use Rattle.pim_wire.{specs.{Values.JoinPrune, declared.join_prune.EntryKind.EntryKind}}
use Rattle.pim_model.{specs.{declared.accepted.Accepted.Accepted, Cause.done_as, Full.is_full, Messages.entry, Neighbours.{effective_override_interval, neighbour_count}, Network.{Deliver, Move, Network, Sent, Station, event_of, frame_at, station_at}, State.my_address}}
use Rattle.law_streams.{specs.{Copies.happens, Joins.{Hears, join_value}}}
use Rattle.law_converges.{specs.{Carried.{Traffic}, CarriedLinks.pair_of, LinkDr.Member, LinkRpt.{Throughout, WantsFrom, is_pruned_by, joins_source, override_wait, prunes_source, sees_join}, LinkRptOrder.{IsOverride, Wire}}}

-- a router of a link that wants a source down the group's tree, over another one there
pub record Wish : Type 0 where
  pub group : ℕ
  pub source : ℕ
  pub lower : Member
  pub upper : Member
  -- the frames that prune the source off the group's tree at the upper router, and those that are Joins(S,G,rpt) to it
  pub prunes : ℕ → Bool
  pub joins : ℕ → Bool
  -- the propagation delay and the override interval of the link, in ms
  pub propagation : ℕ
  pub interval : ℕ

-- its wire, where the link carries what is sent within d
abbrev pub wire_of : (d late : ℕ) → (ℕ → ℕ) → Traffic → (link : ℕ) → Wish → Wire
wire_of d late started t link w = record {
  pair = pair_of link w.lower w.upper;
  group = w.group;
  source = w.source;
  started = started;
  sent = t.sent;
  prunes = w.prunes;
  within = d;
  late = late;
  propagation = w.propagation;
  interval = w.interval;
}

-- ---- frames

-- a frame that prunes the source is on the link, is no Join(S,G,rpt), and neither router of the two sent it
pub record IsPrune (t : Traffic) (link : ℕ) (w : Wish) (k : ℕ) (f : Sent) : Type 0 where
  pub on : f.link ≡ Some link
  pub only : w.joins k ≡ false
  pub not_lower : (t.by k == (w.lower).router) ≡ false
  pub not_upper : (t.by k == (w.upper).router) ≡ false

-- the Prunes of the source are known, and so is each Join(S,G,rpt) to the upper router, which isn't its own
pub record AreKnown (t : Traffic) (link : ℕ) (w : Wish) (x : Wire) (n : Network) : Type 0 where
  pub prunes : (k : ℕ) (f : Sent) → w.prunes k ≡ true → frame_at n k ≡ Some f → IsPrune t link w k f
  pub joins : (k : ℕ) → IsOverride x n k → w.joins k ≡ true
  pub joins_by : (k : ℕ) → IsOverride x n k → (t.by k == (w.upper).router) ≡ false

-- ---- what comes

-- the upper router takes a Prune of the source, which waits for as long as the link's delays say
pub record TakesPrune (x : Wire) (n : Network) (m : Move) : Type 0 where
  pub station : Station
  pub at : station_at n (x.pair).upper ≡ Some station
  pub event : Event
  pub brought : event_of n m ≡ Some ((x.pair).upper, event)
  pub message : JoinPrune
  pub taken : done_as (happens station.state event) ≡ Some (Accepted.JoinPruneToMe (record { number = (x.pair).down }) message)
  pub named : prunes_source (x.pair).down x.group x.source message ≡ true
  pub unjoined : joins_source station.state (x.pair).down x.group x.source message ≡ false
  pub lasts : (message.holdtime == 0) ≡ false
  pub many : nat_lt 1 (neighbour_count station.state (x.pair).down) ≡ true
  pub waits : x.propagation + x.interval ≤ override_wait station.state (x.pair).down

-- it can hear who sent a Join(S,G,rpt), and has room
pub record TakesJoin (x : Wire) (n : Network) (number : ℕ) : Type 0 where
  pub override : IsOverride x n number
  pub station : Station
  pub at : station_at n (x.pair).upper ≡ Some station
  pub of_host : is_unicast override.from ≡ true
  pub hears : Hears station.state (x.pair).down override.from
  pub own : my_address station.state (x.pair).down ≡ ((x.pair).hop).address.bits
  pub linked : slice_get station.links (x.pair).down ≡ Some (x.pair).link
  pub room : is_full station.state (Accepted.JoinPruneToMe (record { number = (x.pair).down })
      (join_value ((x.pair).hop).address.bits x.group (entry EntryKind.SourceRpt x.source) [])) ≡ false

-- the lower router sees a Prune of the source
pub record SeesPrune (x : Wire) (n : Network) (m : Move) : Type 0 where
  pub station : Station
  pub at : station_at n (x.pair).lower ≡ Some station
  pub event : Event
  pub brought : event_of n m ≡ Some ((x.pair).lower, event)
  pub message : JoinPrune
  pub taken : done_as (happens station.state event) ≡ Some (Accepted.JoinPruneSeen ((x.pair).hop).iface message)
  pub to : (message.upstream == ((x.pair).hop).address.bits) ≡ true
  pub named : prunes_source ((x.pair).hop).iface.number x.group x.source message ≡ true
  pub unjoined : joins_source station.state ((x.pair).hop).iface.number x.group x.source message ≡ false
  pub interval : effective_override_interval station.state ((x.pair).hop).iface.number ≤ x.interval

-- the move delivers a frame of these to a router's interface
pub record Brings (frames : ℕ → Bool) (r i : ℕ) (m : Move) : Type 0 where
  pub number : ℕ
  pub draw : ℕ
  pub is : m ≡ Deliver r i number draw
  pub among : frames number ≡ true

-- such frames are taken and seen so, and nothing else prunes the source at the upper router, or joins it as the lower one sees
pub record WishKeeps (w : Wish) (x : Wire) (n : Network) (m : Move) : Type 0 where
  pub upper_prune : Brings w.prunes (x.pair).upper (x.pair).down m → TakesPrune x n m
  pub upper_join : (f : Brings w.joins (x.pair).upper (x.pair).down m) → TakesJoin x n f.number
  pub lower_prune : Brings w.prunes (x.pair).lower ((x.pair).hop).iface.number m → SeesPrune x n m
  pub lower_join : (f : Brings w.joins (x.pair).lower ((x.pair).hop).iface.number m) → IsOverride x n f.number
  pub pruned : (e : Event) (st : Station) → event_of n m ≡ Some ((x.pair).upper, e) → station_at n (x.pair).upper ≡ Some st
      → is_pruned_by (x.pair).down x.group x.source (done_as (happens st.state e)) ≡ true
      → Brings w.prunes (x.pair).upper (x.pair).down m
  pub joined : (e : Event) (st : Station) → event_of n m ≡ Some ((x.pair).lower, e) → station_at n (x.pair).lower ≡ Some st
      → sees_join x.group x.source (x.pair).hop st.state (done_as (happens st.state e)) ≡ true
      → Brings w.joins (x.pair).lower ((x.pair).hop).iface.number m
  -- the lower router wants the source throughout, over the link
  pub below : Station
  pub below_is : station_at n (x.pair).lower ≡ Some below
  pub wants : (e : Event) (st : Station) → event_of n m ≡ Some ((x.pair).lower, e) → station_at n (x.pair).lower ≡ Some st
      → Throughout (WantsFrom x.group x.source (x.pair).hop (x.pair).from) st.state e (done_as (happens st.state e))
  pub linked : (st : Station) → station_at n (x.pair).lower ≡ Some st
      → slice_get st.links ((x.pair).hop).iface.number ≡ Some (x.pair).link
