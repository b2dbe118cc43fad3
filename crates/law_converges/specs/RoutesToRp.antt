-- Ways that follow the routes: where the routers' routes to the RP, or to the source, lead over LANs, and without a loop, there is a
-- way from each router, and it comes to be joined when the router wants the group. Where an assert is lost on a LAN, the way is over its
-- winner. So the ways needn't be given, nor need the routers be neighbours to begin with (RFC 7761, 4.1.5 and 4.5.4).
use Rattle.std.{specs.{List.AllByRecursion, Prelude.{List, Option, Some, [], false, length, map, suc, true, zero, ℕ, ◌*◌, ◌+◌, ◌<◌, ◌==◌, ◌∷◌, ◌≡◌, ◌≤◌}}}
use Rattle.pim_ip.{specs.Ipv4.is_unicast}
use Rattle.pim_types.{specs.declared.{fact.AssertRow.AssertRow, path.Path.Path}}
use Rattle.pim_model.{specs.{Network.{Deliver, Move, Network, Station, frame_at, station_at}, Sets.is_loser, State.{State, is_own}, Tables.{hop_at, row_at}, Unicast.is_connected}}
use Rattle.law_streams.{specs.{Adjacent.most_late_hello, InTimeJoins.{Always, IsHeld, IsJoin, IsReady, IsRp, Join, Pair, Source, Star, Wants, is_lost_at, join_key, rpf_of, way_to}, Shared.frame_from}}
use Rattle.law_converges.{specs.{Carried.{Arrivals, EachMove, IsCarried, Traffic}, CarriedLinks.{HelloKeeps, JoinKeeps}, CarriedNetwork.{AreOn, HopOn, IsOneLan, Lan, number_of}, CarriedWays.pair_on, JoinedWays.{AreTogether, IsNear, a_hop}, LinkDr.{GreetsBy, IsOne, Member, Stands, between}, Past.HoldsPast, Settles.routers}}

-- ---- the LANs

-- what is sent on a LAN comes to all of its routers within d and in order, and each can hear the Hellos of each other, of which the next
-- leaves 2 d before a bound at the latest
pub record LanMeets (d late bound : ℕ) (started : ℕ → ℕ) (t : Traffic) (came : Arrivals) (n : Network) (ms : List Move) (a : Lan) : Type 0 where
  pub carried : IsCarried d late started t came (number_of a) (routers a.link) (length n.frames) n ms
  pub ready : (x : Member) → IsOne (routers a.link) x → IsReady x.router n
  pub stand : (x : Member) → IsOne (routers a.link) x → Always (Stands (number_of a) x) n ms
  pub hear : (x y : Member) → IsOne (routers a.link) x → IsOne (routers a.link) y → (x.router == y.router) ≡ false
      → EachMove (HelloKeeps (between (number_of a) x y)) n ms
  pub greet : (x : Member) → IsOne (routers a.link) x → GreetsBy d bound started x n

-- ---- what the routes say

-- the next hop of each router, and how far the router is from the RP, or from the source: a number that falls at each next hop, and
-- none where no route leads there
pub record Routing : Type 0 where
  pub next : ℕ → HopOn
  pub distance : ℕ → Option ℕ

abbrev pub hops_after : Option ℕ → HopOn → List HopOn → List HopOn
hops_after (Some (suc k)) h hs = h ∷ hs
hops_after o h hs = []

-- at most so many next hops from a router up, until one is at distance 0
abbrev pub hops_up : Routing → (most r : ℕ) → List HopOn
hops_up routing zero r = []
hops_up routing (suc most) r =
    hops_after (routing.distance r) (routing.next r) (hops_up routing most ((routing.next r).upper).router)

-- the RP itself, or a router on the source's link
abbrev pub IsTop : Join → (g : ℕ) → State → Type 0
IsTop (Star rp) g s = is_own s rp ≡ true
IsTop (Source src) g s = is_connected s src ≡ true

pub record EndsAt (x : Join) (g r : ℕ) (n : Network) : Type 0 where
  pub station : Station
  pub there : station_at n r ≡ Some station
  pub top : IsTop x g station.state

-- the route of the lower router of a hop to its RP, or to the source, is over the LAN, and both have that RP
pub record IsRouted (x : Join) (g : ℕ) (h : HopOn) (n : Network) : Type 0 where
  pub below : Station
  pub below_is : station_at n (h.lower).router ≡ Some below
  pub rp_below : IsRp x below.state g
  pub path : Path
  pub route : way_to x below.state g ≡ Some path
  pub over : path.iface.number ≡ (h.lower).iface
  pub above : Station
  pub above_is : station_at n (h.upper).router ≡ Some above
  pub rp_above : IsRp x above.state g
  -- the lower one's address isn't one of the upper one
  pub foreign : is_own above.state (h.lower).address ≡ false

-- the route of the lower router of a hop names the upper one
pub record IsNamed (x : Join) (g : ℕ) (h : HopOn) (n : Network) : Type 0 where
  pub station : Station
  pub there : station_at n (h.lower).router ≡ Some station
  pub path : Path
  pub route : way_to x station.state g ≡ Some path
  pub to : path.next_hop.bits ≡ (h.upper).address

-- a router's route is over a LAN, and its next hop there is nearer by one at least
pub record LeadsUp (x : Join) (g : ℕ) (lans : List Lan) (routing : Routing) (n : Network) (ms : List Move) (r k : ℕ) : Type 0 where
  pub from : ((routing.next r).lower).router ≡ r
  pub among : IsOneLan lans (routing.next r).lan
  pub on : AreOn (routing.next r).lan (routing.next r).lower (routing.next r).upper
  pub rest : ℕ
  pub nearer : rest ≤ k
  pub distance : routing.distance ((routing.next r).upper).router ≡ Some rest
  pub routed : Always (IsRouted x g (routing.next r)) n ms

-- so it is with each router at a distance; at 0 is none but the RP, or a router on the source's link
pub record RoutesLead (x : Join) (g : ℕ) (lans : List Lan) (routing : Routing) (n : Network) (ms : List Move) : Type 0 where
  pub top : (r : ℕ) → routing.distance r ≡ Some 0 → Always (EndsAt x g r) n ms
  pub up : (r k : ℕ) → routing.distance r ≡ Some (suc k) → LeadsUp x g lans routing n ms r k

-- Whom the lower router of a hop joins over, on the LAN of its route: whom the route names, where the assert of what is joined isn't lost
-- there; or the winner of the assert that is lost there.
pub data Chooses (x : Join) (g : ℕ) (h : HopOn) (s : State) : Type 0 where
  ByRoute : (p : Path) → way_to x s g ≡ Some p → p.next_hop.bits ≡ (h.upper).address → is_lost_at x s g (h.lower).iface ≡ false
      → Chooses x g h s
  ByAssert : (r : AssertRow) → row_at s.asserts (join_key x (h.lower).iface g) ≡ Some r → is_loser (Some r) ≡ true
      → r.winner.address.bits ≡ (h.upper).address → Chooses x g h s

-- that is the upper one, which hasn't lost the assert of what is joined there
pub record IsChosen (x : Join) (g : ℕ) (h : HopOn) (n : Network) : Type 0 where
  pub below : Station
  pub below_is : station_at n (h.lower).router ≡ Some below
  pub chooses : Chooses x g h below.state
  pub above : Station
  pub above_is : station_at n (h.upper).router ≡ Some above
  pub unlost_above : is_lost_at x above.state g (h.upper).iface ≡ false

-- from a bound on each router at a distance but 0 chooses its next hop so
abbrev pub AreChosen : Join → (g bound : ℕ) → (ℕ → ℕ) → Routing → Network → List Move → Type 0
AreChosen x g bound started routing n ms =
    (r k : ℕ) → routing.distance r ≡ Some (suc k) → HoldsPast started bound (IsChosen x g (routing.next r)) n ms

pub record AreRouted (x : Join) (g d late bound : ℕ) (started : ℕ → ℕ) (t : Traffic) (came : Arrivals) (lans : List Lan) (routing : Routing)
    (n : Network) (ms : List Move) : Type 0 where
  pub few : d < most_late_hello
  pub meet : AllByRecursion (LanMeets d late bound started t came n ms) lans
  pub lead : RoutesLead x g lans routing n ms
  pub chosen : AreChosen x g bound started routing n ms

-- ---- there is a way

-- the upper router of a hop is RPF' of the lower one
pub record IsRpf (x : Join) (g : ℕ) (h : HopOn) (n : Network) : Type 0 where
  pub station : Station
  pub there : station_at n (h.lower).router ≡ Some station
  pub rpf : rpf_of x station.state g ≡ Some (hop_at (h.lower).iface (h.upper).address)

-- hops from a router on, of which each is over RPF' of the router before, from a bound on, to the RP, or to a router on the source's
-- link
abbrev pub AreRpf : Join → (g bound : ℕ) → (ℕ → ℕ) → List Lan → Network → List Move → ℕ → List HopOn → Type 0
AreRpf x g bound started lans n ms r [] = Always (EndsAt x g r) n ms
AreRpf x g bound started lans n ms r (h ∷ hs) =
    ((h.lower).router ≡ r) × IsOneLan lans h.lan × AreOn h.lan h.lower h.upper × HoldsPast started bound (IsRpf x g h) n ms
    × AreRpf x g bound started lans n ms (h.upper).router hs

-- The next hops of a router at a finite distance are such a way to the RP, or to the source, and no more than that.
pub record HasWayUp (x : Join) (g bound : ℕ) (started : ℕ → ℕ) (lans : List Lan) (routing : Routing) (n : Network) (ms : List Move) (r k : ℕ)
    : Type 0 where
  pub few : length (hops_up routing k r) ≤ k
  pub way : AreRpf x g bound started lans n ms r (hops_up routing k r)

abbrev pub RoutesLeadToRp : Type 0
RoutesLeadToRp = (x : Join) (g d late bound : ℕ) (started : ℕ → ℕ) (t : Traffic) (came : Arrivals) (lans : List Lan) (routing : Routing)
    (n : Network) (ms : List Move) (r k : ℕ) → AreRouted x g d late bound started t came lans routing n ms → routing.distance r ≡ Some k
    → HasWayUp x g bound started lans routing n ms r k

-- ---- it comes to be joined

-- another router of a LAN has an address
pub record IsAnother (members : List Member) (r address : ℕ) : Type 0 where
  pub member : Member
  pub among : IsOne members member
  pub its : member.address ≡ address
  pub apart : (member.router == r) ≡ false

-- whoever's Join comes to the upper one of a pair is another router of the LAN
pub record JoinIsOfLan (x : Join) (g : ℕ) (members : List Member) (c : Pair) (n : Network) (m : Move) : Type 0 where
  pub joiner : (number draw from : ℕ) (pruned : List ℕ) (st : Station) → is_unicast from ≡ true → m ≡ Deliver c.upper c.down number draw
      → frame_at n number ≡ Some (frame_from x g c from pruned) → station_at n c.upper ≡ Some st
      → IsAnother members c.upper from × (is_own st.state from ≡ false)

-- to begin with the lower router's Join timer is no longer than it may be; its Joins can be written and taken, and nobody prunes what
-- it joins
pub record CanJoin (x : Join) (g : ℕ) (t : Traffic) (n : Network) (ms : List Move) (h : HopOn) : Type 0 where
  pub near : IsNear x g (h.lower).router n
  pub keeps : EachMove (JoinKeeps x g t (pair_on h)) n ms
  pub joiners : EachMove (JoinIsOfLan x g (routers (h.lan).link) (pair_on h)) n ms

-- each router at a distance but 0 can join over its next hop
pub record AllCanJoin (x : Join) (g : ℕ) (t : Traffic) (routing : Routing) (n : Network) (ms : List Move) : Type 0 where
  pub addresses : IsJoin x g
  pub join : (r k : ℕ) → routing.distance r ≡ Some (suc k) → CanJoin x g t n ms (routing.next r)

-- from when what is sent comes in time: what was sent before the bound has come
abbrev pub heard_by : (d lag bound : ℕ) → ℕ
heard_by d lag bound = bound + 3 * lag + d

-- a router wants it from a time on, which is k hops before a limit
pub record WantsFrom (x : Join) (g d lag : ℕ) (started : ℕ → ℕ) (bound limit r k : ℕ) (n : Network) (ms : List Move) : Type 0 where
  pub first : ℕ
  pub wants : HoldsPast started first (Wants x g r) n ms
  pub later : heard_by d lag bound ≤ first
  pub by : first + k * a_hop d lag ≤ limit

-- What a router wants from a time on, each next hop of its way to the RP, or to the source, holds past the limit.
abbrev pub EveryWantIsHeldToRp : Type 0
EveryWantIsHeldToRp = (x : Join) (g d late lag bound limit : ℕ) (started : ℕ → ℕ) (t : Traffic) (came : Arrivals) (lans : List Lan) (routing : Routing)
    (n : Network) (ms : List Move) (r k : ℕ) → AreRouted x g d late bound started t came lans routing n ms → AllCanJoin x g t routing n ms
    → Always (AreTogether lag started) n ms → routing.distance r ≡ Some k → WantsFrom x g d lag started bound limit r k n ms
    → HoldsPast started limit (λ o. AllByRecursion (λ c. IsHeld x g c o) (map pair_on (hops_up routing k r))) n ms
