-- Each link with a member whose router's routes lead to the RP: neither a way is given nor who wants the group, nor any state but that
-- there is room, no packet takes the source's own tree, the source is no router's own address, and no host excludes it; and each packet
-- that is brought to the RP comes to the link exactly once (RFC 7761, 4.1.5, 4.2 and 4.5.4).
use Rattle.std.{specs.{List.AllByRecursion, Prelude.{List, Some, [], false, map, not, suc, ℕ, ◌&&◌, ◌*◌, ◌+◌, ◌==◌, ◌∷◌, ◌≡◌, ◌≤◌}}}
use Rattle.pim_types.{specs.Keys.source_key}
use Rattle.pim_model.{specs.{Full.source_is_full, Network.{Move, Network, Station, station_at}, Receivers.local_receiver_exclude, Sets.spt_bit, State.is_own, Unicast.is_rpf_interface}}
use Rattle.law_streams.{specs.InTimeJoins.{IsHeld, Star}}
use Rattle.law_converges.{specs.{AloneOnLink.{AreMembers, ComesDownTheWay}, Carried.{Arrivals, EachMove, Traffic}, CarriedNetwork.{HopOn, IsQuietPlan, Lan, Plan, number_of}, CarriedWays.{forwarders, pair_on, root_of}, ComesOnce.{AllCameDown, AreServedOnce}, JoinedWays.a_hop, LinkDr.Member, LoserJoins.YieldsTo, MemberLinks.{ServesMember, Unbeaten, to_hosts}, Past.{ArePast, HoldsPast, HoldsPastOn}, RoutesToRp.{AllCanJoin, AreRpf, IsNamed, RoutesLead, Routing, heard_by, hops_up}, Settles.routers, Unheard.{HearsNoBetter, HearsNoPrune}}}

-- ---- what is asked

-- Whom a router comes to join over on the LAN of its route: whom the route names, and neither loses an assert of the group there; or the
-- winner of that assert, to which it gives way.
pub data ComesOver (rp g d bound : ℕ) (started : ℕ → ℕ) (n : Network) (ms : List Move) (h : HopOn) : Type 0 where
  NeitherBeaten : HoldsPast started bound (IsNamed (Star rp) g h) n ms → Unbeaten g bound started n ms h.lan h.lower
      → Unbeaten g bound started n ms h.lan h.upper → ComesOver rp g d bound started n ms h
  GivesWay : YieldsTo (Star rp) g d bound started h n ms → ComesOver rp g d bound started n ms h

-- so it is with each router at a distance but 0
abbrev pub EachComesOver : (rp g d bound : ℕ) → (ℕ → ℕ) → Routing → Network → List Move → Type 0
EachComesOver rp g d bound started routing n ms =
    (r k : ℕ) → routing.distance r ≡ Some (suc k) → ComesOver rp g d bound started n ms (routing.next r)

-- a router takes a source's packets on the group's tree: they aren't its own, and don't come on the source's own tree from elsewhere; and
-- it has room for the source
pub record TakesOnTree (g src : ℕ) (y : Member) (n : Network) : Type 0 where
  pub station : Station
  pub there : station_at n y.router ≡ Some station
  pub foreign : is_own station.state src ≡ false
  pub on_tree : (spt_bit station.state g src && not (is_rpf_interface station.state src y.iface)) ≡ false
  pub room : source_is_full station.state g src ≡ false

-- so it is with the lower router of a hop from a limit on, and the upper one hears no better Assert of the source, and no Prune of it
pub record HopIsFree (g src bound limit : ℕ) (started : ℕ → ℕ) (n : Network) (ms : List Move) (h : HopOn) : Type 0 where
  pub takes : HoldsPast started limit (TakesOnTree g src h.lower) n ms
  pub unlost : HearsNoBetter (source_key (h.upper).iface g src) bound started (h.upper).router n ms
  pub unpruned : HearsNoPrune g src bound started h.upper n ms

-- each next hop is on another link than the one before
abbrev pub AreApart : ℕ → List HopOn → Type 0
AreApart link [] = Unit {0}
AreApart link (h ∷ hs) = ((link == number_of h.lan) ≡ false) × AreApart (number_of h.lan) hs

-- no host of a link excludes the source
pub record IsIncluded (g src : ℕ) (x : Member) (n : Network) : Type 0 where
  pub station : Station
  pub there : station_at n x.router ≡ Some station
  pub included : local_receiver_exclude station.state g src x.iface ≡ false

-- A router serves a link with a member, and isn't the RP; its routes lead there over next hops, no more than its distance k, of which
-- each is on another link. It loses neither the group's assert on the link nor the source's, and nothing keeps the source's packets
-- from the next hops and the hosts. The limit is k hops after what was sent before the bound has come.
pub record IsReached (g src d lag bound limit k : ℕ) (started : ℕ → ℕ) (plan : Plan) (routing : Routing) (n : Network) (ms : List Move)
    (a : Lan) (x : Member) (h : HopOn) (hs : List HopOn) : Type 0 where
  pub serves : ServesMember g plan.lans a x
  pub distance : routing.distance x.router ≡ Some k
  pub next_hops : hops_up routing k x.router ≡ h ∷ hs
  pub apart : AreApart (number_of a) (h ∷ hs)
  pub by : heard_by d lag bound + k * a_hop d lag ≤ limit
  pub unbeaten : Unbeaten g bound started n ms a x
  pub unlost : HearsNoBetter (source_key x.iface g src) bound started x.router n ms
  pub included : HoldsPast started limit (IsIncluded g src x) n ms
  pub free : AllByRecursion (HopIsFree g src bound limit started n ms) (h ∷ hs)

-- ---- what holds

-- Its next hops are the way to the RP, and hold the group; each packet of the source comes to the link once, and nothing else of the
-- source where no other router sends its packets on the links of the way.
pub record IsServed (g src rp d bound limit : ℕ) (started : ℕ → ℕ) (t : Traffic) (plan : Plan) (n : Network) (ms : List Move) (a : Lan) (x : Member)
    (h : HopOn) (hs : List HopOn) : Type 0 where
  pub way : AreRpf (Star rp) g bound started plan.lans n ms x.router (h ∷ hs)
  pub held : HoldsPast started limit (λ n. AllByRecursion (λ c. IsHeld (Star rp) g c n) (map pair_on (h ∷ hs))) n ms
  pub once : HoldsPastOn started limit (AreServedOnce g src d started t (root_of h hs) (number_of a) (to_hosts a x h ∷ forwarders h hs)) n ms
  pub only : EachMove (λ n m. ArePast started limit n → ComesDownTheWay g src a x h hs n m) n ms
      → HoldsPastOn started limit (AllCameDown g src (root_of h hs) (number_of a) (to_hosts a x h ∷ forwarders h hs)) n ms

-- In a network that settles, over whose links the routes lead to the RP, so it is with each link that has a member. Whoever is on a link
-- is one of its routers.
abbrev pub EachMemberIsServed : Type 0
EachMemberIsServed = (g src rp d late lag bound limit k : ℕ) (started : ℕ → ℕ) (t : Traffic) (came : Arrivals) (plan : Plan) (routing : Routing)
    (n : Network) (ms : List Move) (a : Lan) (x : Member) (h : HopOn) (hs : List HopOn) → IsQuietPlan d late lag bound started t came plan n ms
    → AllByRecursion (λ (b : Lan). AreMembers (number_of b) (routers b.link) n) plan.lans → RoutesLead (Star rp) g plan.lans routing n ms
    → EachComesOver rp g d bound started routing n ms → AllCanJoin (Star rp) g t routing n ms
    → IsReached g src d lag bound limit k started plan routing n ms a x h hs → IsServed g src rp d bound limit started t plan n ms a x h hs
