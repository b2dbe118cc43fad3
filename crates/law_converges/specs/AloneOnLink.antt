-- On a link of a network that settles one router alone sends a source's packets. Each other one isn't asked for them there, takes them from
-- the link, or has lost the assert (RFC 7761, 4.1.5, 4.2 and 4.6.5).
use Rattle.std.{specs.{List.AllByRecursion, Prelude.{List, Some, [], false, slice_get, true, ℕ, ◌∷◌, ◌≡◌, ◌≤◌, ◌⊎◌}}}
use Rattle.pim_ip.{specs.Ipv4.Packet}
use Rattle.pim_types.{specs.declared.event.Event.Event}
use Rattle.pim_model.{specs.{Cause.{done_as, packet_in}, Network.{At, Move, Network, Station, event_of, station_at}, Receivers.{local_receiver_include, local_receiver_star}, Sets.{assert_source, assert_star, is_winner, joins, joins_star}}}
use Rattle.law_streams.{specs.Copies.happens}
use Rattle.law_converges.{specs.{AloneByAssert.IsAboutIt, Carried.{Arrivals, EachMove, Traffic}, CarriedNetwork.{Claim, HopOn, IsOneLan, IsQuietPlan, Lan, Plan, contest_on, number_of}, CarriedWays.forwarders, ComesOnce.{Forwarder, IsAlone}, LinkDr.{IsOne, Member, is_preferred}, MemberLinks.{IsOneClaim, to_hosts}, Past.ArePast, Settles.routers, SilentRouters.IsOnlyWayIn}}

-- ---- the routers of a link

-- a router on an interface is one of these
pub record IsMemberAt (members : List Member) (q j : ℕ) : Type 0 where
  pub member : Member
  pub among : IsOne members member
  pub router : q ≡ member.router
  pub iface : j ≡ member.iface

-- so is whoever is on the link
abbrev pub AreMembers : (link : ℕ) → List Member → Network → Type 0
AreMembers link members n = (q j : ℕ) (st : Station) → station_at n q ≡ Some st → slice_get st.links j ≡ Some link → IsMemberAt members q j

-- ---- why a router sends none of a source's packets on a link

-- nobody joined the group, or the source, over it there
pub record IsUnjoined (g src : ℕ) (y : Member) (n : Network) : Type 0 where
  pub station : Station
  pub there : station_at n y.router ≡ Some station
  pub group : joins_star station.state g y.iface ≡ false
  pub source : joins station.state g src y.iface ≡ false

-- another router is preferred to it as the DR, and it has won no assert there
pub record IsSecond (g src : ℕ) (members : List Member) (y : Member) (n : Network) : Type 0 where
  pub other : Member
  pub among : IsOne members other
  pub preferred : is_preferred other y ≡ true
  pub station : Station
  pub there : station_at n y.router ≡ Some station
  pub group : is_winner (assert_star station.state g y.iface) ≡ false
  pub source : is_winner (assert_source station.state g src y.iface) ≡ false

-- no host there asks for them
pub record HasNoHosts (g src : ℕ) (y : Member) (n : Network) : Type 0 where
  pub station : Station
  pub there : station_at n y.router ≡ Some station
  pub group : local_receiver_star station.state g y.iface ≡ false
  pub source : local_receiver_include station.state g src y.iface ≡ false

-- an interface is its only way in for them
pub record TakesOn (g src : ℕ) (y : Member) (n : Network) : Type 0 where
  pub station : Station
  pub there : station_at n y.router ≡ Some station
  pub only : IsOnlyWayIn g src y.iface station.state

-- it has lost the group's assert there, and nobody asks it there for the source alone
pub record HasLostGroup (g src : ℕ) (a : Lan) (y : Member) (n : Network) : Type 0 where
  pub claim : Claim
  pub among : IsOneClaim a.claims claim
  pub loser : IsOne claim.losers y
  pub group : claim.group ≡ g
  pub star : claim.source ≡ 0
  pub station : Station
  pub there : station_at n y.router ≡ Some station
  pub joined : joins station.state g src y.iface ≡ false
  pub asked : local_receiver_include station.state g src y.iface ≡ false

-- it has lost an assert of the link, which is about each of them that the move brings it
pub record HasLostIt (g src : ℕ) (a : Lan) (y : Member) (n : Network) (m : Move) : Type 0 where
  pub claim : Claim
  pub among : IsOneClaim a.claims claim
  pub loser : IsOne claim.losers y
  pub about : (e : Event) (st : Station) (p : Packet) → event_of n m ≡ Some (y.router, e) → station_at n y.router ≡ Some st
      → packet_in (done_as (happens st.state e)) ≡ Some p → p.destination ≡ g → p.source ≡ src → IsAboutIt (contest_on a claim) st e p

pub data SendsNone (g src : ℕ) (a : Lan) (y : Member) (n : Network) (m : Move) : Type 0 where
  NotDr : IsUnjoined g src y n → IsSecond g src (routers a.link) y n → SendsNone g src a y n m
  NoHosts : IsUnjoined g src y n → HasNoHosts g src y n → SendsNone g src a y n m
  TakesThere : TakesOn g src y n → SendsNone g src a y n m
  LostGroup : HasLostGroup g src a y n → SendsNone g src a y n m
  Lost : HasLostIt g src a y n m → SendsNone g src a y n m

-- so it is with each router of the link but one
abbrev pub OthersSendNone : (g src : ℕ) → Lan → (r : ℕ) → Network → Move → Type 0
OthersSendNone g src a r n m = (y : Member) → IsOne (routers a.link) y → (y.router ≡ r) ⊎ SendsNone g src a y n m

-- In a network that settles that one alone sends them, from the bound on, or from when the others send none.
abbrev pub OneRouterSends : Type 0
OneRouterSends = (g src d late lag bound limit r : ℕ) (started : ℕ → ℕ) (t : Traffic) (came : Arrivals) (plan : Plan) (n : Network) (ms : List Move)
    (a : Lan) → IsQuietPlan d late lag bound started t came plan n ms → IsOneLan plan.lans a → bound ≤ limit
    → (ArePast started bound n → ⊥) → AreMembers (number_of a) (routers a.link) n
    → EachMove (λ n m. ArePast started limit n → OthersSendNone g src a r n m) n ms
    → EachMove (λ n m. ArePast started limit n → IsAlone g src r (number_of a) n m) n ms

-- ---- nothing else comes

-- the others of each link of a way send none of them
abbrev pub OthersSendNoneOnWay : (g src : ℕ) → HopOn → List HopOn → Network → Move → Type 0
OthersSendNoneOnWay g src h [] n m = OthersSendNone g src h.lan (h.upper).router n m
OthersSendNoneOnWay g src h (k ∷ ks) n m = OthersSendNone g src h.lan (h.upper).router n m × OthersSendNoneOnWay g src k ks n m

-- the link above a router of a way is its only way in, and no host brings them to it by itself
pub record ComesFromAbove (g src : ℕ) (n : Network) (m : Move) (f : Forwarder) : Type 0 where
  pub takes : TakesOn g src f.self n
  pub none_inside : (e : Event) (st : Station) (p : Packet) → m ≡ At (f.self).router e → station_at n (f.self).router ≡ Some st
      → packet_in (done_as (happens st.state e)) ≡ Some p → p.destination ≡ g → p.source ≡ src → ⊥

pub record ComesDownTheWay (g src : ℕ) (a : Lan) (x : Member) (h : HopOn) (hs : List HopOn) (n : Network) (m : Move) : Type 0 where
  pub on_link : OthersSendNone g src a x.router n m
  pub on_way : OthersSendNoneOnWay g src h hs n m
  pub from_above : AllByRecursion (ComesFromAbove g src n m) (to_hosts a x h ∷ forwarders h hs)
