-- Down the source's own tree each packet comes exactly once, to a member of a source-specific group, too: the way needn't be given, the
-- routes lead to the source (RFC 7761, 4.2, 4.2.2, 4.5.5 and 4.8).
use Rattle.std.{specs.Prelude.{List, Some, [], false, slice_get, true, ℕ, ◌*◌, ◌+◌, ◌==◌, ◌∷◌, ◌≡◌, ◌≤◌, ◌⊎◌}}
use Rattle.pim_types.{specs.declared.event.Event.Event}
use Rattle.pim_model.{specs.{Full.source_is_full, Network.{Move, Network, Station, station_at}, Sets.spt_bit, State.{State, is_own}}}
use Rattle.law_streams.{specs.{InTimeJoins.Source, Passing.Tree, Roots.IsBrought, Served.{IsSourceJoined, IsSourceMember}, Sources.{IsConnectedAt, IsSent}, Turning.may_turn}}
use Rattle.law_converges.{specs.{Carried.{Arrivals, EachMove, Traffic}, CarriedNetwork.{HopOn, IsQuietPlan, Plan, number_of}, CarriedWays.{forwarders, root_of}, ComesOnce.{AllCameDown, AreAlonePast, AreServedOnce, Forwarder, Forwards, HasOneOn, IsOfTree, Root}, JoinedWays.a_hop, Past.{HoldsPast, HoldsPastOn}, RoutesToRp.{AllCanJoin, AreChosen, RoutesLead, Routing, WantsFrom, heard_by, hops_up}}}

-- ---- a way of the source's own tree

-- the last next hop, which has the source on a link
abbrev pub source_root_of : HopOn → List HopOn → Root
source_root_of h hs = record (root_of h hs) { tree = Tree.Source }

-- a next hop has one interface on the LAN of its hop
pub record IsSingle (h : HopOn) (n : Network) : Type 0 where
  pub station : Station
  pub there : station_at n (h.upper).router ≡ Some station
  pub single : (i : ℕ) → slice_get station.links i ≡ Some (number_of h.lan) → i ≡ (h.upper).iface

-- A router takes the source's packets on an interface: they aren't its own; SPTbit is set, or the first of them may set it (4.2.2), as each
-- may where the group has no RP; and there is room for the source.
pub record TakesSource (g src r up : ℕ) (n : Network) : Type 0 where
  pub station : Station
  pub there : station_at n r ≡ Some station
  pub foreign : is_own station.state src ≡ false
  pub turns : (spt_bit station.state g src ≡ true) ⊎ (may_turn station.state g src up ≡ true)
  pub room : source_is_full station.state g src ≡ false

-- so it is with each next hop but the last, and it sends them on over another interface
abbrev pub AreFreeForSource : (g src : ℕ) → HopOn → List HopOn → Network → Type 0
AreFreeForSource g src h [] n = IsSingle h n
AreFreeForSource g src h (k ∷ ks) n =
    IsSingle h n × TakesSource g src (k.lower).router (k.lower).iface n × (((h.upper).iface == (k.lower).iface) ≡ false)
    × AreFreeForSource g src k ks n

-- ---- what a router wants

-- From a limit on the first router of a way passes the source's packets on to a link, and its next hops take them.
pub record PassesSourceDown (g src : ℕ) (started : ℕ → ℕ) (limit : ℕ) (n : Network) (ms : List Move) (h : HopOn) (hs : List HopOn) (f : Forwarder)
    : Type 0 where
  pub free : HoldsPast started limit (AreFreeForSource g src h hs) n ms
  pub self : f.self ≡ h.lower
  pub above : f.above ≡ number_of h.lan
  pub passes : HoldsPast started limit (Forwards g src f) n ms

-- Each packet of the source that comes to the last next hop on the way to the source comes once to that link; and nothing else of the source
-- comes there where no other router sends its packets on the way's links.
pub record IsServedBySource (g src d : ℕ) (started : ℕ → ℕ) (limit : ℕ) (t : Traffic) (n : Network) (ms : List Move) (h : HopOn) (hs : List HopOn)
    (f : Forwarder) : Type 0 where
  pub once : HoldsPastOn started limit (AreServedOnce g src d started t (source_root_of h hs) f.below (f ∷ forwarders h hs)) n ms
  pub only : EachMove (AreAlonePast g src started limit (source_root_of h hs) f.below (f ∷ forwarders h hs)) n ms
      → HoldsPastOn started limit (AllCameDown g src (source_root_of h hs) f.below (f ∷ forwarders h hs)) n ms

-- So it is in a quiet plan over whose LANs the routes lead to the source, for each router that wants the source from a time on.
abbrev pub EveryWantOfSourceIsServedOnce : Type 0
EveryWantOfSourceIsServedOnce = (g src d late lag bound limit : ℕ) (started : ℕ → ℕ) (t : Traffic) (came : Arrivals) (plan : Plan)
    (routing : Routing) (n : Network) (ms : List Move) (r k : ℕ) (h : HopOn) (hs : List HopOn) (f : Forwarder)
    → IsQuietPlan d late lag bound started t came plan n ms → RoutesLead (Source src) g plan.lans routing n ms
    → AreChosen (Source src) g bound started routing n ms → AllCanJoin (Source src) g t routing n ms → routing.distance r ≡ Some k
    → WantsFrom (Source src) g d lag started bound limit r k n ms → hops_up routing k r ≡ h ∷ hs → PassesSourceDown g src started limit n ms h hs f
    → IsServedBySource g src d started limit t n ms h hs f

-- ---- a member of a source-specific group

-- a router serves a host on an interface that asks for the source: it is the DR there, or the winner of the source's assert
pub record ServesSourceMember (g src r i : ℕ) (n : Network) : Type 0 where
  pub station : Station
  pub there : station_at n r ≡ Some station
  pub member : IsSourceMember station.state g src i

-- the router has one interface on the link, and takes the packets from another one
pub record ReachesMember (g src link : ℕ) (i : ℕ) (h : HopOn) (n : Network) : Type 0 where
  pub takes : TakesSource g src (h.lower).router (h.lower).iface n
  pub below : HasOneOn i link takes.station
  pub apart : (i == (h.lower).iface) ≡ false

abbrev pub to_member : (i link : ℕ) → HopOn → Forwarder
to_member i link h = record { self = h.lower; above = number_of h.lan; down = i; below = link }

-- A router serves a member of the source on a link from a time on, by which what was sent before the bound has come; its routes lead to the
-- source over next hops, no more than its distance k, which take the packets from a limit on, k hops later.
pub record IsReachedBySource (g src d lag bound first limit k : ℕ) (started : ℕ → ℕ) (routing : Routing) (n : Network) (ms : List Move)
    (r i link : ℕ) (h : HopOn) (hs : List HopOn) : Type 0 where
  pub distance : routing.distance r ≡ Some k
  pub next_hops : hops_up routing k r ≡ h ∷ hs
  pub serves : HoldsPast started first (ServesSourceMember g src r i) n ms
  pub later : heard_by d lag bound ≤ first
  pub by : first + k * a_hop d lag ≤ limit
  pub reaches : HoldsPast started limit (ReachesMember g src link i h) n ms
  pub free : HoldsPast started limit (AreFreeForSource g src h hs) n ms

-- In a network that settles each packet of the source comes to the member's link exactly once.
abbrev pub EachSourceMemberIsServed : Type 0
EachSourceMemberIsServed = (g src d late lag bound first limit k : ℕ) (started : ℕ → ℕ) (t : Traffic) (came : Arrivals) (plan : Plan)
    (routing : Routing) (n : Network) (ms : List Move) (r i link : ℕ) (h : HopOn) (hs : List HopOn)
    → IsQuietPlan d late lag bound started t came plan n ms → RoutesLead (Source src) g plan.lans routing n ms
    → AreChosen (Source src) g bound started routing n ms → AllCanJoin (Source src) g t routing n ms
    → IsReachedBySource g src d lag bound first limit k started routing n ms r i link h hs
    → IsServedBySource g src d started limit t n ms h hs (to_member i link h)

-- ---- the source's own router

-- an event brings a packet to a router on the way to the source, for an interface
pub record IsBroughtOnPath (s : State) (e : Event) (g src down : ℕ) (payload : List ℕ) (lives : ℕ) : Type 0 where
  pub brought : IsBrought s e g src down payload lives
  pub of_tree : IsOfTree Tree.Source s e brought.packet down brought.comes

-- So is each packet that the source sends on its link, where the router has joined routers on another one; each sets SPTbit, if that isn't set
-- (4.2.2).
abbrev pub SentComesOnPath : Type 0
SentComesOnPath = (s : State) (e : Event) (g src up down lives : ℕ) (payload : List ℕ) → IsConnectedAt s src up → IsSourceJoined s g src down
    → (down == up) ≡ false → IsSent s e g src up payload lives → IsBroughtOnPath s e g src down payload lives
