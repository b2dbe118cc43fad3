-- Down a way that follows the routes each packet comes exactly once: what a router wants is served, and the way needn't be given.
use Rattle.std.{specs.Prelude.{List, Some, [], false, not, slice_get, ℕ, ◌&&◌, ◌==◌, ◌∷◌, ◌≡◌}}
use Rattle.pim_model.{specs.{Full.source_is_full, Network.{Move, Network, Station, station_at}, Sets.{assert_source, is_loser, prunes, spt_bit}, State.is_own, Unicast.is_rpf_interface}}
use Rattle.law_streams.{specs.InTimeJoins.Star}
use Rattle.law_converges.{specs.{Carried.{Arrivals, EachMove, Traffic}, CarriedNetwork.{HopOn, IsQuietPlan, Plan, number_of}, CarriedWays.{forwarders, root_of}, ComesOnce.{AllCameDown, AreAlonePast, AreServedOnce, Forwarder, Forwards}, Past.{HoldsPast, HoldsPastOn}, RoutesToRp.{AllCanJoin, AreChosen, RoutesLead, Routing, WantsFrom, hops_up}}}

-- nothing keeps a source's packets from the LAN of a next hop: it hasn't lost the assert of the source there, nobody prunes the
-- source, and it has one interface there
pub record IsFree (g src : ℕ) (h : HopOn) (n : Network) : Type 0 where
  pub station : Station
  pub there : station_at n (h.upper).router ≡ Some station
  pub unlost : is_loser (assert_source station.state g src (h.upper).iface) ≡ false
  pub unpruned : prunes station.state g src (h.upper).iface ≡ false
  pub single : (i : ℕ) → slice_get station.links i ≡ Some (number_of h.lan) → i ≡ (h.upper).iface

-- a next hop takes a source's packets from its own next hop: they are no packets of its own, and don't come on the source's tree
-- from elsewhere; it has room for the source, and sends them on over another interface
pub record TakesIn (g src : ℕ) (h k : HopOn) (n : Network) : Type 0 where
  pub station : Station
  pub there : station_at n (h.upper).router ≡ Some station
  pub foreign : is_own station.state src ≡ false
  pub on_tree : (spt_bit station.state g src && not (is_rpf_interface station.state src (k.lower).iface)) ≡ false
  pub room : source_is_full station.state g src ≡ false
  pub apart : ((h.upper).iface == (k.lower).iface) ≡ false

-- so it is with each next hop
abbrev pub AreFree : (g src : ℕ) → HopOn → List HopOn → Network → Type 0
AreFree g src h [] n = IsFree g src h n
AreFree g src h (k ∷ ks) n = IsFree g src h n × TakesIn g src h k n × AreFree g src k ks n

-- from a bound on the first router of a way passes a source's packets on to a link, and nothing keeps them from it
pub record PassesDown (g src : ℕ) (started : ℕ → ℕ) (bound : ℕ) (n : Network) (ms : List Move) (h : HopOn) (hs : List HopOn) (f : Forwarder)
    : Type 0 where
  pub free : HoldsPast started bound (AreFree g src h hs) n ms
  pub self : f.self ≡ h.lower
  pub above : f.above ≡ number_of h.lan
  pub passes : HoldsPast started bound (Forwards g src f) n ms

-- down a way each packet of a source comes once to the link to which its first router passes it on; and nothing else of the source
-- comes there where no other router sends its packets on the way's links
pub record IsServed (g d : ℕ) (started : ℕ → ℕ) (bound : ℕ) (t : Traffic) (n : Network) (ms : List Move) (h : HopOn) (hs : List HopOn) : Type 0 where
  pub served : (src : ℕ) (f : Forwarder) → PassesDown g src started bound n ms h hs f
      → HoldsPastOn started bound (AreServedOnce g src d started t (root_of h hs) f.below (f ∷ forwarders h hs)) n ms
  pub only : (src : ℕ) (f : Forwarder) → PassesDown g src started bound n ms h hs f
      → EachMove (AreAlonePast g src started bound (root_of h hs) f.below (f ∷ forwarders h hs)) n ms
      → HoldsPastOn started bound (AllCameDown g src (root_of h hs) f.below (f ∷ forwarders h hs)) n ms

-- In a quiet plan over whose LANs the routes lead, each packet that is brought to the RP comes exactly once down a way of each
-- router that wants the group from a time on.
abbrev pub EveryWantIsServedOnce : Type 0
EveryWantIsServedOnce = (g rp d late lag bound limit : ℕ) (started : ℕ → ℕ) (t : Traffic) (came : Arrivals) (plan : Plan) (routing : Routing)
    (n : Network) (ms : List Move) (r k : ℕ) → IsQuietPlan d late lag bound started t came plan n ms
    → RoutesLead (Star rp) g plan.lans routing n ms → AreChosen (Star rp) g bound started routing n ms → AllCanJoin (Star rp) g t routing n ms
    → routing.distance r ≡ Some k → WantsFrom (Star rp) g d lag started bound limit r k n ms → (h : HopOn) (hs : List HopOn)
    → hops_up routing k r ≡ h ∷ hs → IsServed g d started limit t n ms h hs
