-- Down a way of a network that settles each packet comes exactly once: its next hops hold the group from the bound on, and its links
-- carry what is sent on them.
use Rattle.std.{specs.{Prelude.{List, Some, [], false, ℕ, ◌<◌, ◌∷◌, ◌≡◌, ◌⊎◌}}}
use Rattle.pim_model.{specs.{Network.{Move, Network, Station, station_at}, Sets.{assert_source, assert_star, is_loser, prunes}, State.iface_count}}
use Rattle.law_streams.{specs.{InTimeJoins.{Pair, Star}, Passing.Tree}}
use Rattle.law_converges.{specs.{Carried.{Arrivals, EachMove, Traffic}, CarriedLinks.pair_of, CarriedNetwork.{HopOn, IsQuietPlan, Plan, WayOver, number_of}, ComesOnce.{AllCameDown, AreAlonePast, AreServedOnce, Forwarder, Forwards, HasOneOn, Root}, Past.{HoldsPast, HoldsPastOn}, PassedOnce.IsOnTree}}

-- the next hop as a pair of routers
abbrev pub pair_on : HopOn → Pair
pair_on h = pair_of (number_of h.lan) h.lower h.upper

-- the routers between the first one and the last next hop, from the first one up: each forwards what the next one sends
abbrev pub forwarders : HopOn → List HopOn → List Forwarder
forwarders h [] = []
forwarders h (k ∷ ks) = record {
  self = k.lower;
  above = number_of k.lan;
  down = (h.upper).iface;
  below = number_of h.lan;
}
    ∷ forwarders k ks

-- the last next hop, as the RP
abbrev pub root_of : HopOn → List HopOn → Root
root_of h [] = record { tree = Tree.Shared; router = (h.upper).router; down = (h.upper).iface; below = number_of h.lan }
root_of h (k ∷ ks) = root_of k ks

-- nothing keeps the source's packets from the link of a next hop: neither the assert of the group nor that of the source is lost
-- there, nobody prunes the source, and the router has one interface there
pub record IsClear (g src : ℕ) (c : Pair) (n : Network) : Type 0 where
  pub station : Station
  pub there : station_at n c.upper ≡ Some station
  pub configured : c.down < iface_count station.state
  pub group : is_loser (assert_star station.state g c.down) ≡ false
  pub source : is_loser (assert_source station.state g src c.down) ≡ false
  pub unpruned : prunes station.state g src c.down ≡ false
  pub one : HasOneOn c.down c.link station

-- so it is with each next hop, and each but the last is on the group's tree
abbrev pub AreOnTree : (g src : ℕ) → HopOn → List HopOn → Network → Type 0
AreOnTree g src h [] n = IsClear g src (pair_on h) n
AreOnTree g src h (k ∷ ks) n =
    IsOnTree g src (k.lower).iface (pair_on h) n × IsClear g src (pair_on h) n × AreOnTree g src k ks n

-- a way is one of these
abbrev pub IsOneWay : List WayOver → WayOver → Type 0
IsOneWay [] w = ⊥
IsOneWay (v ∷ vs) w = (v ≡ w) ⊎ IsOneWay vs w

-- a way of a group, from the bound on on the group's tree, with a router below its first next hop that passes the packets on
pub record IsOpen (g src rp first bound : ℕ) (started : ℕ → ℕ) (plan : Plan) (n : Network) (ms : List Move) (h : HopOn) (hs : List HopOn)
    (f : Forwarder) : Type 0 where
  pub among : IsOneWay plan.ways (record { join = Star rp; group = g; first = first; hops = h ∷ hs })
  pub tree : HoldsPast started bound (AreOnTree g src h hs) n ms
  pub self : f.self ≡ h.lower
  pub above : f.above ≡ number_of h.lan
  pub passes : HoldsPast started bound (Forwards g src f) n ms

-- In a network that settles each packet that is brought to the last next hop of a way of a group, on a tree or in a Register, comes
-- exactly once to the LAN to which the way's first router passes it on.
abbrev pub CarriedNetworkServesOnce : Type 0
CarriedNetworkServesOnce = (g src rp d late lag bound first : ℕ) (started : ℕ → ℕ) (t : Traffic) (came : Arrivals) (plan : Plan) (n : Network)
    (ms : List Move) (h : HopOn) (hs : List HopOn) (f : Forwarder) → IsQuietPlan d late lag bound started t came plan n ms
    → IsOpen g src rp first bound started plan n ms h hs f
    → HoldsPastOn started bound (AreServedOnce g src d started t (root_of h hs) f.below (f ∷ forwarders h hs)) n ms

-- And where no other router sends the source's packets on the links of the way, nothing else of them comes there.
abbrev pub CarriedNetworkBringsNothingElse : Type 0
CarriedNetworkBringsNothingElse = (g src rp d late lag bound first : ℕ) (started : ℕ → ℕ) (t : Traffic) (came : Arrivals) (plan : Plan)
    (n : Network) (ms : List Move) (h : HopOn) (hs : List HopOn) (f : Forwarder) → IsQuietPlan d late lag bound started t came plan n ms
    → IsOpen g src rp first bound started plan n ms h hs f
    → EachMove (AreAlonePast g src started bound (root_of h hs) f.below (f ∷ forwarders h hs)) n ms
    → HoldsPastOn started bound (AllCameDown g src (root_of h hs) f.below (f ∷ forwarders h hs)) n ms
