-- A way that follows the routes is joined by the bound, and so forwards the packets as any way does.
use Rattle.std.{proofs.Common.{List, Some, [], ap, arith, false, map, subst, true, ℕ, ◌*◌, ◌+◌, ◌<◌, ◌∙◌, ◌∷◌, ◌≡◌, ◌≤◌}, specs.{List.AllByRecursion, Prelude.slice_get}}
use Rattle.pim_model.{specs.{Network.{Move, Network, Station, station_at}, Sets.{assert_source, assert_star, is_loser, prunes}, State.{iface_count, is_up}, Tables.hop_at, Unicast.is_rpf_interface_rp}}
use Rattle.law_streams.{proofs.Pairs.same_station, specs.InTimeJoins.{IsHeld, IsJoin, IsUnlost, Star}}
use Rattle.law_converges.{proofs.{CarriedNetwork.one_lan, CarriedWays.{HopStands, HopsStand, none_besides, served_once, stand_later}, Past.{both_past, same_past, throughout_past}, RoutesToRp.{AreJoined, all_meet, are_joined, within}, RpfStays.on_tree_so}, specs.{Carried.{Arrivals, EachMove, Traffic}, CarriedNetwork.{HopOn, IsQuietPlan, Lan, LanIsQuiet, Plan, number_of}, CarriedWays.{AreOnTree, IsClear, forwarders, pair_on, root_of}, ComesOnce.{AllCameDown, AreAlonePast, AreServedOnce, Forwarder}, JoinedWays.a_hop, LinkDr.Stands, PassedOnce.IsOnTree, Past.{HoldsPast, HoldsPastOn}, RoutedWays.{AreFree, EveryWantIsServedOnce, IsFree, PassesDown, TakesIn}, RpfJoins.IsNextHop}}

-- ---- at one network: what the routes and the LANs say of a next hop

module _ (g src rp : ℕ) (h : HopOn) (n : Network) (there : IsNextHop (Star rp) g (pair_on h) n) (unlost : IsUnlost (Star rp) g (pair_on h) n)
    (free : IsFree g src h n) where
  clear : IsClear g src (pair_on h) n
  clear = record {
    station = free.station;
    there = free.there;
    configured = subst (λ (z : Station). (h.upper).iface < iface_count z.state) (same_station there.above_is free.there)
        ((there.listens).hears).configured;
    group = subst (λ (z : Station). is_loser (assert_star z.state g (h.upper).iface) ≡ false) (same_station unlost.there free.there) unlost.unlost;
    source = free.unlost;
    unpruned = free.unpruned;
    one = record {
      linked = subst (λ (z : Station). slice_get z.links (h.upper).iface ≡ Some (number_of h.lan)) (same_station there.above_is free.there)
          (there.listens).linked;
      single = free.single;
    };
  }

  -- one that has another above it
  module _ (k : HopOn) (same : (k.lower).router ≡ (h.upper).router) (above : IsNextHop (Star rp) g (pair_on k) n)
      (stands : Stands (number_of k.lan) k.lower n) (takes : TakesIn g src h k n) where
    here : station_at n (k.lower).router ≡ Some takes.station
    here = ap (station_at n) same ∙ takes.there

    rpf : is_rpf_interface_rp (above.below).state g (k.lower).iface ≡ true
    rpf = on_tree_so rp g (above.below).state (hop_at (k.lower).iface (k.upper).address) (above.goes_over).rpf

    on_tree : IsOnTree g src (k.lower).iface (pair_on h) n
    on_tree = record {
      station = takes.station;
      there = takes.there;
      comes_in = record {
        configured = subst (λ (z : Station). (k.lower).iface < iface_count z.state) (same_station (stands.sends).there (here))
            (within ((stands.sends).station).state.configured.interfaces (k.lower).iface ((stands.sends).readable).from_host);
        is_up = subst (λ (z : Station). is_up z.state (k.lower).iface ≡ true) (same_station (stands.sends).there (here)) (stands.sends).up;
        foreign = takes.foreign;
        on = record {
          on_tree = subst (λ (z : Station). is_rpf_interface_rp z.state g (k.lower).iface ≡ true) (same_station above.below_is (here)) rpf;
          source_too = takes.on_tree;
        };
      };
      configured = subst (λ (z : Station). (h.upper).iface < iface_count z.state) its (clear).configured;
      group = subst (λ (z : Station). is_loser (assert_star z.state g (h.upper).iface) ≡ false) its (clear).group;
      source = subst (λ (z : Station). is_loser (assert_source z.state g src (h.upper).iface) ≡ false) its (clear).source;
      unpruned = subst (λ (z : Station). prunes z.state g src (h.upper).iface ≡ false) its (clear).unpruned;
      room = takes.room;
      apart = takes.apart;
    }
      where
        its : (clear).station ≡ takes.station
        its = same_station (clear).there takes.there

-- ---- from a limit on

module _ (g src rp d late bound limit : ℕ) (started : ℕ → ℕ) (t : Traffic) (came : Arrivals) (lans : List Lan) (n : Network) (ms : List Move)
    (quiet : AllByRecursion (LanIsQuiet d late bound started t came n ms) lans) where
  abbrev PastIt : (Network → Type 0) → Type 0
  PastIt P = HoldsPast started limit P n ms

  abbrev Hop : HopOn → Type 0
  Hop h = HopStands (Star rp) g limit started lans n ms h

  abbrev Routed : HopOn → Network → Type 0
  Routed h x = IsNextHop (Star rp) g (pair_on h) x × IsUnlost (Star rp) g (pair_on h) x

  routed : (h : HopOn) → Hop h → PastIt (Routed h)
  routed h q =
      both_past started limit (IsNextHop (Star rp) g (pair_on h)) (IsUnlost (Star rp) g (pair_on h)) (Routed h) (λ x a b. (a, b)) ms n q.there q.unlost

  abbrev Above : HopOn → Network → Type 0
  Above k x = IsNextHop (Star rp) g (pair_on k) x × Stands (number_of k.lan) k.lower x

  above_past : (k : HopOn) → Hop k → PastIt (Above k)
  above_past k q =
      both_past started limit (IsNextHop (Star rp) g (pair_on k)) (Stands (number_of k.lan) k.lower) (Above k) (λ x a b. (a, b)) ms n q.there
      (throughout_past started limit (Stands (number_of k.lan) k.lower) ms n
      (((one_lan (LanIsQuiet d late bound started t came n ms) lans k.lan quiet q.among).meet).stand k.lower (q.on).lower))

  -- the next hops are on the group's tree
  pub tree_past : (h : HopOn) (hs : List HopOn) → Hop h → HopsStand (Star rp) g limit started lans n ms (h.upper).router hs
      → PastIt (AreFree g src h hs) → PastIt (AreOnTree g src h hs)
  tree_past h [] q rest free =
      both_past started limit (Routed h) (IsFree g src h) (AreOnTree g src h []) (λ x a f. clear g src rp h x a.0 a.1 f) ms n (routed h q) free
  tree_past h (k ∷ ks) q rest free =
      both_past started limit (λ x. Routed h x × Above k x) (λ x. AreFree g src h (k ∷ ks) x × AreOnTree g src k ks x) (AreOnTree g src h (k ∷ ks))
      (λ x a f. (
        on_tree g src rp h x (a.0).0 (a.0).1 (f.0).0 k rest.0 (a.1).0 (a.1).1 (f.0).1,
        clear g src rp h x (a.0).0 (a.0).1 (f.0).0,
        f.1,
      ))
      ms n
      (both_past started limit (Routed h) (Above k) (λ x. Routed h x × Above k x) (λ x a b. (a, b)) ms n (routed h q) (above_past k rest.1))
      (both_past started limit (AreFree g src h (k ∷ ks)) (AreOnTree g src k ks) (λ x. AreFree g src h (k ∷ ks) x × AreOnTree g src k ks x)
      (λ x a b. (a, b)) ms n free
      (tree_past k ks rest.1 rest.2 (same_past started limit (AreFree g src h (k ∷ ks)) (AreFree g src k ks) (λ x a. a.2) ms n free)))

-- ---- a way

module _ (g src rp d late lag bound limit : ℕ) (started : ℕ → ℕ) (t : Traffic) (came : Arrivals) (plan : Plan) (n : Network) (ms : List Move) (r : ℕ)
    (h : HopOn) (hs : List HopOn) (f : Forwarder) (q : IsQuietPlan d late lag bound started t came plan n ms) (addresses : IsJoin (Star rp) g)
    (stand : HopsStand (Star rp) g limit started plan.lans n ms r (h ∷ hs))
    (held : HoldsPast started limit (λ x. AllByRecursion (λ c. IsHeld (Star rp) g c x) (map pair_on (h ∷ hs))) n ms)
    (p : PassesDown g src started limit n ms h hs f) where
  tree : HoldsPast started limit (AreOnTree g src h hs) n ms
  tree = tree_past g src rp d late bound limit started t came plan.lans n ms q.lans h hs stand.1 stand.2 p.free

  once : HoldsPastOn started limit (AreServedOnce g src d started t (root_of h hs) f.below (f ∷ forwarders h hs)) n ms
  once =
      served_once g src rp d late bound limit started t came plan.lans n ms q.lans h hs f r addresses stand p.self p.above held tree p.passes

  nothing_else : EachMove (AreAlonePast g src started limit (root_of h hs) f.below (f ∷ forwarders h hs)) n ms
      → HoldsPastOn started limit (AllCameDown g src (root_of h hs) f.below (f ∷ forwarders h hs)) n ms
  nothing_else alone =
      none_besides g src rp d late bound limit started t came plan.lans n ms q.lans h hs f r addresses stand p.self p.above held tree p.passes alone

pub every_want_is_served_once : EveryWantIsServedOnce
every_want_is_served_once g rp d late lag bound limit started t came plan routing n ms r k q lead chosen all is wants h hs same = record {
  served = λ src f p. once g src rp d late lag bound limit started t came plan n ms r h hs f q all.addresses stand (its).held p;
  only = λ src f p. nothing_else g src rp d late lag bound limit started t came plan n ms r h hs f q all.addresses stand (its).held p;
}
  where
    its : AreJoined (Star rp) g bound limit started plan.lans n ms r (h ∷ hs)
    its =
        subst (λ (l : List HopOn). AreJoined (Star rp) g bound limit started plan.lans n ms r l) same
        (are_joined (Star rp) g d late lag bound limit started t came plan.lans routing n ms r k
        (record { few = q.few; meet = all_meet d late bound started t came n ms plan.lans q.lans; lead = lead; chosen = chosen }) all q.together is wants)

    no_sooner : (b : ℕ) → bound + 3 * lag + d ≤ wants.first → wants.first + b ≤ limit → bound ≤ limit
    no_sooner b e f = omega (arith, e, f)

    stand : HopsStand (Star rp) g limit started plan.lans n ms r (h ∷ hs)
    stand =
        stand_later (Star rp) g bound limit started plan.lans n ms (no_sooner (k * a_hop d lag) wants.later wants.by) r (h ∷ hs) (its).stand
