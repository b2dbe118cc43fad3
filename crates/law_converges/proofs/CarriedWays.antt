-- A way of a network that settles forwards the packets, from the bound on.
use Rattle.std.{proofs.Common.{Bool, List, Some, [], ap, eq-eqb, eqb-true, false, inl, inr, map, refl, subst, sym, true, ℕ, ◌==◌, ◌∙◌, ◌∷◌, ◌≡◌, ◌≤◌}, specs.{List.AllByRecursion, Prelude.slice_get}}
use Rattle.pim_types.{specs.Keys.star_key}
use Rattle.pim_model.{specs.{Network.{Move, Network, Station, moved, station_at}, Tables.row_at}}
use Rattle.law_events.{specs.Rest.IsAtRest}
use Rattle.law_streams.{proofs.Pairs.{ready_then, same_station}, specs.{InTimeJoins.{IsHeld, IsJoin, IsReady, IsUnlost, Join, Star}, Passing.{Receiver, Tree}}}
use Rattle.law_converges.{proofs.{CarriedNetwork.{carried_network_settles, one_lan}, ComesOnce.each_packet_comes_once, NothingElse.nothing_else_comes, PassedOnce.passes, Past.{both_past, later_past, same_past, throughout_past}}, specs.{Carried.{Arrivals, Carries, EachMove, Traffic}, CarriedNetwork.{AreOn, HopOn, HopsAreQuiet, IsOneLan, IsQuietPlan, Lan, LanIsQuiet, Plan, WayIsQuiet, WayOver, layout_of, number_of, way_on}, CarriedWays.{AreOnTree, CarriedNetworkBringsNothingElse, CarriedNetworkServesOnce, IsClear, IsOneWay, IsOpen, forwarders, pair_on, root_of}, ComesOnce.{AllCameDown, AreAlonePast, AreForwarding, AreServedOnce, Forwarder, Forwards, HasOneOn, HearsAll, SendsDown, Stream, sender_of}, LinkDr.{IsOne, Member}, PassedOnce.IsOnTree, Past.{HoldsPast, HoldsPastOn}, RpfJoins.IsNextHop, Settles.{HasSettled, Way, routers}}}

-- ---- lists

one_way : (P : WayOver → Type 0) (ws : List WayOver) (w : WayOver) → AllByRecursion P ws → IsOneWay ws w → P w
one_way P [] w f none = absurd none
one_way P (v ∷ vs) w f (inl same) = subst P same f.0
one_way P (v ∷ vs) w f (inr later) = one_way P vs w f.1 later

one_mapped : (P : Way → Type 0) (ws : List WayOver) (w : WayOver) → AllByRecursion P (map way_on ws) → IsOneWay ws w → P (way_on w)
one_mapped P [] w f none = absurd none
one_mapped P (v ∷ vs) w f (inl same) = subst (λ (u : WayOver). P (way_on u)) same f.0
one_mapped P (v ∷ vs) w f (inr later) = one_mapped P vs w f.1 later

pub turned : (a b : ℕ) → (a == b) ≡ false → (b == a) ≡ false
turned a b off = go (b == a) refl
  where
    contradicts : true ≡ false → ⊥
    contradicts e = cc e

    go : (x : Bool) → (b == a) ≡ x → x ≡ false
    go false same = refl
    go true same = absurd (contradicts (sym (eq-eqb a b (sym (eqb-true b a same))) ∙ off))

-- ---- one next hop

module _ (g src rp : ℕ) (h : HopOn) (n : Network) (ready : IsReady (h.upper).router n) (held : IsHeld (Star rp) g (pair_on h) n)
    (clear : IsClear g src (pair_on h) n) where
  sends_down : SendsDown g src (root_of h []) n
  sends_down = record {
    station = clear.station;
    there = clear.there;
    sends = record {
      settled = (subst (λ (z : Station). IsAtRest z.state) (same_station ready.there clear.there) ready.at_rest).settled;
      goes_out = record {
        configured = clear.configured;
        group = clear.group;
        source = clear.source;
        wanted = record {
          row = (held.holds).row;
          found = subst (λ (z : Station). row_at (z.state).downstream (star_key (h.upper).iface g) ≡ Some (held.holds).row)
              (same_station held.there clear.there) (held.holds).found;
          none_prunes = clear.unpruned;
        };
      };
    };
    below = clear.one;
  }

  -- one that has another above it
  module _ (k : HopOn) (same : (k.lower).router ≡ (h.upper).router) (there : IsNextHop (Star rp) g (pair_on k) n)
      (tree : IsOnTree g src (k.lower).iface (pair_on h) n) where
    abbrev last : Forwarder
    last = record {
      self = k.lower;
      above = number_of k.lan;
      down = (h.upper).iface;
      below = number_of h.lan;
    }

    here : station_at n (k.lower).router ≡ Some tree.station
    here = ap (station_at n) same ∙ tree.there

    forwards_here : Forwards g src last n
    forwards_here = record {
      station = tree.station;
      there = here;
      passes = Stream Tree.Shared Receiver.Router (passes rp g src (k.lower).iface (pair_on h) n tree.station tree.there ready tree held);
      above = subst (λ (z : Station). slice_get z.links (k.lower).iface ≡ Some (number_of k.lan)) (same_station there.below_is (here))
          (there.goes_over).linked;
      below = subst (HasOneOn (h.upper).iface (number_of h.lan)) (same_station clear.there tree.there) clear.one;
    }

-- ---- from a limit on

-- two routers of a LAN, of which one joins over the other from then on, and no assert is lost where the Joins come
pub record HopStands (x : Join) (g limit : ℕ) (started : ℕ → ℕ) (lans : List Lan) (n : Network) (ms : List Move) (h : HopOn) : Type 0 where
  pub among : IsOneLan lans h.lan
  pub on : AreOn h.lan h.lower h.upper
  pub there : HoldsPast started limit (IsNextHop x g (pair_on h)) n ms
  pub unlost : HoldsPast started limit (IsUnlost x g (pair_on h)) n ms

-- so it is with each next hop
abbrev pub HopsStand : Join → (g limit : ℕ) → (ℕ → ℕ) → List Lan → Network → List Move → ℕ → List HopOn → Type 0
HopsStand x g limit started lans n ms r [] = Unit {0}
HopsStand x g limit started lans n ms r (h ∷ hs) =
    ((h.lower).router ≡ r) × HopStands x g limit started lans n ms h × HopsStand x g limit started lans n ms (h.upper).router hs

-- with those that are quiet throughout
stand_throughout : (x : Join) (g limit : ℕ) (started : ℕ → ℕ) (t : Traffic) (lans : List Lan) (n : Network) (ms : List Move) (r : ℕ) (hs : List HopOn)
    → HopsAreQuiet x g t lans n ms r hs → HopsStand x g limit started lans n ms r hs
stand_throughout x g limit started t lans n ms r [] f = tt
stand_throughout x g limit started t lans n ms r (h ∷ hs) f = (
  f.0,
  record {
    among = (f.1).among;
    on = (f.1).on;
    there = throughout_past started limit (IsNextHop x g (pair_on h)) ms n (f.1).there;
    unlost = throughout_past started limit (IsUnlost x g (pair_on h)) ms n (f.1).unlost;
  },
  stand_throughout x g limit started t lans n ms (h.upper).router hs f.2,
)

-- and from a later limit on
pub stand_later : (x : Join) (g sooner limit : ℕ) (started : ℕ → ℕ) (lans : List Lan) (n : Network) (ms : List Move) → sooner ≤ limit → (r : ℕ)
    (hs : List HopOn) → HopsStand x g sooner started lans n ms r hs → HopsStand x g limit started lans n ms r hs
stand_later x g sooner limit started lans n ms le r [] f = tt
stand_later x g sooner limit started lans n ms le r (h ∷ hs) f = (
  f.0,
  record {
    among = (f.1).among;
    on = (f.1).on;
    there = later_past started limit sooner le (IsNextHop x g (pair_on h)) ms n (f.1).there;
    unlost = later_past started limit sooner le (IsUnlost x g (pair_on h)) ms n (f.1).unlost;
  },
  stand_later x g sooner limit started lans n ms le (h.upper).router hs f.2,
)

-- a router stays ready
pub ready_past : (started : ℕ → ℕ) (bound r : ℕ) (ms : List Move) (n : Network) → IsReady r n → HoldsPast started bound (IsReady r) n ms
ready_past started bound r [] n f = tt
ready_past started bound r (m ∷ ms) n f = (λ past. ready_then r n m f, ready_past started bound r ms (moved n m).1 (ready_then r n m f))

-- what the LANs of a way carry
module _ (x : Join) (g d late bound limit : ℕ) (started : ℕ → ℕ) (t : Traffic) (came : Arrivals) (lans : List Lan) (n : Network) (ms : List Move)
    (quiet : AllByRecursion (LanIsQuiet d late bound started t came n ms) lans) where
  pub its_lan : (h : HopOn) → HopStands x g limit started lans n ms h → LanIsQuiet d late bound started t came n ms h.lan
  its_lan h q = one_lan (LanIsQuiet d late bound started t came n ms) lans h.lan quiet q.among

  pub hears : (h : HopOn) → HopStands x g limit started lans n ms h → (f : Forwarder) → f.self ≡ h.lower → f.above ≡ number_of h.lan
      → HearsAll d started t came n ms f
  hears h q f self above =
      let carried = (its_lan h q).carried in
      record {
        members = routers (h.lan).link;
        among = subst (IsOne (routers (h.lan).link)) (sym self) (q.on).lower;
        carries = subst (λ (l : ℕ). Carries d started t l (routers (h.lan).link) came n ms) (sym above) carried.carries;
        behind = carried.behind f.self (subst (IsOne (routers (h.lan).link)) (sym self) (q.on).lower);
      }

  pub all_hear : (h : HopOn) (hs : List HopOn) → HopsStand x g limit started lans n ms (h.upper).router hs
      → AllByRecursion (HearsAll d started t came n ms) (forwarders h hs)
  all_hear h [] rest = tt
  all_hear h (k ∷ ks) rest = (hears k rest.1 _ refl refl, all_hear k ks rest.2)

module _ (g src rp d late bound limit : ℕ) (started : ℕ → ℕ) (t : Traffic) (came : Arrivals) (lans : List Lan) (n : Network) (ms : List Move)
    (quiet : AllByRecursion (LanIsQuiet d late bound started t came n ms) lans) where
  abbrev Quiet : HopOn → Type 0
  Quiet h = HopStands (Star rp) g limit started lans n ms h

  abbrev Rest : HopOn → List HopOn → Type 0
  Rest h hs = HopsStand (Star rp) g limit started lans n ms (h.upper).router hs

  abbrev PastIt : (Network → Type 0) → Type 0
  PastIt P = HoldsPast started limit P n ms

  abbrev AreHeldOn : List HopOn → Network → Type 0
  AreHeldOn hs x = AllByRecursion (λ c. IsHeld (Star rp) g c x) (map pair_on hs)

  lan : (h : HopOn) → Quiet h → LanIsQuiet d late bound started t came n ms h.lan
  lan = its_lan (Star rp) g d late bound limit started t came lans n ms quiet

  upper_ready : (h : HopOn) → Quiet h → PastIt (IsReady (h.upper).router)
  upper_ready h q = ready_past started limit (h.upper).router ms n ((lan h q).meet.ready h.upper (q.on).upper)

  -- who sends on the link of a next hop isn't its lower router
  sender_is : (h : HopOn) (hs : List HopOn) → Rest h hs → sender_of (root_of h hs) (forwarders h hs) ≡ (h.upper).router
  sender_is h [] rest = refl
  sender_is h (k ∷ ks) rest = rest.0

  pub sender_apart : (h : HopOn) (hs : List HopOn) → Quiet h → Rest h hs → (sender_of (root_of h hs) (forwarders h hs) == (h.lower).router) ≡ false
  sender_apart h hs q rest =
      subst (λ (r : ℕ). (r == (h.lower).router) ≡ false) (sym (sender_is h hs rest)) (turned (h.lower).router (h.upper).router (q.on).apart)

  module _ (P Q R : Network → Type 0) (so : (x : Network) → P x → Q x → R x) where
    both : PastIt P → PastIt Q → PastIt R
    both p q = both_past started limit P Q R so ms n p q

  less : (P R : Network → Type 0) → ((x : Network) → P x → R x) → PastIt P → PastIt R
  less P R so p = same_past started limit P R so ms n p

  forwards_past : (h k : HopOn) → Quiet h → Quiet k → (same : (k.lower).router ≡ (h.upper).router) → PastIt (IsHeld (Star rp) g (pair_on h))
      → PastIt (λ x. IsOnTree g src (k.lower).iface (pair_on h) x × IsClear g src (pair_on h) x)
      → PastIt (Forwards g src (record {
        self = k.lower;
        above = number_of k.lan;
        down = (h.upper).iface;
        below = number_of h.lan;
      }))
  forwards_past h k q above same held tree =
      both (λ x. IsReady (h.upper).router x × IsHeld (Star rp) g (pair_on h) x)
      (λ x. IsNextHop (Star rp) g (pair_on k) x × (IsOnTree g src (k.lower).iface (pair_on h) x × IsClear g src (pair_on h) x))
      (Forwards g src (record {
        self = k.lower;
        above = number_of k.lan;
        down = (h.upper).iface;
        below = number_of h.lan;
      }))
      (λ x a b. forwards_here g src rp h x a.0 a.1 (b.1).1 k same b.0 (b.1).0)
      (both (IsReady (h.upper).router) (IsHeld (Star rp) g (pair_on h)) (λ x. IsReady (h.upper).router x × IsHeld (Star rp) g (pair_on h) x)
      (λ x a b. (a, b)) (upper_ready h q) held)
      (both (IsNextHop (Star rp) g (pair_on k)) (λ x. IsOnTree g src (k.lower).iface (pair_on h) x × IsClear g src (pair_on h) x)
      (λ x. IsNextHop (Star rp) g (pair_on k) x × (IsOnTree g src (k.lower).iface (pair_on h) x × IsClear g src (pair_on h) x)) (λ x a b. (a, b))
      above.there tree)

  pub way_past : (h : HopOn) (hs : List HopOn) → Quiet h → Rest h hs → PastIt (AreHeldOn (h ∷ hs)) → PastIt (AreOnTree g src h hs)
      → PastIt (AreForwarding g src (root_of h hs) (number_of h.lan) (forwarders h hs))
  way_past h [] q rest held tree =
      both (λ x. IsReady (h.upper).router x × IsHeld (Star rp) g (pair_on h) x) (IsClear g src (pair_on h))
      (AreForwarding g src (root_of h []) (number_of h.lan) []) (λ x a b. (refl, sends_down g src rp h x a.0 a.1 b))
      (both (IsReady (h.upper).router) (AreHeldOn (h ∷ [])) (λ x. IsReady (h.upper).router x × IsHeld (Star rp) g (pair_on h) x)
      (λ x a b. (a, b.0)) (upper_ready h q) held)
      tree
  way_past h (k ∷ ks) q rest held tree =
      both
      (Forwards g src (record {
        self = k.lower;
        above = number_of k.lan;
        down = (h.upper).iface;
        below = number_of h.lan;
      }))
      (AreForwarding g src (root_of k ks) (number_of k.lan) (forwarders k ks))
      (AreForwarding g src (root_of h (k ∷ ks)) (number_of h.lan) (forwarders h (k ∷ ks)))
      (λ x a b. (refl, a, sender_apart k ks rest.1 rest.2, b))
      (forwards_past h k q rest.1 rest.0 (less (AreHeldOn (h ∷ k ∷ ks)) (IsHeld (Star rp) g (pair_on h)) (λ x a. a.0) held)
      (less (AreOnTree g src h (k ∷ ks)) (λ x. IsOnTree g src (k.lower).iface (pair_on h) x × IsClear g src (pair_on h) x) (λ x a. (a.0, a.1)) tree))
      (way_past k ks rest.1 rest.2 (less (AreHeldOn (h ∷ k ∷ ks)) (AreHeldOn (k ∷ ks)) (λ x a. a.1) held)
      (less (AreOnTree g src h (k ∷ ks)) (AreOnTree g src k ks) (λ x a. a.2) tree))

  -- ---- from when the next hops hold the group

  module _ (h : HopOn) (hs : List HopOn) (f : Forwarder) (r : ℕ) (isg : IsJoin (Star rp) g)
      (hops : HopsStand (Star rp) g limit started lans n ms r (h ∷ hs)) (self : f.self ≡ h.lower) (above : f.above ≡ number_of h.lan)
      (held : HoldsPast started limit (λ x. AllByRecursion (λ c. IsHeld (Star rp) g c x) (map pair_on (h ∷ hs))) n ms)
      (tree : HoldsPast started limit (AreOnTree g src h hs) n ms) (passes : HoldsPast started limit (Forwards g src f) n ms) where
    apart : (sender_of (root_of h hs) (forwarders h hs) == (f.self).router) ≡ false
    apart =
        subst (λ (y : Member). (sender_of (root_of h hs) (forwarders h hs) == y.router) ≡ false) (sym self) (sender_apart h hs hops.1 hops.2)

    pub all_forward : HoldsPast started limit (AreForwarding g src (root_of h hs) f.below (f ∷ forwarders h hs)) n ms
    all_forward =
        both (Forwards g src f) (AreForwarding g src (root_of h hs) (number_of h.lan) (forwarders h hs))
        (AreForwarding g src (root_of h hs) f.below (f ∷ forwarders h hs))
        (λ x a b. (refl, a, apart, subst (λ (l : ℕ). AreForwarding g src (root_of h hs) l (forwarders h hs) x) (sym above) b)) passes
        (way_past h hs hops.1 hops.2 held tree)

    pub served_once : HoldsPastOn started limit (AreServedOnce g src d started t (root_of h hs) f.below (f ∷ forwarders h hs)) n ms
    served_once =
        each_packet_comes_once g src d limit started t came (root_of h hs) f.below (f ∷ forwarders h hs) n ms isg.multicast isg.goes_far
        ((lan h hops.1).carried).sent (
          hears (Star rp) g d late bound limit started t came lans n ms quiet h hops.1 f self above,
          all_hear (Star rp) g d late bound limit started t came lans n ms quiet h hs hops.2,
        ) all_forward

    pub none_besides : EachMove (AreAlonePast g src started limit (root_of h hs) f.below (f ∷ forwarders h hs)) n ms
        → HoldsPastOn started limit (AllCameDown g src (root_of h hs) f.below (f ∷ forwarders h hs)) n ms
    none_besides alone =
        nothing_else_comes g src limit started (root_of h hs) f.below (f ∷ forwarders h hs) n ms isg.goes_far all_forward alone

module _ (g src rp d late lag bound first : ℕ) (started : ℕ → ℕ) (t : Traffic) (came : Arrivals) (plan : Plan) (n : Network) (ms : List Move)
    (h : HopOn) (hs : List HopOn) (f : Forwarder) (q : IsQuietPlan d late lag bound started t came plan n ms)
    (o : IsOpen g src rp first bound started plan n ms h hs f) where
  abbrev its_way : WayOver
  its_way = record { join = Star rp; group = g; first = first; hops = h ∷ hs }

  way : WayIsQuiet d lag bound started t plan.lans n ms its_way
  way = one_way (WayIsQuiet d lag bound started t plan.lans n ms) plan.ways its_way q.ways o.among

  stand : HopsStand (Star rp) g bound started plan.lans n ms first (h ∷ hs)
  stand = stand_throughout (Star rp) g bound started t plan.lans n ms first (h ∷ hs) (way).hops

  held : HoldsPast started bound (λ x. AllByRecursion (λ c. IsHeld (Star rp) g c x) (map pair_on (h ∷ hs))) n ms
  held =
      same_past started bound (HasSettled (layout_of d late started t plan)) (λ x. AllByRecursion (λ c. IsHeld (Star rp) g c x) (map pair_on (h ∷ hs)))
      (λ x a. one_mapped (λ w. AllByRecursion (λ c. IsHeld w.join w.group c x) w.hops) plan.ways its_way a.ways o.among) ms n
      (carried_network_settles d late lag bound started t came plan n ms q)

  once : HoldsPastOn started bound (AreServedOnce g src d started t (root_of h hs) f.below (f ∷ forwarders h hs)) n ms
  once =
      served_once g src rp d late bound bound started t came plan.lans n ms q.lans h hs f first (way).addresses stand o.self o.above held o.tree
      o.passes

  nothing_else : EachMove (AreAlonePast g src started bound (root_of h hs) f.below (f ∷ forwarders h hs)) n ms
      → HoldsPastOn started bound (AllCameDown g src (root_of h hs) f.below (f ∷ forwarders h hs)) n ms
  nothing_else alone =
      none_besides g src rp d late bound bound started t came plan.lans n ms q.lans h hs f first (way).addresses stand o.self o.above held
      o.tree o.passes alone

pub carried_network_serves_once : CarriedNetworkServesOnce
carried_network_serves_once = once

pub carried_network_brings_nothing_else : CarriedNetworkBringsNothingElse
carried_network_brings_nothing_else = nothing_else
