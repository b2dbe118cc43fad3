-- A way of the source's own tree is joined by the bound, and each of its routers takes the packets on the way to the source.
use Rattle.std.{proofs.Common.{List, Option, Some, [], ap, arith, eq-eqb, false, inl, inr, is_some, map, option_map, refl, subst, sym, true, ℕ, ◌*◌, ◌+◌, ◌<◌, ◌==◌, ◌∙◌, ◌∷◌, ◌≡◌, ◌≤◌, ◌⊎◌}, specs.{List.AllByRecursion, Prelude.slice_get}}
use Rattle.pim_types.{specs.{Keys.source_key, declared.path.{Hop.Hop, Path.Path}}}
use Rattle.pim_model.{specs.{Network.{Move, Network, Station, station_at}, Sets.{assert_source, is_loser}, State.{State, iface_count, is_up}, Tables.{has_row, row_at, same_option}, Unicast.{is_connected, is_rpf_interface, route, rpf_interface}}}
use Rattle.law_streams.{proofs.Pairs.same_station, specs.{InTimeJoins.{IsHeld, IsJoin, IsUnlost, Source, Wants, rpf_of}, Roots.OnTree, Served.{IsSourceJoined, IsSourceMember, OnShortestPath, renewed}, Turning.may_turn}}
use Rattle.law_converges.{proofs.{CarriedWays.{HopStands, HopsStand, all_hear, hears, its_lan, stand_later, turned}, ComesOnce.each_packet_comes_once, NothingElse.nothing_else_comes, Past.{both_past, each_past, later_past, same_past, throughout_past}, RoutesToRp.{AreJoined, all_meet, are_joined, within}, RpfStays.{IsOver, over_rpf}, SourceStreams.{on_path, wants_source}}, specs.{Carried.{Arrivals, Traffic}, CarriedNetwork.{HopOn, IsQuietPlan, Lan, LanIsQuiet, Plan, number_of}, CarriedWays.{forwarders, pair_on}, ComesOnce.{AreForwarding, Forwarder, Forwards, HasOneOn, OfSource, PassesOn, sender_of}, JoinedWays.a_hop, LinkDr.{Member, Stands}, Past.{HoldsPast}, RoutesToRp.{AllCanJoin, AreChosen, RoutesLead, Routing, WantsFrom, hops_up}, RpfJoins.IsNextHop, SourceWays.{AreFreeForSource, EachSourceMemberIsServed, EveryWantOfSourceIsServedOnce, IsReachedBySource, IsServedBySource, IsSingle, PassesSourceDown, ReachesMember, SentComesOnPath, ServesSourceMember, TakesSource, source_root_of, to_member}}}

-- the way to the source is over the interface of RPF'(S,G)
on_source_so : (src g : ℕ) (s : State) (hop : Hop) → rpf_of (Source src) s g ≡ Some hop → is_rpf_interface s src hop.iface.number ≡ true
unfolding rpf_interface
on_source_so src g s hop e =
    let f : IsOver (route s src) hop = over_rpf (Source src) g s hop e in
    ap (λ (o : Option Path). same_option (option_map (λ (p : Path). p.iface.number) o) (Some hop.iface.number)) f.is
    ∙ eq-eqb (f.path.iface.number) hop.iface.number f.over

-- ---- at one network: a next hop, and the router below another one

module _ (g src : ℕ) (h : HopOn) (n : Network) where
  -- RPF'(S,G) of the lower router is the upper one, which hasn't lost the assert
  record IsNow : Type 0 where
    next : IsNextHop (Source src) g (pair_on h) n
    unlost : IsUnlost (Source src) g (pair_on h) n
    stands : Stands (number_of h.lan) h.lower n

  module _ (f : IsNow) where
    -- the upper one sends what comes to it on the LAN
    module _ (held : IsHeld (Source src) g (pair_on h) n) where
      joined : (st : Station) → station_at n (h.upper).router ≡ Some st → IsSourceJoined st.state g src (h.upper).iface
      unfolding has_row
      joined st at = record {
        configured = subst (λ (z : Station). (h.upper).iface < iface_count z.state) (same_station (f.next).above_is at)
            (((f.next).listens).hears).configured;
        joined = subst (λ (z : Station). is_some (row_at (z.state).downstream (source_key (h.upper).iface g src)) ≡ true) (same_station held.there at)
            (ap is_some (held.holds).found);
        source = subst (λ (z : Station). is_loser (assert_source z.state g src (h.upper).iface) ≡ false) (same_station (f.unlost).there at)
            (f.unlost).unlost;
      }

    one_on : (single : IsSingle h n) (st : Station) → station_at n (h.upper).router ≡ Some st → HasOneOn (h.upper).iface (number_of h.lan) st
    one_on single st at =
        subst (HasOneOn (h.upper).iface (number_of h.lan)) (same_station single.there at) (record {
          linked = subst (λ (z : Station). slice_get z.links (h.upper).iface ≡ Some (number_of h.lan)) (same_station (f.next).above_is single.there)
              ((f.next).listens).linked;
          single = single.single;
        })

    -- the lower one passes on what it takes there
    module _ (takes : TakesSource g src (h.lower).router (h.lower).iface n) (down : ℕ) where
      passes_source : IsSourceMember (takes.station).state g src down ⊎ IsSourceJoined (takes.station).state g src down
          → (down == (h.lower).iface) ≡ false → PassesOn (takes.station).state g src (h.lower).iface down
      passes_source wanted off =
          OfSource (record {
            configured = subst (λ (z : Station). (h.lower).iface < iface_count z.state) its
                (within (((f.stands).sends).station).state.configured.interfaces (h.lower).iface (((f.stands).sends).readable).from_host);
            is_up = subst (λ (z : Station). is_up z.state (h.lower).iface ≡ true) its ((f.stands).sends).up;
            foreign = takes.foreign;
            way = subst (λ (z : Station). is_rpf_interface z.state src (h.lower).iface ≡ true) (same_station (f.next).below_is takes.there)
                (on_source_so src g ((f.next).below).state (pair_on h).hop ((f.next).goes_over).rpf);
            turns = takes.turns;
            wanted = wanted;
            room = takes.room;
            on = off;
          })
        where
          its : ((f.stands).sends).station ≡ takes.station
          its = same_station ((f.stands).sends).there takes.there

      forwards_to : (link : ℕ) → PassesOn (takes.station).state g src (h.lower).iface down → HasOneOn down link takes.station
          → Forwards g src (record { self = h.lower; above = number_of h.lan; down = down; below = link }) n
      forwards_to link passes below = record {
        station = takes.station;
        there = takes.there;
        passes = passes;
        above = subst (λ (z : Station). slice_get z.links (h.lower).iface ≡ Some (number_of h.lan)) (same_station (f.next).below_is takes.there)
            ((f.next).goes_over).linked;
        below = below;
      }

-- ---- at one network: a way

-- each next hop is the lower router of the hop above it
abbrev AreInLine : (r : ℕ) → List HopOn → Type 0
AreInLine r [] = Unit {0}
AreInLine r (h ∷ hs) = ((h.lower).router ≡ r) × (((h.lower).router == (h.upper).router) ≡ false) × AreInLine (h.upper).router hs

module _ (g src : ℕ) (n : Network) where
  abbrev Held : List HopOn → Type 0
  Held hs = AllByRecursion (λ c. IsHeld (Source src) g c n) (map pair_on hs)

  sender_is : (h : HopOn) (hs : List HopOn) → AreInLine (h.upper).router hs → sender_of (source_root_of h hs) (forwarders h hs) ≡ (h.upper).router
  sender_is h [] line = refl
  sender_is h (k ∷ ks) line = line.0

  sender_apart : (h : HopOn) (hs : List HopOn) → ((h.lower).router == (h.upper).router) ≡ false → AreInLine (h.upper).router hs
      → (sender_of (source_root_of h hs) (forwarders h hs) == (h.lower).router) ≡ false
  sender_apart h hs apart line =
      subst (λ (r : ℕ). (r == (h.lower).router) ≡ false) (sym (sender_is h hs line)) (turned (h.lower).router (h.upper).router apart)

  way_now : (h : HopOn) (hs : List HopOn) → AreInLine (h.upper).router hs → AllByRecursion (λ k. IsNow g src k n) (h ∷ hs) → Held (h ∷ hs)
      → AreFreeForSource g src h hs n → AreForwarding g src (source_root_of h hs) (number_of h.lan) (forwarders h hs) n
  way_now h [] line now held single = (
    refl,
    record {
      station = single.station;
      there = single.there;
      sends = joined g src h n now.0 held.0 single.station single.there;
      below = one_on g src h n now.0 single single.station single.there;
    },
  )
  way_now h (k ∷ ks) line now held free = (
    refl,
    forwards_to g src k n (now.1).0 free.1 (h.upper).iface (number_of h.lan)
        (passes_source g src k n (now.1).0 free.1 (h.upper).iface (inr (joined g src h n now.0 held.0 (free.1).station at)) free.2)
        (one_on g src h n now.0 free.0 (free.1).station at),
    sender_apart k ks line.1 line.2,
    way_now k ks line.2 now.1 held.1 free.3,
  )
    where
      at : station_at n (h.upper).router ≡ Some (free.1).station
      at = ap (station_at n) (sym line.0) ∙ (free.1).there

-- ---- from a limit on

module _ (g src d late bound limit : ℕ) (started : ℕ → ℕ) (t : Traffic) (came : Arrivals) (lans : List Lan) (n : Network) (ms : List Move)
    (quiet : AllByRecursion (LanIsQuiet d late bound started t came n ms) lans) where
  abbrev PastIt : (Network → Type 0) → Type 0
  PastIt P = HoldsPast started limit P n ms

  lan : (h : HopOn) → HopStands (Source src) g limit started lans n ms h → LanIsQuiet d late bound started t came n ms h.lan
  lan = its_lan (Source src) g d late bound limit started t came lans n ms quiet

  now_past : (h : HopOn) → HopStands (Source src) g limit started lans n ms h → PastIt (IsNow g src h)
  now_past h q =
      both_past started limit (λ x. IsNextHop (Source src) g (pair_on h) x × IsUnlost (Source src) g (pair_on h) x) (Stands (number_of h.lan) h.lower)
      (IsNow g src h) (λ x a b. record { next = a.0; unlost = a.1; stands = b }) ms n
      (both_past started limit (IsNextHop (Source src) g (pair_on h)) (IsUnlost (Source src) g (pair_on h))
      (λ x. IsNextHop (Source src) g (pair_on h) x × IsUnlost (Source src) g (pair_on h) x) (λ x a b. (a, b)) ms n q.there q.unlost)
      (throughout_past started limit (Stands (number_of h.lan) h.lower) ms n (((lan h q).meet).stand h.lower (q.on).lower))

  all_now : (r : ℕ) (hs : List HopOn) → HopsStand (Source src) g limit started lans n ms r hs → AllByRecursion (λ h. PastIt (IsNow g src h)) hs
  all_now r [] stand = tt
  all_now r (h ∷ hs) stand = (now_past h stand.1, all_now (h.upper).router hs stand.2)

  in_line : (r : ℕ) (hs : List HopOn) → HopsStand (Source src) g limit started lans n ms r hs → AreInLine r hs
  in_line r [] stand = tt
  in_line r (h ∷ hs) stand = (stand.0, ((stand.1).on).apart, in_line (h.upper).router hs stand.2)

  module _ (h : HopOn) (hs : List HopOn) (f : Forwarder) (r : ℕ) (isg : IsJoin (Source src) g)
      (stand : HopsStand (Source src) g limit started lans n ms r (h ∷ hs))
      (held : PastIt (λ x. AllByRecursion (λ c. IsHeld (Source src) g c x) (map pair_on (h ∷ hs)))) (p : PassesSourceDown g src started limit n ms h hs f)
    where
      way : PastIt (AreForwarding g src (source_root_of h hs) (number_of h.lan) (forwarders h hs))
      way =
          both_past started limit (λ x. AllByRecursion (λ k. IsNow g src k x) (h ∷ hs) × AllByRecursion (λ c. IsHeld (Source src) g c x) (map pair_on (h ∷ hs)))
          (AreFreeForSource g src h hs) (AreForwarding g src (source_root_of h hs) (number_of h.lan) (forwarders h hs))
          (λ x a b. way_now g src x h hs (in_line (h.upper).router hs stand.2) a.0 a.1 b) ms n
          (both_past started limit (λ x. AllByRecursion (λ k. IsNow g src k x) (h ∷ hs)) (λ x. AllByRecursion (λ c. IsHeld (Source src) g c x) (map pair_on (h ∷ hs)))
          (λ x. AllByRecursion (λ k. IsNow g src k x) (h ∷ hs) × AllByRecursion (λ c. IsHeld (Source src) g c x) (map pair_on (h ∷ hs)))
          (λ x a b. (a, b)) ms n
          (each_past started limit (λ k x. IsNow g src k x) (h ∷ hs) n ms (all_now r (h ∷ hs) stand)) held)
          p.free

      apart : (sender_of (source_root_of h hs) (forwarders h hs) == (f.self).router) ≡ false
      apart =
          subst (λ (y : Member). (sender_of (source_root_of h hs) (forwarders h hs) == y.router) ≡ false) (sym p.self)
          (sender_apart g src n h hs ((stand.1).on).apart (in_line (h.upper).router hs stand.2))

      all_forward : PastIt (AreForwarding g src (source_root_of h hs) f.below (f ∷ forwarders h hs))
      all_forward =
          both_past started limit (Forwards g src f) (AreForwarding g src (source_root_of h hs) (number_of h.lan) (forwarders h hs))
          (AreForwarding g src (source_root_of h hs) f.below (f ∷ forwarders h hs))
          (λ x a b. (refl, a, apart, subst (λ (l : ℕ). AreForwarding g src (source_root_of h hs) l (forwarders h hs) x) (sym p.above) b)) ms n p.passes way

      served : IsServedBySource g src d started limit t n ms h hs f
      served = record {
        once =
            each_packet_comes_once g src d limit started t came (source_root_of h hs) f.below (f ∷ forwarders h hs) n ms isg.multicast isg.goes_far
            ((lan h stand.1).carried).sent (
              hears (Source src) g d late bound limit started t came lans n ms quiet h stand.1 f p.self p.above,
              all_hear (Source src) g d late bound limit started t came lans n ms quiet h hs stand.2,
            ) all_forward;
        only = λ alone.
            nothing_else_comes g src limit started (source_root_of h hs) f.below (f ∷ forwarders h hs) n ms isg.goes_far all_forward alone;
      }

-- ---- a quiet plan

module _ (g src d late lag bound limit : ℕ) (started : ℕ → ℕ) (t : Traffic) (came : Arrivals) (plan : Plan) (routing : Routing) (n : Network)
    (ms : List Move) (r k : ℕ) (h : HopOn) (hs : List HopOn) (q : IsQuietPlan d late lag bound started t came plan n ms)
    (lead : RoutesLead (Source src) g plan.lans routing n ms) (chosen : AreChosen (Source src) g bound started routing n ms)
    (all : AllCanJoin (Source src) g t routing n ms) (is : routing.distance r ≡ Some k)
    (wants : WantsFrom (Source src) g d lag started bound limit r k n ms) (next : hops_up routing k r ≡ h ∷ hs) where
  its : AreJoined (Source src) g bound limit started plan.lans n ms r (h ∷ hs)
  its =
      subst (λ (l : List HopOn). AreJoined (Source src) g bound limit started plan.lans n ms r l) next
      (are_joined (Source src) g d late lag bound limit started t came plan.lans routing n ms r k
      (record { few = q.few; meet = all_meet d late bound started t came n ms plan.lans q.lans; lead = lead; chosen = chosen }) all q.together is wants)

  no_sooner : (b : ℕ) → bound + 3 * lag + d ≤ wants.first → wants.first + b ≤ limit → bound ≤ limit
  no_sooner b e f = omega (arith, e, f)

  stand : HopsStand (Source src) g limit started plan.lans n ms r (h ∷ hs)
  stand =
      stand_later (Source src) g bound limit started plan.lans n ms (no_sooner (k * a_hop d lag) wants.later wants.by) r (h ∷ hs) (its).stand

  its_now : HoldsPast started limit (IsNow g src h) n ms
  its_now = now_past g src d late bound limit started t came plan.lans n ms q.lans h (stand).1

  it_is_served : (f : Forwarder) → PassesSourceDown g src started limit n ms h hs f → IsServedBySource g src d started limit t n ms h hs f
  it_is_served f p = served g src d late bound limit started t came plan.lans n ms q.lans h hs f r all.addresses stand (its).held p

pub every_want_of_source_is_served_once : EveryWantOfSourceIsServedOnce
every_want_of_source_is_served_once g src d late lag bound limit started t came plan routing n ms r k h hs f q lead chosen all is wants next p =
    it_is_served g src d late lag bound limit started t came plan routing n ms r k h hs q lead chosen all is wants next f p

-- ---- a member

module _ (g src d late lag bound first limit k : ℕ) (started : ℕ → ℕ) (t : Traffic) (came : Arrivals) (plan : Plan) (routing : Routing)
    (n : Network) (ms : List Move) (r i link : ℕ) (h : HopOn) (hs : List HopOn) (q : IsQuietPlan d late lag bound started t came plan n ms)
    (lead : RoutesLead (Source src) g plan.lans routing n ms) (chosen : AreChosen (Source src) g bound started routing n ms)
    (all : AllCanJoin (Source src) g t routing n ms) (o : IsReachedBySource g src d lag bound first limit k started routing n ms r i link h hs) where
  wants : WantsFrom (Source src) g d lag started bound limit r k n ms
  wants = record {
    first = first;
    wants = same_past started first (ServesSourceMember g src r i) (Wants (Source src) g r)
        (λ x f. record { station = f.station; there = f.there; wanted = wants_source (f.station).state g src i (inl f.member) }) ms n o.serves;
    later = o.later;
    by = o.by;
  }

  no_later : (b : ℕ) → first + b ≤ limit → first ≤ limit
  no_later b e = omega (arith, e)

  at_router : (h.lower).router ≡ r
  at_router = (stand g src d late lag bound limit started t came plan routing n ms r k h hs q lead chosen all o.distance wants o.next_hops).0

  forwards_now : (x : Network) → IsNow g src h x → ServesSourceMember g src r i x → ReachesMember g src link i h x → Forwards g src (to_member i link h) x
  forwards_now x now serves reaches =
      forwards_to g src h x now reaches.takes i link
      (passes_source g src h x now reaches.takes i
      (inl (subst (λ (z : Station). IsSourceMember z.state g src i)
      (same_station serves.there (ap (station_at x) (sym at_router) ∙ (reaches.takes).there)) serves.member)) reaches.apart)
      reaches.below

  passes : HoldsPast started limit (Forwards g src (to_member i link h)) n ms
  passes =
      both_past started limit (λ x. IsNow g src h x × ServesSourceMember g src r i x) (ReachesMember g src link i h) (Forwards g src (to_member i link h))
      (λ x a b. forwards_now x a.0 a.1 b) ms n
      (both_past started limit (IsNow g src h) (ServesSourceMember g src r i) (λ x. IsNow g src h x × ServesSourceMember g src r i x) (λ x a b. (a, b)) ms n
      (its_now g src d late lag bound limit started t came plan routing n ms r k h hs q lead chosen all o.distance wants o.next_hops)
      (later_past started limit first (no_later (k * a_hop d lag) o.by) (ServesSourceMember g src r i) ms n o.serves))
      o.reaches

  member_is_served : IsServedBySource g src d started limit t n ms h hs (to_member i link h)
  member_is_served =
      it_is_served g src d late lag bound limit started t came plan routing n ms r k h hs q lead chosen all o.distance wants o.next_hops
      (to_member i link h) (record { free = o.free; self = refl; above = refl; passes = passes })

pub each_source_member_is_served : EachSourceMemberIsServed
each_source_member_is_served = member_is_served

-- ---- the source's own router

connected_may : (s : State) (g src up : ℕ) → is_connected s src ≡ true → may_turn s g src up ≡ true
unfolding may_turn
connected_may s g src up e = rw e refl

pub sent_comes_on_path : SentComesOnPath
sent_comes_on_path s e g src up down lives payload at joined off sent = record {
  brought = record {
    bytes = sent.bytes;
    packet = sent.packet;
    reads = sent.reads;
    fits = sent.fits;
    group = sent.group;
    source = sent.source;
    is_data = sent.is_data;
    same = sent.same;
    time_to_live = sent.time_to_live;
    comes = OnTree (record { number = up }) sent.done (inl path) off;
  };
  of_tree = path;
}
  where
    path : OnShortestPath (renewed s (sent.packet).destination (sent.packet).source up) (sent.packet).destination (sent.packet).source up
    path =
        subst (λ (d : ℕ). OnShortestPath (renewed s d (sent.packet).source up) d (sent.packet).source up) (sym sent.group)
        (subst (λ (a : ℕ). OnShortestPath (renewed s g a up) g a up) (sym sent.source)
        (on_path s g src up down at.way (inr (connected_may s g src up at.connected)) (inr joined)))
