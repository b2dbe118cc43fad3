-- The routes make the way, the membership wants the group, and so the packets come down to the member.
use Rattle.std.{proofs.Common.{Bool, List, Some, [], ap, arith, eq-eqb, eqb-true, false, refl, subst, sym, true, ℕ, ◌*◌, ◌+◌, ◌<◌, ◌==◌, ◌∙◌, ◌∷◌, ◌≡◌, ◌≤◌}, specs.{List.AllByRecursion, Prelude.slice_get}}
use Rattle.pim_types.{specs.Keys.source_key}
use Rattle.pim_model.{specs.{Network.{Move, Network, Station, moved, station_at}, Receivers.local_receiver_exclude, Sets.{assert_source, assert_star, is_loser, prunes}, State.iface_count, Tables.row_at}}
use Rattle.law_streams.{proofs.Pairs.same_station, specs.InTimeJoins.{IsJoin, Star, Wants}}
use Rattle.law_converges.{proofs.{AloneOnLink.{members_then, nothing_else}, CarriedNetwork.one_lan, CarriedWays.{HopStands, HopsStand, stand_later}, LoserJoins.loser_joins_winner, MemberLinks.{IsOpenTo, ReachesHosts, among, not_lost, once, unlost_past, wanted}, Past.{both_past, later_past, same_past, throughout_past}, RoutedWays.tree_past, RoutesToRp.{AreJoined, all_meet, are_joined, routes_lead_to_rp, within}, Unheard.{HasState, none_lost_past, none_pruned_past}}, specs.{AloneOnLink.AreMembers, Carried.{Arrivals, Traffic}, CarriedNetwork.{AreOn, HopOn, IsOneLan, IsQuietPlan, Lan, LanIsQuiet, Plan, number_of}, CarriedWays.AreOnTree, EachMember.{AreApart, ComesOver, EachComesOver, EachMemberIsServed, GivesWay, HopIsFree, IsIncluded, IsReached, IsServed, NeitherBeaten, TakesOnTree}, JoinedWays.a_hop, LinkDr.{IsOne, Member, Stands}, Past.HoldsPast, RoutedWays.{AreFree, IsFree, TakesIn}, RoutesToRp.{AllCanJoin, AreChosen, AreRouted, AreRpf, ByRoute, HasWayUp, IsChosen, IsNamed, LanMeets, LeadsUp, RoutesLead, Routing, WantsFrom}, Settles.routers, Unheard.HearsNoBetter}}

-- ---- whoever is on a link stays one of its routers, with one interface

module _ (started : ℕ → ℕ) (limit link : ℕ) (members : List Member) where
  members_past : (ms : List Move) (n : Network) → AreMembers link members n → HoldsPast started limit (AreMembers link members) n ms
  members_past [] n f = tt
  members_past (m ∷ ms) n f =
      let then : AreMembers link members (moved n m).1 = members_then link members n m f in (λ past. then, members_past ms (moved n m).1 then)

  single_on : (n : Network) (y : Member) → ((u v : Member) → IsOne members u → IsOne members v → u.router ≡ v.router → u ≡ v) → IsOne members y
      → AreMembers link members n → (st : Station) → station_at n y.router ≡ Some st → (i : ℕ) → slice_get st.links i ≡ Some link → i ≡ y.iface
  single_on n y single is f st at i linked =
      let z = f y.router i st at linked in
      z.iface ∙ ap (λ (v : Member). v.iface) (sym (single y z.member is z.among z.router))

module _ (g src rp d late lag bound limit k : ℕ) (started : ℕ → ℕ) (t : Traffic) (came : Arrivals) (plan : Plan) (routing : Routing)
    (n : Network) (ms : List Move) (a : Lan) (x : Member) (h : HopOn) (hs : List HopOn) (q : IsQuietPlan d late lag bound started t came plan n ms)
    (members : AllByRecursion (λ (b : Lan). AreMembers (number_of b) (routers b.link) n) plan.lans)
    (lead : RoutesLead (Star rp) g plan.lans routing n ms) (over : EachComesOver rp g d bound started routing n ms)
    (all : AllCanJoin (Star rp) g t routing n ms) (o : IsReached g src d lag bound limit k started plan routing n ms a x h hs) where
  abbrev Later : (Network → Type 0) → Type 0
  Later P = HoldsPast started limit P n ms

  both : (P Q R : Network → Type 0) → ((n : Network) → P n → Q n → R n) → Later P → Later Q → Later R
  both P Q R so p e = both_past started limit P Q R so ms n p e

  pair : (P Q : Network → Type 0) → Later P → Later Q → Later (λ n. P n × Q n)
  pair P Q p e = both P Q (λ n. P n × Q n) (λ n u v. (u, v)) p e

  no_sooner : bound ≤ limit
  no_sooner = so (k * a_hop d lag) o.by
    where
      so : (b : ℕ) → bound + 3 * lag + d + b ≤ limit → bound ≤ limit
      so b e = omega (arith, e)

  sooner : (P : Network → Type 0) → HoldsPast started bound P n ms → Later P
  sooner P f = later_past started limit bound no_sooner P ms n f

  lan_of : (b : Lan) → IsOneLan plan.lans b → LanIsQuiet d late bound started t came n ms b
  lan_of b is = one_lan (LanIsQuiet d late bound started t came n ms) plan.lans b q.lans is

  -- ---- the routes

  abbrev Unlost : Member → Network → Type 0
  Unlost y = HasState (λ s. is_loser (assert_star s g y.iface) ≡ false) y.router

  chosen_over : (c : HopOn) → IsOneLan plan.lans c.lan → AreOn c.lan c.lower c.upper → IsJoin (Star rp) g
      → ComesOver rp g d bound started n ms c → HoldsPast started bound (IsChosen (Star rp) g c) n ms
  chosen_over c among on isg (NeitherBeaten named lower upper) =
      both_past started bound (IsNamed (Star rp) g c) (λ n. Unlost c.lower n × Unlost c.upper n) (IsChosen (Star rp) g c)
      (λ n f u. record {
        below = f.station;
        below_is = f.there;
        chooses = ByRoute f.path f.route f.to
            (subst (λ (z : Station). is_loser (assert_star z.state g (c.lower).iface) ≡ false) (same_station (u.0).there f.there) (u.0).good);
        above = (u.1).station;
        above_is = (u.1).there;
        unlost_above = (u.1).good;
      }) ms n named
      (both_past started bound (Unlost c.lower) (Unlost c.upper) (λ n. Unlost c.lower n × Unlost c.upper n) (λ n a b. (a, b)) ms n
      (unlost_past g d late lag bound started t came plan n ms q c.lan among c.lower on.lower lower)
      (unlost_past g d late lag bound started t came plan n ms q c.lan among c.upper on.upper upper))
  chosen_over c among on isg (GivesWay f) =
      (loser_joins_winner (Star rp) g d late bound started t came n ms c isg
      (one_lan (LanMeets d late bound started t came n ms) plan.lans c.lan (all_meet d late bound started t came n ms plan.lans q.lans) among) on f).chosen

  are_chosen : AreChosen (Star rp) g bound started routing n ms
  are_chosen r j e =
      let u : LeadsUp (Star rp) g plan.lans routing n ms r j = lead.up r j e in
      chosen_over (routing.next r) u.among u.on all.addresses (over r j e)

  routed : AreRouted (Star rp) g d late bound started t came plan.lans routing n ms
  routed = record { few = q.few; meet = all_meet d late bound started t came n ms plan.lans q.lans; lead = lead; chosen = are_chosen }

  up : HasWayUp (Star rp) g bound started plan.lans routing n ms x.router k
  up = routes_lead_to_rp (Star rp) g d late bound started t came plan.lans routing n ms x.router k routed o.distance

  no_later : bound ≤ bound + 3 * lag + d
  no_later = omega arith

  equal : (i : ℕ) → i ≤ i
  equal i = omega arith

  wants : WantsFrom (Star rp) g d lag started bound limit x.router k n ms
  wants = record {
    first = bound + 3 * lag + d;
    wants = later_past started (bound + 3 * lag + d) bound no_later (Wants (Star rp) g x.router) ms n
        (wanted g d late lag bound started t came plan n ms a x q o.serves rp o.unbeaten);
    later = equal (bound + 3 * lag + d);
    by = o.by;
  }

  joined : AreJoined (Star rp) g bound limit started plan.lans n ms x.router (h ∷ hs)
  joined =
      subst (λ (l : List HopOn). AreJoined (Star rp) g bound limit started plan.lans n ms x.router l) o.next_hops
      (are_joined (Star rp) g d late lag bound limit started t came plan.lans routing n ms x.router k routed all q.together o.distance wants)

  stand : HopsStand (Star rp) g limit started plan.lans n ms x.router (h ∷ hs)
  stand = stand_later (Star rp) g bound limit started plan.lans n ms no_sooner x.router (h ∷ hs) (joined).stand

  -- ---- nothing keeps the packets from the way

  stands_past : (b : Lan) (y : Member) → IsOneLan plan.lans b → IsOne (routers b.link) y → Later (Stands (number_of b) y)
  stands_past b y is one = throughout_past started limit (Stands (number_of b) y) ms n (((lan_of b is).meet).stand y one)

  on_link : (b : Lan) → IsOneLan plan.lans b → Later (AreMembers (number_of b) (routers b.link))
  on_link b is =
      members_past started limit (number_of b) (routers b.link) ms n
      (one_lan (λ (c : Lan). AreMembers (number_of c) (routers c.link) n) plan.lans b members is)

  abbrev NotLost : Member → Network → Type 0
  NotLost y = HasState (λ s. is_loser (row_at s.asserts (source_key y.iface g src)) ≡ false) y.router

  abbrev NotPruned : Member → Network → Type 0
  NotPruned y = HasState (λ s. prunes s g src y.iface ≡ false) y.router

  not_lost_past : (b : Lan) (y : Member) → IsOneLan plan.lans b → IsOne (routers b.link) y
      → HearsNoBetter (source_key y.iface g src) bound started y.router n ms → Later (NotLost y)
  not_lost_past b y is one f =
      sooner (NotLost y) (none_lost_past (source_key y.iface g src) bound started y.router n ms (((lan_of b is).meet).ready y one) f)

  free_of : (c : HopOn) → HopStands (Star rp) g limit started plan.lans n ms c → HopIsFree g src bound limit started n ms c → Later (IsFree g src c)
  free_of c s f =
      both (λ n. NotLost c.upper n × NotPruned c.upper n) (AreMembers (number_of c.lan) (routers (c.lan).link)) (IsFree g src c)
      (λ n u v. record {
        station = (u.0).station;
        there = (u.0).there;
        unlost = (u.0).good;
        unpruned = subst (λ (z : Station). prunes z.state g src (c.upper).iface ≡ false) (same_station (u.1).there (u.0).there) (u.1).good;
        single = λ i linked. single_on started limit (number_of c.lan) (routers (c.lan).link) n c.upper (lan_of c.lan s.among).single (s.on).upper v
            (u.0).station (u.0).there i linked;
      })
      (pair (NotLost c.upper) (NotPruned c.upper) (not_lost_past c.lan c.upper s.among (s.on).upper f.unlost)
      (sooner (NotPruned c.upper)
      (none_pruned_past g src bound started c.upper n ms (((lan_of c.lan s.among).meet).ready c.upper (s.on).upper) f.unpruned)))
      (on_link c.lan s.among)

  -- two interfaces of a router, on different links, are two
  two_so : (st : Station) (i j u v : ℕ) → slice_get st.links i ≡ Some u → slice_get st.links j ≡ Some v → (u == v) ≡ false → (i == j) ≡ false
  two_so st i j u v e f off = go (i == j) refl
    where
      same_link : i ≡ j → ⊥
      same_link same = grind (arith, same, e, f, off, eq-eqb)

      go : (b : Bool) → (i == j) ≡ b → b ≡ false
      go false is = refl
      go true is = absurd (same_link (eqb-true i j is))

  takes_in : (c e : HopOn) → HopStands (Star rp) g limit started plan.lans n ms c → HopStands (Star rp) g limit started plan.lans n ms e
      → (e.lower).router ≡ (c.upper).router → (number_of c.lan == number_of e.lan) ≡ false → Later (TakesOnTree g src e.lower) → Later (TakesIn g src c e)
  takes_in c e s v same off takes =
      both (TakesOnTree g src e.lower) (λ n. Stands (number_of c.lan) c.upper n × Stands (number_of e.lan) e.lower n) (TakesIn g src c e)
      (λ n u w. let there : station_at n (c.upper).router ≡ Some u.station = ap (station_at n) (sym same) ∙ u.there in record {
        station = u.station;
        there = there;
        foreign = u.foreign;
        on_tree = u.on_tree;
        room = u.room;
        apart = two_so u.station (c.upper).iface (e.lower).iface (number_of c.lan) (number_of e.lan)
            (subst (λ (z : Station). slice_get z.links (c.upper).iface ≡ Some (number_of c.lan)) (same_station ((w.0).sends).there there) ((w.0).sends).linked)
            (subst (λ (z : Station). slice_get z.links (e.lower).iface ≡ Some (number_of e.lan)) (same_station ((w.1).sends).there u.there) ((w.1).sends).linked)
            off;
      })
      takes
      (pair (Stands (number_of c.lan) c.upper) (Stands (number_of e.lan) e.lower) (stands_past c.lan c.upper s.among (s.on).upper)
      (stands_past e.lan e.lower v.among (v.on).lower))

  free_past : (r : ℕ) (c : HopOn) (cs : List HopOn) → HopsStand (Star rp) g limit started plan.lans n ms r (c ∷ cs) → AreApart (number_of c.lan) cs
      → AllByRecursion (HopIsFree g src bound limit started n ms) (c ∷ cs) → Later (AreFree g src c cs)
  free_past r c [] s off f = free_of c s.1 f.0
  free_past r c (e ∷ es) s off f =
      both (IsFree g src c) (λ n. TakesIn g src c e n × AreFree g src e es n) (AreFree g src c (e ∷ es)) (λ n u v. (u, v.0, v.1)) (free_of c s.1 f.0)
      (pair (TakesIn g src c e) (AreFree g src e es)
      (takes_in c e s.1 (s.2).1 (s.2).0 off.0 (f.1.0).takes) (free_past (c.upper).router e es s.2 off.1 f.1))

  tree : Later (AreOnTree g src h hs)
  tree =
      tree_past g src rp d late bound limit started t came plan.lans n ms q.lans h hs (stand).1 (stand).2
      (free_past x.router h hs stand (o.apart).1 o.free)

  -- ---- nor from the hosts

  its_iface : IsOne (routers a.link) x
  its_iface = among g d late lag bound started t came plan n ms a x q o.serves

  record Serving (now : Network) : Type 0 where
    takes : TakesOnTree g src h.lower now
    above : Stands (number_of h.lan) h.lower now
    unlost : NotLost x now
    included : IsIncluded g src x now
    stands : Stands (number_of a) x now
    there_are : AreMembers (number_of a) (routers a.link) now

  serving : Later Serving
  serving =
      both (λ n. TakesOnTree g src h.lower n × Stands (number_of h.lan) h.lower n)
      (λ n. (NotLost x n × IsIncluded g src x n) × (Stands (number_of a) x n × AreMembers (number_of a) (routers a.link) n)) Serving
      (λ n u v. record { takes = u.0; above = u.1; unlost = (v.0).0; included = (v.0).1; stands = (v.1).0; there_are = (v.1).1 })
      (pair (TakesOnTree g src h.lower) (Stands (number_of h.lan) h.lower) ((o.free).0).takes
      (stands_past h.lan h.lower ((stand).1).among (((stand).1).on).lower))
      (pair (λ n. NotLost x n × IsIncluded g src x n) (λ n. Stands (number_of a) x n × AreMembers (number_of a) (routers a.link) n)
      (pair (NotLost x) (IsIncluded g src x) (not_lost_past a x (o.serves).among its_iface o.unlost) o.included)
      (pair (Stands (number_of a) x) (AreMembers (number_of a) (routers a.link)) (stands_past a x (o.serves).among its_iface)
      (on_link a (o.serves).among)))

  reaches : Later (ReachesHosts g src (h.lower).iface (number_of a) x)
  reaches = same_past started limit Serving (ReachesHosts g src (h.lower).iface (number_of a) x) (λ n f. so n f) ms n serving
    where
      so : (n : Network) → Serving n → ReachesHosts g src (h.lower).iface (number_of a) x n
      so n f =
          let u : TakesOnTree g src h.lower n = f.takes in
          let here : station_at n x.router ≡ Some u.station = ap (station_at n) (sym (stand).0) ∙ u.there in
          record {
            station = u.station;
            there = here;
            configured = subst (λ (z : Station). (h.lower).iface < iface_count z.state) (same_station ((f.above).sends).there u.there)
                (within (((f.above).sends).station).state.configured.interfaces (h.lower).iface (((f.above).sends).readable).from_host);
            foreign = u.foreign;
            shared = u.on_tree;
            room = u.room;
            unlost = subst (λ (z : Station). is_loser (assert_source z.state g src x.iface) ≡ false) (same_station (f.unlost).there here) (f.unlost).good;
            included = subst (λ (z : Station). local_receiver_exclude z.state g src x.iface ≡ false) (same_station (f.included).there here) (f.included).included;
            one = record {
              linked = subst (λ (z : Station). slice_get z.links x.iface ≡ Some (number_of a)) (same_station ((f.stands).sends).there here)
                  ((f.stands).sends).linked;
              single = λ i linked. single_on started limit (number_of a) (routers a.link) n x (lan_of a (o.serves).among).single its_iface f.there_are
                  u.station here i linked;
            };
          }

  -- ---- so it is served

  open_to : IsOpenTo g src rp bound limit started plan.lans n ms a x h hs
  open_to = record {
    serves = o.serves;
    addresses = all.addresses;
    stand = stand;
    unlost = not_lost g d late lag bound started t came plan n ms a x q o.serves o.unbeaten;
    apart = (o.apart).0;
    later = no_sooner;
    held = (joined).held;
    reaches = reaches;
    tree = tree;
  }

  served : IsServed g src rp d bound limit started t plan n ms a x h hs
  served = record {
    way = subst (λ (l : List HopOn). AreRpf (Star rp) g bound started plan.lans n ms x.router l) o.next_hops (up).way;
    held = (joined).held;
    once = once g src rp d late lag bound limit started t came plan n ms a x h hs q open_to;
    only = nothing_else g src rp d late lag bound limit started t came plan n ms a x h hs q open_to members;
  }

pub each_member_is_served : EachMemberIsServed
each_member_is_served = served
