-- Who serves a link with a member wants the group, and forwards its packets there.
use Rattle.std.{proofs.{Common.{Bool, List, Some, [], ap, arith, cond, eq-eqb, eqb-true, false, inl, inr, map, nat_lt, not, refl, subst, sym, true, ℕ, ◌&&◌, ◌<◌, ◌==◌, ◌||◌, ◌∙◌, ◌∷◌, ◌≡◌, ◌≤◌}, lemmas.Bool.Decides.nat_tests}, specs.{List.AllByRecursion, Prelude.slice_get}}
use Rattle.pim_types.{specs.{Keys.star_key, declared.fact.{AssertMetric.AssertMetric, AssertRow.AssertRow}}}
use Rattle.pim_model.{specs.{Full.source_is_full, Neighbours.is_dr, Network.{Move, Network, Station, station_at}, Receivers.{is_exclude, local_receiver_exclude, local_receiver_star}, Sets.{assert_source, assert_star, immediate_olist_star, is_loser, is_winner, joins_star, lost_assert_star, pim_include_star, serves_star, spt_bit}, State.{State, iface_count, is_own, is_up}, Unicast.{is_rpf_interface, is_rpf_interface_rp}}}
use Rattle.law_settled.{specs.Ready.IsSettled}
use Rattle.law_streams.{proofs.{Pairs.same_station, Taken.wanted_star}, specs.{InTimeJoins.{Always, IsHeld, IsJoin, IsReady, Star, Wants}, Passing.{Passes, Receiver, Tree, is_asked}}}
use Rattle.law_converges.{proofs.{CarriedNetwork.{carried_network_settles, one_lan}, CarriedWays.{HopsStand, its_lan, ready_past, served_once}, Past.{both_past, later_past, same_past, throughout_past}, RoutesToRp.within, RpfStays.on_tree_so, Settles.one_of, Unheard.{HasState, none_lost_past}}, specs.{Carried.{Arrivals, Traffic}, CarriedNetwork.{Claim, ClaimIsQuiet, HopOn, IsOneLan, IsQuietPlan, Lan, LanIsQuiet, LoserIsQuiet, Plan, layout_of, number_of}, CarriedWays.{AreOnTree, forwarders, pair_on, root_of}, ComesOnce.{AreServedOnce, Forwards, HasOneOn, Stream}, LinkDr.{HasOneDr, IsDrOf, IsOne, Member, Stands, between, is_preferred}, LinkLosers.Wins, LinkMembers.KnowsGroup, MemberLinks.{AsDr, AsWinner, IsOneClaim, IsOneGroup, MemberIsWanted, Serves, ServesMember, Unbeaten, NoneBetter, Winner, to_hosts}, Past.{HoldsPast, HoldsPastOn}, RpfJoins.IsNextHop, Settles.{HasSettled, Link, LinkHasSettled, routers}}}

-- ---- lists

pub one_claim : (P : Claim → Type 0) (cs : List Claim) (c : Claim) → AllByRecursion P cs → IsOneClaim cs c → P c
one_claim P [] c f none = absurd none
one_claim P (b ∷ bs) c f (inl same) = subst P same f.0
one_claim P (b ∷ bs) c f (inr later) = one_claim P bs c f.1 later

one_group : (P : ℕ → Type 0) (gs : List ℕ) (g : ℕ) → AllByRecursion P gs → IsOneGroup gs g → P g
one_group P [] g f none = absurd none
one_group P (b ∷ bs) g f (inl same) = subst P same f.0
one_group P (b ∷ bs) g f (inr later) = one_group P bs g f.1 later

pub one_link : (P : Link → Type 0) (lans : List Lan) (a : Lan) → AllByRecursion P (map (λ (b : Lan). b.link) lans) → IsOneLan lans a → P a.link
one_link P [] a f none = absurd none
one_link P (b ∷ bs) a f (inl same) = subst (λ (z : Lan). P z.link) same f.0
one_link P (b ∷ bs) a f (inr later) = one_link P bs a f.1 later

-- ---- who is the DR

both_least : (p a q b : ℕ) (u v : Bool) → (p == q) ≡ u → (q == p) ≡ v → cond (not u) (nat_lt q p) (nat_lt b a) ≡ false
    → cond (not v) (nat_lt p q) (nat_lt a b) ≡ false → a ≡ b
both_least p a q b true true is at e f = grind (arith, nat_tests, e, f)
both_least p a q b true false is at e f = absurd (grind (arith, nat_tests, is, at))
both_least p a q b false true is at e f = absurd (grind (arith, nat_tests, is, at))
both_least p a q b false false is at e f = absurd (grind (arith, nat_tests, is, at, e, f))

-- the DR is the router to which none is preferred
dr_so : (members : List Member) (n : Network) (x : Member) → ((y z : Member) → IsOne members y → IsOne members z → y.address ≡ z.address → y ≡ z)
    → IsOne members x → ((y : Member) → IsOne members y → is_preferred y x ≡ false) → HasOneDr members n → IsDrOf x n
dr_so members n x apart among least dr =
    subst (λ (z : Member). IsDrOf z n)
    (apart dr.member x dr.among among
    (sym (both_least x.priority x.address (dr.member).priority (dr.member).address (x.priority == (dr.member).priority)
    ((dr.member).priority == x.priority) refl refl (dr.first x among) (least dr.member dr.among))))
    dr.elected

-- ---- one router

listed : (j d w r l k : Bool) → (d || w) ≡ true → l ≡ false → k ≡ true → ((j || (((d && not (not r && l)) || w) && k)) && not (not r && l)) ≡ true
listed j d w r l k e f h = grind arith

listed_so : (g : ℕ) (s : State) (i : ℕ) → (is_dr s i || is_winner (assert_star s g i)) ≡ true → is_loser (assert_star s g i) ≡ false
    → local_receiver_star s g i ≡ true → immediate_olist_star s g i ≡ true
unfolding immediate_olist_star pim_include_star serves_star lost_assert_star
listed_so g s i serves unlost known =
    listed (joins_star s g i) (is_dr s i) (is_winner (assert_star s g i)) (is_rpf_interface_rp s g i) (is_loser (assert_star s g i))
    (local_receiver_star s g i) serves unlost known

either_first : (a b : Bool) → a ≡ true → (a || b) ≡ true
either_first a b e = grind arith

either_second : (a b : Bool) → b ≡ true → (a || b) ≡ true
either_second a b e = grind arith

-- it has not lost the group's assert there
pub record HasNotLost (g : ℕ) (x : Member) (n : Network) : Type 0 where
  pub station : Station
  pub there : station_at n x.router ≡ Some station
  pub configured : x.iface < iface_count station.state
  pub unlost : is_loser (assert_star station.state g x.iface) ≡ false

-- the router is the DR or the winner, and knows the group
record IsServing (g : ℕ) (x : Member) (n : Network) : Type 0 where
  station : Station
  there : station_at n x.router ≡ Some station
  serves : (is_dr station.state x.iface || is_winner (assert_star station.state g x.iface)) ≡ true
  known : local_receiver_star station.state g x.iface ≡ true

wants_so : (g rp : ℕ) (x : Member) (n : Network) → IsServing g x n → HasNotLost g x n → Wants (Star rp) g x.router n
wants_so g rp x n f h =
    let same : h.station ≡ f.station = same_station h.there f.there in
    record {
      station = f.station;
      there = f.there;
      wanted = wanted_star (f.station).state g x.iface
          (subst (λ (z : Station). x.iface < iface_count z.state) same h.configured)
          (listed_so g (f.station).state x.iface f.serves
          (subst (λ (z : Station). is_loser (assert_star z.state g x.iface) ≡ false) same h.unlost) f.known);
    }

-- ---- who loses no assert

no_loser : (r : AssertRow) → is_winner (Some r) ≡ true → is_loser (Some r) ≡ false
no_loser r won = grind (arith, won)

module _ (g d late lag bound : ℕ) (started : ℕ → ℕ) (t : Traffic) (came : Arrivals) (plan : Plan) (n : Network) (ms : List Move)
    (q : IsQuietPlan d late lag bound started t came plan n ms) (a : Lan) (in_plan : IsOneLan plan.lans a) where
  pub its_link : LanIsQuiet d late bound started t came n ms a
  its_link = one_lan (LanIsQuiet d late bound started t came n ms) plan.lans a q.lans in_plan

  loser_is : (c : Claim) (z : Member) → IsOneClaim a.claims c → IsOne c.losers z → LoserIsQuiet d bound started n ms a c z
  loser_is c z is loses =
      one_of (LoserIsQuiet d bound started n ms a c) c.losers z (one_claim (ClaimIsQuiet d bound started n ms a) a.claims c (its_link).claims is).losers loses

  -- a router that wins a group's assert wins it throughout
  pub wins_it : (c : Claim) (y z : Member) → IsOneClaim a.claims c → c.group ≡ g → c.source ≡ 0 → c.winner ≡ y → IsOne c.losers z
      → Always (Wins g 0 c.metric (between (number_of a) y z)) n ms
  wins_it c y z is group source won loses =
      subst (λ (h : ℕ). Always (Wins h 0 c.metric (between (number_of a) y z)) n ms) group
      (subst (λ (s : ℕ). Always (Wins c.group s c.metric (between (number_of a) y z)) n ms) source
      (subst (λ (v : Member). Always (Wins c.group c.source c.metric (between (number_of a) v z)) n ms) won ((loser_is c z is loses).yields).wins))

  pub unlost_past : (y : Member) → IsOne (routers a.link) y → Unbeaten g bound started n ms a y
      → HoldsPast started bound (HasState (λ s. is_loser (assert_star s g y.iface) ≡ false) y.router) n ms
  unlost_past y is (NoneBetter f) = none_lost_past (star_key y.iface g) bound started y.router n ms (((its_link).meet).ready y is) f
  unlost_past y is (Winner c z one group source won loses) =
      same_past started bound (Wins g 0 c.metric (between (number_of a) y z)) (HasState (λ s. is_loser (assert_star s g y.iface) ≡ false) y.router)
      (λ n w. record { station = w.station; there = w.there; good = ap is_loser w.found ∙ no_loser w.row w.wins }) ms n
      (throughout_past started bound (Wins g 0 c.metric (between (number_of a) y z)) ms n (wins_it c y z one group source won loses))

-- ---- the routers of the link

module _ (g d late lag bound : ℕ) (started : ℕ → ℕ) (t : Traffic) (came : Arrivals) (plan : Plan) (n : Network) (ms : List Move) (a : Lan)
    (x : Member) (q : IsQuietPlan d late lag bound started t came plan n ms) (m : ServesMember g plan.lans a x) where
  pub quiet : LanIsQuiet d late bound started t came n ms a
  quiet = its_link g d late lag bound started t came plan n ms q a m.among

  -- it is one of them
  pub among : IsOne (routers a.link) x
  among = go m.serves
    where
      go : Serves g a x → IsOne (routers a.link) x
      go (AsDr is least) = is
      go (AsWinner c y is group source won loses) =
          subst (IsOne (routers a.link)) won ((loser_is g d late lag bound started t came plan n ms q a m.among c y is loses).on).lower

  settled : HoldsPast started bound (λ n. LinkHasSettled n a.link) n ms
  settled =
      same_past started bound (HasSettled (layout_of d late started t plan)) (λ n. LinkHasSettled n a.link)
      (λ n h. one_link (LinkHasSettled n) plan.lans a h.links m.among) ms n (carried_network_settles d late lag bound started t came plan n ms q)

  known_of : (n : Network) → LinkHasSettled n a.link → KnowsGroup g (between (number_of a) (a.link).first x) n
  known_of n s =
      one_of (λ y. KnowsGroup g (between (number_of a) (a.link).first y) n) (routers a.link) x
      (one_group (λ h. AllByRecursion (λ y. KnowsGroup h (between (number_of a) (a.link).first y) n) (routers a.link)) (a.link).groups g s.known m.member)
      among

  as_dr : ((y : Member) → IsOne (routers a.link) y → is_preferred y x ≡ false) → (n : Network) → LinkHasSettled n a.link → IsServing g x n
  as_dr least n s =
      let dr : IsDrOf x n = dr_so (routers a.link) n x ((quiet).meet).apart among least s.dr in
      let k : KnowsGroup g (between (number_of a) (a.link).first x) n = known_of n s in
      record {
        station = k.station;
        there = k.there;
        serves = either_first _ _ (subst (λ (z : Station). is_dr z.state x.iface ≡ true) (same_station dr.there k.there) dr.elected);
        known = k.known;
      }

  module _ (y : Member) (metric : AssertMetric) (wins : Always (Wins g 0 metric (between (number_of a) x y)) n ms) where
    as_winner : (n : Network) → Wins g 0 metric (between (number_of a) x y) n → LinkHasSettled n a.link → IsServing g x n
    as_winner n w s =
        let k : KnowsGroup g (between (number_of a) (a.link).first x) n = known_of n s in
        record {
          station = k.station;
          there = k.there;
          serves = either_second _ _
              (subst (λ (z : Station). is_winner (assert_star z.state g x.iface) ≡ true) (same_station w.there k.there) (ap is_winner w.found ∙ w.wins));
          known = k.known;
        }

    winner_past : HoldsPast started bound (IsServing g x) n ms
    winner_past =
        both_past started bound (Wins g 0 metric (between (number_of a) x y)) (λ n. LinkHasSettled n a.link) (IsServing g x) as_winner ms n
        (throughout_past started bound (Wins g 0 metric (between (number_of a) x y)) ms n wins) settled

  serving : HoldsPast started bound (IsServing g x) n ms
  serving = go m.serves
    where
      go : Serves g a x → HoldsPast started bound (IsServing g x) n ms
      go (AsDr is least) = same_past started bound (λ n. LinkHasSettled n a.link) (IsServing g x) (as_dr least) ms n settled
      go (AsWinner c y is group source won loses) =
          winner_past y c.metric (wins_it g d late lag bound started t came plan n ms q a m.among c x y is group source won loses)

  pub not_lost : Unbeaten g bound started n ms a x → HoldsPast started bound (HasNotLost g x) n ms
  not_lost f =
      both_past started bound (HasState (λ s. is_loser (assert_star s g x.iface) ≡ false) x.router) (Stands (number_of a) x) (HasNotLost g x)
      (λ n u v. record {
        station = u.station;
        there = u.there;
        configured = subst (λ (z : Station). x.iface < iface_count z.state) (same_station (v.sends).there u.there)
            (within ((v.sends).station).state.configured.interfaces x.iface ((v.sends).readable).from_host);
        unlost = u.good;
      }) ms n (unlost_past g d late lag bound started t came plan n ms q a m.among x among f)
      (throughout_past started bound (Stands (number_of a) x) ms n (((quiet).meet).stand x among))

  pub wanted : (rp : ℕ) → Unbeaten g bound started n ms a x → HoldsPast started bound (Wants (Star rp) g x.router) n ms
  wanted rp f =
      both_past started bound (IsServing g x) (HasNotLost g x) (Wants (Star rp) g x.router) (wants_so g rp x) ms n serving (not_lost f)

pub member_is_wanted : MemberIsWanted
member_is_wanted g rp d late lag bound started t came plan n ms a x q m f = wanted g d late lag bound started t came plan n ms a x q m rp f

-- ---- it forwards the packets to the hosts

asked_so : (e x d w : Bool) → e ≡ true → x ≡ false → (d || w) ≡ true → ((e && not x) && (d || w)) ≡ true
asked_so e x d w a b c = grind arith

-- Nothing keeps a source's packets from the hosts: the router takes them on the group's tree, and has room for the source; it has not lost
-- the source's assert on the link, no host there excludes the source, and the router has one interface there.
pub record ReachesHosts (g src up link : ℕ) (x : Member) (n : Network) : Type 0 where
  pub station : Station
  pub there : station_at n x.router ≡ Some station
  pub configured : up < iface_count station.state
  pub foreign : is_own station.state src ≡ false
  pub shared : (spt_bit station.state g src && not (is_rpf_interface station.state src up)) ≡ false
  pub room : source_is_full station.state g src ≡ false
  pub unlost : is_loser (assert_source station.state g src x.iface) ≡ false
  pub included : local_receiver_exclude station.state g src x.iface ≡ false
  pub one : HasOneOn x.iface link station

-- what the router and its next hop keep to
record IsUnderWay (rp g : ℕ) (x : Member) (h : HopOn) (n : Network) : Type 0 where
  ready : IsReady x.router n
  stands : Stands (number_of h.lan) h.lower n
  there : IsNextHop (Star rp) g (pair_on h) n

record CanForward (g src rp : ℕ) (a : Lan) (x : Member) (h : HopOn) (n : Network) : Type 0 where
  serving : IsServing g x n
  unlost : HasNotLost g x n
  reaches : ReachesHosts g src (h.lower).iface (number_of a) x n
  ready : IsReady x.router n
  stands : Stands (number_of h.lan) h.lower n
  there : IsNextHop (Star rp) g (pair_on h) n

module _ (g src rp : ℕ) (a : Lan) (x : Member) (h : HopOn) (n : Network) (first : (h.lower).router ≡ x.router)
    (apart : (number_of a == number_of h.lan) ≡ false) (f : CanForward g src rp a x h n) where
  abbrev st : Station
  st = (f.reaches).station

  here : station_at n (h.lower).router ≡ Some st
  here = ap (station_at n) first ∙ (f.reaches).there

  at_own : (P : Station → Type 0) (z : Station) → station_at n x.router ≡ Some z → P z → P st
  at_own P z there p = subst P (same_station there (f.reaches).there) p

  at_lower : (P : Station → Type 0) (z : Station) → station_at n (h.lower).router ≡ Some z → P z → P st
  at_lower P z there p = subst P (same_station there here) p

  linked : slice_get (st).links (h.lower).iface ≡ Some (number_of h.lan)
  linked = at_lower (λ (z : Station). slice_get z.links (h.lower).iface ≡ Some (number_of h.lan)) ((f.stands).sends).station ((f.stands).sends).there ((f.stands).sends).linked

  other : (x.iface == (h.lower).iface) ≡ false
  other = go (x.iface == (h.lower).iface) refl
    where
      contradicts : (b : Bool) → b ≡ true → b ≡ false → ⊥
      contradicts b e f = cc (sym e ∙ f)

      same_link : (o : ℕ) → slice_get (st).links x.iface ≡ Some o → slice_get (st).links x.iface ≡ Some (number_of h.lan) → (o == number_of h.lan) ≡ true
      same_link o e f = grind (arith, eq-eqb)

      go : (b : Bool) → (x.iface == (h.lower).iface) ≡ b → b ≡ false
      go false is = refl
      go true is =
          absurd (contradicts (number_of a == number_of h.lan)
          (same_link (number_of a) ((f.reaches).one).linked
          (ap (slice_get (st).links) (eqb-true x.iface (h.lower).iface is) ∙ linked)) apart)

  wanted_there : is_asked (st).state g src x.iface ≡ true
  wanted_there =
      asked_so (is_exclude (st).state g x.iface) (local_receiver_exclude (st).state g src x.iface) (is_dr (st).state x.iface)
      (is_winner (assert_star (st).state g x.iface))
      (at_own (λ (z : Station). is_exclude z.state g x.iface ≡ true) (f.serving).station (f.serving).there (f.serving).known)
      (f.reaches).included
      (at_own (λ (z : Station). (is_dr z.state x.iface || is_winner (assert_star z.state g x.iface)) ≡ true) (f.serving).station (f.serving).there
      (f.serving).serves)

  passes : Passes Tree.Shared Receiver.Host (st).state g src (h.lower).iface x.iface
  passes = record {
    settled = at_own (λ (z : Station). IsSettled z.state) (f.ready).station (f.ready).there ((f.ready).at_rest).settled;
    matched = tt;
    comes_in = record {
      configured = (f.reaches).configured;
      is_up = at_lower (λ (z : Station). is_up z.state (h.lower).iface ≡ true) ((f.stands).sends).station ((f.stands).sends).there ((f.stands).sends).up;
      foreign = (f.reaches).foreign;
      on = record {
        on_tree = at_lower (λ (z : Station). is_rpf_interface_rp z.state g (h.lower).iface ≡ true) (f.there).below (f.there).below_is
            (on_tree_so rp g ((f.there).below).state (pair_on h).hop ((f.there).goes_over).rpf);
        source_too = (f.reaches).shared;
      };
    };
    goes_out = record {
      configured = at_own (λ (z : Station). x.iface < iface_count z.state) (f.unlost).station (f.unlost).there (f.unlost).configured;
      group = at_own (λ (z : Station). is_loser (assert_star z.state g x.iface) ≡ false) (f.unlost).station (f.unlost).there (f.unlost).unlost;
      source = (f.reaches).unlost;
      wanted = wanted_there;
    };
    room = (f.reaches).room;
    on = other;
  }

  forwards : Forwards g src (to_hosts a x h) n
  forwards = record { station = st; there = here; passes = Stream Tree.Shared Receiver.Host passes; above = linked; below = (f.reaches).one }

-- from a limit on, which is no sooner than the bound, its next hops up to the RP hold the group, and are on the group's tree
pub record IsOpenTo (g src rp bound limit : ℕ) (started : ℕ → ℕ) (lans : List Lan) (n : Network) (ms : List Move) (a : Lan) (x : Member)
    (h : HopOn) (hs : List HopOn) : Type 0 where
  pub serves : ServesMember g lans a x
  pub addresses : IsJoin (Star rp) g
  pub stand : HopsStand (Star rp) g limit started lans n ms x.router (h ∷ hs)
  pub unlost : HoldsPast started bound (HasNotLost g x) n ms
  pub apart : (number_of a == number_of h.lan) ≡ false
  pub later : bound ≤ limit
  pub held : HoldsPast started limit (λ n. AllByRecursion (λ c. IsHeld (Star rp) g c n) (map pair_on (h ∷ hs))) n ms
  pub reaches : HoldsPast started limit (ReachesHosts g src (h.lower).iface (number_of a) x) n ms
  pub tree : HoldsPast started limit (AreOnTree g src h hs) n ms

-- ---- down that way

module _ (g src rp d late lag bound limit : ℕ) (started : ℕ → ℕ) (t : Traffic) (came : Arrivals) (plan : Plan) (n : Network) (ms : List Move)
    (a : Lan) (x : Member) (h : HopOn) (hs : List HopOn) (q : IsQuietPlan d late lag bound started t came plan n ms)
    (o : IsOpenTo g src rp bound limit started plan.lans n ms a x h hs) where
  abbrev Later : (Network → Type 0) → Type 0
  Later P = HoldsPast started limit P n ms

  both : (P Q R : Network → Type 0) → ((n : Network) → P n → Q n → R n) → Later P → Later Q → Later R
  both P Q R so p q = both_past started limit P Q R so ms n p q

  abbrev its : ServesMember g plan.lans a x
  its = o.serves

  own : LanIsQuiet d late bound started t came n ms a
  own = quiet g d late lag bound started t came plan n ms a x q its

  above : LanIsQuiet d late bound started t came n ms h.lan
  above = its_lan (Star rp) g d late bound limit started t came plan.lans n ms q.lans h (o.stand).1

  can_forward : Later (CanForward g src rp a x h)
  can_forward =
      both (λ n. IsServing g x n × HasNotLost g x n) (λ n. ReachesHosts g src (h.lower).iface (number_of a) x n × Rest n)
      (CanForward g src rp a x h)
      (λ n u v. record {
        serving = u.0;
        unlost = u.1;
        reaches = v.0;
        ready = (v.1).ready;
        stands = (v.1).stands;
        there = (v.1).there;
      })
      (both (IsServing g x) (HasNotLost g x) (λ n. IsServing g x n × HasNotLost g x n) (λ n u v. (u, v))
      (later_past started limit bound o.later (IsServing g x) ms n (serving g d late lag bound started t came plan n ms a x q its))
      (later_past started limit bound o.later (HasNotLost g x) ms n o.unlost))
      (both (ReachesHosts g src (h.lower).iface (number_of a) x) Rest
      (λ n. ReachesHosts g src (h.lower).iface (number_of a) x n × Rest n) (λ n u v. (u, v)) o.reaches
      (both (IsReady x.router) (λ n. Stands (number_of h.lan) h.lower n × IsNextHop (Star rp) g (pair_on h) n) Rest
      (λ n u v. record { ready = u; stands = v.0; there = v.1 })
      (ready_past started limit x.router ms n ((own).meet.ready x (among g d late lag bound started t came plan n ms a x q its)))
      (both (Stands (number_of h.lan) h.lower) (IsNextHop (Star rp) g (pair_on h))
      (λ n. Stands (number_of h.lan) h.lower n × IsNextHop (Star rp) g (pair_on h) n) (λ n u v. (u, v))
      (throughout_past started limit (Stands (number_of h.lan) h.lower) ms n (((above).meet).stand h.lower (((o.stand).1).on).lower))
      ((o.stand).1).there)))
    where
      Rest : Network → Type 0
      Rest n = IsUnderWay rp g x h n

  pub passes_on : Later (Forwards g src (to_hosts a x h))
  passes_on =
      same_past started limit (CanForward g src rp a x h) (Forwards g src (to_hosts a x h))
      (λ n f. forwards g src rp a x h n (o.stand).0 o.apart f) ms n can_forward

  pub once : HoldsPastOn started limit (AreServedOnce g src d started t (root_of h hs) (number_of a) (to_hosts a x h ∷ forwarders h hs)) n ms
  once =
      served_once g src rp d late bound limit started t came plan.lans n ms q.lans h hs (to_hosts a x h) x.router o.addresses o.stand refl refl
      o.held o.tree passes_on
