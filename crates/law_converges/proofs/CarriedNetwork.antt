-- A network settles whose links carry what is sent on them.
use Rattle.std.{proofs.{Common.{◌≡◌, ℕ, suc, ◌+◌, ◌*◌, ◌-◌, ◌<◌, ◌≤◌, List, [], ◌∷◌, length, map, inl, inr, refl, sym, ap, subst, arith}}, specs.List.{AllByRecursion, flat_map}}
use Rattle.pim_model.{specs.Network.{Move, Network}}
use Rattle.law_settled.{proofs.ListLaws.{each_append, each_map, each_more}}
use Rattle.law_streams.{specs.{Adjacent.most_late_hello, InTimeJoins.{IsJoin, IsReady, Join, most_late, most_late_shared}}}
use Rattle.law_converges.{specs.{Carried.{Arrivals, Traffic}, CarriedLinks.pair_of, CarriedNetwork.{CarriedNetworkSettles, Claim, ClaimIsQuiet, HopOn, HopsAreQuiet, IsOneLan, JoinIsQuiet, JoinOver, Lan, LanIsQuiet, LoserIsQuiet, WayIsQuiet, WayOver, WishIsQuiet, contest_on, joining_on, layout_of, number_of, way_on}, CarriedPrunes.{Wish, wire_of}, JoinedWays.{AreHops, a_hop}, LinkDr.{IsOne, Member, between}, Settles.{ContestIsQuiet, JoiningIsQuiet, LinkIsQuiet, LoserIsQuiet as LoserIsQuietOn, WayIsQuiet as WayIsQuietOn, WireIsQuiet, routers}}, proofs.{CarriedJoins.in_time_throughout, CarriedLinks.{ask_so, meet_so, yields_so}, CarriedPrunes.prunes_in_order, Settles.network_settles}}

fewer : (d : ℕ) → d < most_late_hello → d < most_late_shared
fewer d e = omega (arith, e)

fewer_still : (d : ℕ) → d < most_late_hello → d < most_late
fewer_still d e = omega (arith, e)

each_flat : {X Y : Type 0} (P : Y → Type 0) (f : X → List Y) (xs : List X) → AllByRecursion (λ x. AllByRecursion P (f x)) xs
    → AllByRecursion P (flat_map f xs)
each_flat P f [] e = tt
each_flat P f (x ∷ xs) e = each_append P (f x) (flat_map f xs) e.0 (each_flat P f xs e.1)

pub one_lan : (P : Lan → Type 0) (lans : List Lan) (a : Lan) → AllByRecursion P lans → IsOneLan lans a → P a
one_lan P [] a f none = absurd none
one_lan P (b ∷ bs) a f (inl same) = subst P same f.0
one_lan P (b ∷ bs) a f (inr later) = one_lan P bs a f.1 later

pub length-mapped : {X Y : Type 0} (f : X → Y) (xs : List X) → length (map f xs) ≡ length xs
length-mapped f [] = refl
length-mapped f (x ∷ xs) = ap (λ (k : ℕ). suc k) (length-mapped f xs)

module _ (d late lag bound : ℕ) (started : ℕ → ℕ) (t : Traffic) (came : Arrivals) (n : Network) (ms : List Move) (few : d < most_late_hello) where
  -- ---- a link

  module _ (a : Lan) (f : LanIsQuiet d late bound started t came n ms a) where
    abbrev there : List Member
    there = routers a.link

    ready : (x : Member) → IsOne there x → IsReady x.router n
    ready = (f.meet).ready

    link_quiet : LinkIsQuiet d bound started n ms a.link
    link_quiet = record {
      greets = meet_so d late started t (number_of a) there (length n.frames) came n ms f.carried f.single bound f.meet;
      asks = ask_so d late started t (number_of a) there (length n.frames) came n ms f.carried f.single (a.link).settings (a.link).hold bound
          (a.link).first (a.link).others (ready (a.link).first (inl refl)) (λ y is. (inr is, (f.ask).apart y is, ready y (inr is))) f.ask;
      answers = f.answers;
    }

    join_quiet : (j : JoinOver) → JoinIsQuiet d bound started t n ms a j → JoiningIsQuiet d bound started n ms (joining_on a j)
    join_quiet j g = record {
      addresses = g.addresses;
      comes = record {
        apart = (g.on).apart;
        lower_ready = ready j.lower (g.on).lower;
        upper_ready = ready j.upper (g.on).upper;
        there = g.there;
        in_time = in_time_throughout j.join j.group d late started t (number_of a) there (length n.frames) j.lower j.upper (g.on).lower (g.on).upper
            (g.on).apart (fewer d few) g.addresses (fewer_still d few) n ms came refl (ready j.lower (g.on).lower) (ready j.upper (g.on).upper)
            f.carried g.there g.keeps g.hears;
        wants = g.wants;
        station = g.station;
        is = g.is;
        row = g.row;
        timer = g.timer;
        by = g.by;
      };
    }

    pub claim_quiet : (c : Claim) → ClaimIsQuiet d bound started n ms a c → ContestIsQuiet d bound started n ms (contest_on a c)
    claim_quiet c g = record { few = g.few; losers = each_more _ _ one c.losers g.losers }
      where
        one : (y : Member) → LoserIsQuiet d bound started n ms a c y
            → LoserIsQuietOn d bound started n ms (contest_on a c) (between (number_of a) c.winner y)
        one y h = record {
          comes = yields_so d late started t (number_of a) there (length n.frames) came n ms f.carried f.single c.group c.source c.metric c.winner y
              (h.on).upper (h.on).apart (ready y (h.on).upper) h.yields;
          by = h.by;
          off = h.off;
        }

    wish_quiet : (w : Wish) → WishIsQuiet d late started t n ms a w → WireIsQuiet n ms (wire_of d late started t (number_of a) w)
    wish_quiet w g = record {
      addresses = g.addresses;
      soon = g.soon;
      some = g.some;
      begins = g.begins;
      in_order = prunes_in_order d late started t came (number_of a) there w (g.on).lower (g.on).upper (g.on).apart n ms f.carried g.known g.keeps;
    }

  -- ---- a way

  pub hops_quiet : (x : Join) (g : ℕ) (lans : List Lan) → IsJoin x g → AllByRecursion (LanIsQuiet d late bound started t came n ms) lans → (r : ℕ)
      (hs : List HopOn) → HopsAreQuiet x g t lans n ms r hs
      → AreHops x g d started n ms r (map (λ (h : HopOn). pair_of (number_of h.lan) h.lower h.upper) hs)
  hops_quiet x g lans isg quiet r [] f = tt
  hops_quiet x g lans isg quiet r (h ∷ hs) f =
      let a : LanIsQuiet d late bound started t came n ms h.lan = one_lan (LanIsQuiet d late bound started t came n ms) lans h.lan quiet (f.1).among in (
        f.0,
        record {
          apart = ((f.1).on).apart;
          lower_ready = (a.meet).ready h.lower ((f.1).on).lower;
          upper_ready = (a.meet).ready h.upper ((f.1).on).upper;
          near = (f.1).near;
          there = (f.1).there;
          in_time = in_time_throughout x g d late started t (number_of h.lan) (routers (h.lan).link) (length n.frames) h.lower h.upper
              ((f.1).on).lower ((f.1).on).upper ((f.1).on).apart (fewer d few) isg (fewer_still d few) n ms came refl
              ((a.meet).ready h.lower ((f.1).on).lower) ((a.meet).ready h.upper ((f.1).on).upper) a.carried (f.1).there (f.1).keeps (f.1).hears;
          unlost = (f.1).unlost;
        },
        hops_quiet x g lans isg quiet (h.upper).router hs f.2,
      )

  way_quiet : (lans : List Lan) → AllByRecursion (LanIsQuiet d late bound started t came n ms) lans → (w : WayOver)
      → WayIsQuiet d lag bound started t lans n ms w → WayIsQuietOn d lag bound started n ms (way_on w)
  way_quiet lans all w f = record {
    addresses = f.addresses;
    hops = hops_quiet w.join w.group lans f.addresses all w.first w.hops f.hops;
    wants = f.wants;
    begin = f.begin;
    due = f.due;
    by = subst (λ (k : ℕ). f.begin + (k - 1) * a_hop d lag ≤ bound) (sym (length-mapped (λ (h : HopOn). pair_of (number_of h.lan) h.lower h.upper) w.hops)) f.by;
  }

pub carried_network_settles : CarriedNetworkSettles
carried_network_settles d late lag bound started t came plan n ms f =
    network_settles d lag bound started (layout_of d late started t plan) n ms (record {
      few = f.few;
      together = f.together;
      links = each_map Quiet (LinkIsQuiet d bound started n ms) (λ (a : Lan). a.link) (link_quiet d late lag bound started t came n ms f.few)
          plan.lans f.lans;
      joinings = each_flat (JoiningIsQuiet d bound started n ms) (λ (a : Lan). map (joining_on a) a.joins) plan.lans
          (each_more Quiet _ (λ a g. each_map _ (JoiningIsQuiet d bound started n ms) (joining_on a)
          (join_quiet d late lag bound started t came n ms f.few a g) a.joins g.joins) plan.lans f.lans);
      ways = each_map (WayIsQuiet d lag bound started t plan.lans n ms) (WayIsQuietOn d lag bound started n ms) way_on
          (way_quiet d late lag bound started t came n ms f.few plan.lans f.lans) plan.ways f.ways;
      contests = each_flat (ContestIsQuiet d bound started n ms) (λ (a : Lan). map (contest_on a) a.claims) plan.lans
          (each_more Quiet _ (λ a g. each_map _ (ContestIsQuiet d bound started n ms) (contest_on a)
          (claim_quiet d late lag bound started t came n ms f.few a g) a.claims g.claims) plan.lans f.lans);
      wires = each_flat (WireIsQuiet n ms) (λ (a : Lan). map (wire_of d late started t (number_of a)) a.wishes) plan.lans
          (each_more Quiet _ (λ a g. each_map _ (WireIsQuiet n ms) (wire_of d late started t (number_of a))
          (wish_quiet d late lag bound started t came n ms f.few a g) a.wishes g.wishes) plan.lans f.lans);
    })
  where
    Quiet : Lan → Type 0
    Quiet a = LanIsQuiet d late bound started t came n ms a
