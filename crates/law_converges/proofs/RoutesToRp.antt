-- Where the routes lead up without a loop there is a way, by induction on the distance; it comes to be joined as any way does.
use Rattle.std.{proofs.{Common.{Bool, List, None, Option, Some, [], ap, arith, cond, false, inl, inr, length, map, nat_lt, subst, suc, sym, true, zero, ℕ, ◌*◌, ◌+◌, ◌-◌, ◌<◌, ◌==◌, ◌∙◌, ◌∷◌, ◌≡◌, ◌≤◌, ◌⊎◌}, lemmas.{Bool.Decides.nat_tests, List.length-map}}, specs.{List.AllByRecursion, Option.option_map_or, Prelude.slice_get}}
use Rattle.pim_ip.{specs.Ipv4.is_unicast}
use Rattle.pim_types.{specs.{Keys.{iface_key, neighbour_key}, declared.{config.InterfaceConfig.InterfaceConfig, fact.{InterfaceRow.InterfaceRow, Key.Key, NeighbourRow.NeighbourRow}, path.{Hop.Hop, Path.Path}, timer.TimerKind.TimerKind}}}
use Rattle.pim_model.{specs.{Neighbours.{is_neighbour, nbr, nbr_among}, Network.{Move, Network, Station, moved, station_at}, State.{State, is_own, my_address}, Tables.{Table, has_row, hop_at}}}
use Rattle.law_settled.{proofs.{FineStates.Runs, ListLaws.each_more, Parts.{end_of, is_sound, part_of}, ShownEnds.{rows_run, shown_is_later}, TableLaws.row_of_each}, specs.Ready.IsSettled}
use Rattle.law_streams.{proofs.{Adjacent.neighbours_come_to_be_known, Climbs.swapped, Firings.goes_so, Pairs.{ready_then, same_station}}, specs.{Adjacent.{Adjacent, IsKnown, IsKnownAfter, Sends, most_late_hello}, InTimeJoins.{Always, IsBy, IsHeld, IsJoin, IsReady, IsRp, IsUnlost, Join, Listens, Pair, most_late, most_late_shared, rpf_of, time_at}, Joins.Hears, Shared.IsAbove}}
use Rattle.law_converges.{proofs.{CarriedJoins.in_time_past, CarriedLinks.hellos_in_time, CarriedNetwork.one_lan, CarriedWays.{HopStands, HopsStand}, JoinedWays.{AreHopsPast, IsHopPast, rest}, LinkDr.{always_more, sends_to}, Past.{both_past, each_past, from_then_on, later_past, same_past, throughout_past}, RpfStays.rpf_by_assert, Settles.hops_past}, specs.{Carried.{Arrivals, EachMove, Traffic}, CarriedLinks.HearsJoins, CarriedNetwork.{AreOn, HopOn, IsOneLan, Lan, LanIsQuiet, number_of}, CarriedWays.pair_on, JoinedWays.{AreHeldPast, AreTogether, a_hop}, LinkDr.{GreetsBy, IsOne, Member, Stands, between}, Past.{ArePast, HoldsPast, HoldsPastOn}, RpfJoins.IsNextHop, RoutesToRp.{AllCanJoin, AreRouted, AreRpf, ByAssert, ByRoute, CanJoin, Chooses, EveryWantIsHeldToRp, IsAnother, IsChosen, IsRouted, IsRpf, JoinIsOfLan, LanMeets, LeadsUp, RoutesLeadToRp, Routing, WantsFrom, heard_by, hops_after, hops_up}, Settles.routers}}

pub both_always : (P Q R : Network → Type 0) → ((n : Network) → P n → Q n → R n) → (ms : List Move) (n : Network) → Always P n ms → Always Q n ms
    → Always R n ms
both_always P Q R so [] n f g = so n f g
both_always P Q R so (m ∷ ms) n f g = (so n f.0 g.0, both_always P Q R so ms (moved n m).1 f.1 g.1)

itself : (a : ℕ) → a ≤ a
itself a = omega arith

fewer : (d : ℕ) → d < most_late_hello → d < most_late_shared
fewer d e = omega (arith, e)

fewer_still : (d : ℕ) → d < most_late_hello → d < most_late
fewer_still d e = omega (arith, e)

none_times : (c : ℕ) → 0 * c ≡ 0
none_times c = grind arith

one_time : (a c : ℕ) → suc a * c ≡ c + a * c
one_time a c = grind arith

times_more : (a b c : ℕ) → a ≤ b → a * c ≤ b * c
times_more zero b c le = subst (λ (v : ℕ). v ≤ b * c) (sym (none_times c)) (nothing (b * c))
  where
    nothing : (v : ℕ) → 0 ≤ v
    nothing v = omega arith
times_more (suc a) zero c le = absurd (omega (arith, le))
times_more (suc a) (suc b) c le =
    more (suc a * c) (suc b * c) (a * c) (b * c) (one_time a c) (one_time b c) (times_more a b c (omega (arith, le)))
  where
    more : (p q u v : ℕ) → p ≡ c + u → q ≡ c + v → u ≤ v → p ≤ q
    more p q u v e f h = omega (arith, e, f, h)

-- ---- an interface with a host's address is configured

pub within : (xs : List InterfaceConfig) (i : ℕ) → is_unicast (option_map_or (λ (c : InterfaceConfig). c.address.bits) (slice_get xs i) 0) ≡ true → i < length xs
within [] i e = cc e
within (c ∷ cs) zero e = omega arith
within (c ∷ cs) (suc i) e = let later : i < length cs = within cs i e in omega (arith, later)

-- a router hears a neighbour on a LAN
hears_from : (y : Member) (from : ℕ) (n : Network) {link : ℕ} → (up : Stands link y n) → (st : Station) → station_at n y.router ≡ Some st
    → is_neighbour st.state y.iface from ≡ true → is_own ((up.sends).station).state from ≡ false → Hears ((up.sends).station).state y.iface from
hears_from y from n up st at known foreign = record {
  configured = within ((up.sends).station).state.configured.interfaces y.iface ((up.sends).readable).from_host;
  up = (up.sends).up;
  neighbour = subst (λ (z : Station). is_neighbour z.state y.iface from ≡ true) (same_station at (up.sends).there) known;
  other = foreign;
}

-- ---- a neighbour to which a route leads is the next hop

over_path : (rows : Table NeighbourRow) (p : Path) (i a : ℕ) → p.iface.number ≡ i → p.next_hop.bits ≡ a → has_row rows (neighbour_key i a) ≡ true
    → nbr_among rows (Some p) ≡ Some (hop_at i a)
unfolding nbr_among
over_path rows p i a over to there = ap (λ (b : Bool). cond b (Some (record { iface = p.iface; address = p.next_hop })) None) found ∙ made
  where
    found : has_row rows (neighbour_key p.iface.number p.next_hop.bits) ≡ true
    found =
        subst (λ (j : ℕ). has_row rows (neighbour_key j p.next_hop.bits) ≡ true) (sym over)
        (subst (λ (b : ℕ). has_row rows (neighbour_key i b) ≡ true) (sym to) there)

    made : Some (record { iface = p.iface; address = p.next_hop }) ≡ Some (hop_at i a)
    made = grind (arith, over, to)

-- ---- two routers of a LAN

module _ (x : Join) (g : ℕ) (h : HopOn) (n : Network) where
  -- the upper one is on the LAN, whoever is its neighbour
  above_now : IsRouted x g h n → Stands (number_of h.lan) h.upper n → IsAbove x g (pair_on h) n
  above_now f up = record {
    station = (up.sends).station;
    there = (up.sends).there;
    rp_known = subst (λ (z : Station). IsRp x z.state g) (sym (same_station (up.sends).there f.above_is)) f.rp_above;
    up = (up.sends).up;
    own = (up.sends).own;
    linked = (up.sends).linked;
  }

  module _ (f : IsRouted x g h n) (low : Stands (number_of h.lan) h.lower n) (up : Stands (number_of h.lan) h.upper n)
      (knows : IsKnown (between (number_of h.lan) h.upper h.lower) n) (known : IsKnown (between (number_of h.lan) h.lower h.upper) n)
      (chosen : IsChosen x g h n) where
    abbrev below_state : State
    below_state = (f.below).state

    abbrev its_hop : Hop
    its_hop = hop_at (h.lower).iface (h.upper).address

    is_there : is_neighbour below_state (h.lower).iface (h.upper).address ≡ true
    is_there = subst (λ (z : Station). is_neighbour z.state (h.lower).iface (h.upper).address ≡ true) (same_station knows.there f.below_is) knows.known

    same_path : (p q : Path) → Some p ≡ Some q → p ≡ q
    same_path p q e = cc e

    -- whom it chooses is RPF'
    chosen_rpf : Chooses x g h below_state → rpf_of x below_state g ≡ Some its_hop
    unfolding nbr
    chosen_rpf (ByRoute p way to unlost) =
        goes_so x below_state g its_hop
        (ap (nbr_among (below_state).neighbours) way
        ∙ over_path (below_state).neighbours p (h.lower).iface (h.upper).address
        (ap (λ (q : Path). q.iface.number) (same_path p f.path (sym way ∙ f.route)) ∙ f.over) to is_there) unlost
    chosen_rpf (ByAssert r found lost to) =
        rpf_by_assert x g below_state f.path r (h.lower).iface f.route f.over found lost ∙ ap (λ (a : ℕ). Some (hop_at (h.lower).iface a)) to

    there_now : IsNextHop x g (pair_on h) n
    unfolding above_now
    there_now = record {
      below = f.below;
      below_is = f.below_is;
      goes_over = record {
        rp_known = f.rp_below;
        rpf = chosen_rpf (subst (λ (z : Station). Chooses x g h z.state) (same_station chosen.below_is f.below_is) chosen.chooses);
        own = subst (λ (z : Station). my_address z.state (h.lower).iface ≡ (h.lower).address) (same_station (low.sends).there f.below_is)
            (low.sends).own;
        linked = subst (λ (z : Station). slice_get z.links (h.lower).iface ≡ Some (number_of h.lan)) (same_station (low.sends).there f.below_is)
            (low.sends).linked;
      };
      above = f.above;
      above_is = f.above_is;
      listens = subst (λ (z : Station). Listens x g (pair_on h) z) (same_station (up.sends).there f.above_is) (record {
        rp_known = (above_now f up).rp_known;
        hears = hears_from h.upper h.lower.address n up known.station known.there known.known
            (subst (λ (z : Station). is_own z.state (h.lower).address ≡ false) (sym (same_station (up.sends).there f.above_is)) f.foreign);
        own = (up.sends).own;
        linked = (up.sends).linked;
      });
    }

-- the next hop is RPF'
rpf_now : (x : Join) (g : ℕ) (h : HopOn) (n : Network) → IsNextHop x g (pair_on h) n → IsRpf x g h n
rpf_now x g h n f = record {
  station = f.below;
  there = f.below_is;
  rpf = (f.goes_over).rpf;
}

-- ---- from a bound on

pub too_late : (t from bound : ℕ) → t ≤ from → from ≤ bound → bound < t → ⊥
too_late t from bound e f h = omega (arith, e, f, h)

-- who comes to be known is, past the bound
known_past : (started : ℕ → ℕ) (from bound : ℕ) (c : Adjacent) → from ≤ bound → (ms : List Move) (n : Network) → IsReady c.upper n
    → IsKnownAfter started c from n ms → HoldsPast started bound (IsKnown c) n ms
known_past started from bound c le [] n ready f = tt
known_past started from bound c le (m ∷ ms) n ready f = (λ past. go past f.0, known_past started from bound c le ms (moved n m).1 then f.1)
  where
    then : IsReady c.upper (moved n m).1
    then = ready_then c.upper n m ready

    go : ArePast started bound (moved n m).1 → IsBy started c.upper from (moved n m).1 ⊎ IsKnown c (moved n m).1 → IsKnown c (moved n m).1
    go past (inl by) =
        absurd (too_late (time_at started c.upper (then).station) from bound (by (then).station (then).there) le (past c.upper (then).station (then).there))
    go past (inr is) = is

-- a router's next Hello isn't over
pub early_so : (d bound : ℕ) (started : ℕ → ℕ) (y : Member) (n : Network) → IsReady y.router n → GreetsBy d bound started y n
    → IsBy started y.router bound n
early_so d bound started y n ready f = λ st at.
    subst (λ (z : Station). time_at started y.router z ≤ bound) (same_station f.there at)
    (within ((f.station).state).present (f.row).hello_end (started y.router) now f.by)
  where
    within : (p e q : ℕ) → p < e → e + q + 2 * d ≤ bound → p + q ≤ bound
    within p e q lt le = omega (arith, lt, le)

    settled : IsSettled (f.station).state
    settled = subst (λ (z : Station). IsSettled z.state) (same_station ready.there f.there) (ready.at_rest).settled

    runs : Runs (nat_lt ((f.station).state).present) (Some (f.row).hello_end)
    runs =
        row_of_each (λ (e : Key × InterfaceRow). Runs (nat_lt ((f.station).state).present) (Some (e.1).hello_end)) (iface_key y.iface) f.row
        ((f.station).state).interfaces
        (rows_run (end_of TimerKind.Hello) (is_sound (part_of TimerKind.Hello)) ((f.station).state).present ((f.station).state).interfaces
        (λ k e is. shown_is_later ((f.station).state).present (f.station).state ((settled).ahead).ends TimerKind.Hello k e is)) f.is

    now : ((f.station).state).present < (f.row).hello_end
    now = lt ((f.station).state).present (f.row).hello_end runs
      where
        lt : (a b : ℕ) → nat_lt a b ≡ true → a < b
        lt a b e = grind (arith, nat_tests, e)

module _ (x : Join) (g d late bound : ℕ) (started : ℕ → ℕ) (t : Traffic) (came : Arrivals) (lans : List Lan) (routing : Routing) (n : Network)
    (ms : List Move) (q : AreRouted x g d late bound started t came lans routing n ms) where
  abbrev PastIt : (Network → Type 0) → Type 0
  PastIt P = HoldsPast started bound P n ms

  both : (P Q R : Network → Type 0) → ((n : Network) → P n → Q n → R n) → PastIt P → PastIt Q → PastIt R
  both P Q R so f e = both_past started bound P Q R so ms n f e

  module _ (a : Lan) (f : LanMeets d late bound started t came n ms a) where
    -- each router of a LAN has each other as a neighbour
    known_there : (y z : Member) → IsOne (routers a.link) y → IsOne (routers a.link) z → (y.router == z.router) ≡ false
        → PastIt (IsKnown (between (number_of a) y z))
    known_there y z b c apart =
        known_past started ((f.greet y b).row.hello_end + started y.router + 2 * d) bound (between (number_of a) y z) (f.greet y b).by ms n (f.ready z c)
        (neighbours_come_to_be_known d started (between (number_of a) y z) n ms (f.greet y b).station (f.greet y b).row q.few (f.ready z c)
        (always_more (Stands (number_of a) y) (Sends (between (number_of a) y z)) (sends_to (number_of a) y z) ms n (f.stand y b))
        (hellos_in_time d late started t (number_of a) (routers a.link) (length n.frames) y z c apart ms n came f.carried (f.hear y z b c apart))
        (f.greet y b).there (f.greet y b).is)

  pub its_lan : (h : HopOn) → IsOneLan lans h.lan → LanMeets d late bound started t came n ms h.lan
  its_lan h among = one_lan (LanMeets d late bound started t came n ms) lans h.lan q.meet among

  -- ---- a next hop

  module _ (h : HopOn) (among : IsOneLan lans h.lan) (on : AreOn h.lan h.lower h.upper) (routed : Always (IsRouted x g h) n ms)
      (chosen : PastIt (IsChosen x g h)) where
    abbrev link : ℕ
    link = number_of h.lan

    abbrev lan : LanMeets d late bound started t came n ms h.lan
    lan = its_lan h among

    abbrev Stand : Network → Type 0
    Stand n = Stands link h.lower n × Stands link h.upper n

    abbrev Know : Network → Type 0
    Know n = IsKnown (between link h.upper h.lower) n × IsKnown (between link h.lower h.upper) n

    abbrev Routed : Network → Type 0
    Routed n = IsRouted x g h n × IsChosen x g h n

    there : PastIt (IsNextHop x g (pair_on h))
    there =
        both Routed (λ n. Stand n × Know n) (IsNextHop x g (pair_on h))
        (λ n f s. there_now x g h n f.0 (s.0).0 (s.0).1 (s.1).0 (s.1).1 f.1)
        (both (IsRouted x g h) (IsChosen x g h) Routed (λ n a b. (a, b)) (throughout_past started bound (IsRouted x g h) ms n routed) chosen)
        (both Stand Know (λ n. Stand n × Know n) (λ n s k. (s, k))
        (both (Stands link h.lower) (Stands link h.upper) Stand (λ n a b. (a, b))
        (throughout_past started bound (Stands link h.lower) ms n ((lan).stand h.lower on.lower))
        (throughout_past started bound (Stands link h.upper) ms n ((lan).stand h.upper on.upper)))
        (both (IsKnown (between link h.upper h.lower)) (IsKnown (between link h.lower h.upper)) Know (λ n a b. (a, b))
        (known_there h.lan lan h.upper h.lower on.upper on.lower (swapped (h.lower).router (h.upper).router on.apart))
        (known_there h.lan lan h.lower h.upper on.lower on.upper on.apart)))

    stands : HopStands x g bound started lans n ms h
    stands = record {
      among = among;
      on = on;
      there = there;
      unlost = same_past started bound (IsChosen x g h) (IsUnlost x g (pair_on h))
          (λ n f. record { station = f.above; there = f.above_is; unlost = f.unlost_above }) ms n chosen;
    }

    rpf : PastIt (IsRpf x g h)
    rpf = same_past started bound (IsNextHop x g (pair_on h)) (IsRpf x g h) (rpf_now x g h) ms n there

    -- ---- its Joins come in time

    abbrev Knows : Network → Type 0
    Knows n = (y : Member) → IsOne (routers (h.lan).link) y → (y.router == (h.upper).router) ≡ false → IsKnown (between link y h.upper) n

    knows_past : (ms : List Move) (n : Network)
        → ((y : Member) → IsOne (routers (h.lan).link) y → (y.router == (h.upper).router) ≡ false → HoldsPast started bound (IsKnown (between link y h.upper)) n ms)
        → HoldsPast started bound Knows n ms
    knows_past [] n f = tt
    knows_past (m ∷ ms) n f = (λ past y a b. (f y a b).0 past, knows_past ms (moved n m).1 (λ y a b. (f y a b).1))

    hears_now : (n : Network) (m : Move) → Stands link h.upper n → Knows n → JoinIsOfLan x g (routers (h.lan).link) (pair_on h) n m
        → HearsJoins x g (pair_on h) n m
    hears_now n m up knows f = record {
      hears = λ number draw from pruned st host is framed at.
          let j : IsAnother (routers (h.lan).link) (h.upper).router from × (is_own st.state from ≡ false) =
          f.joiner number draw from pruned st host is framed at in
          let known : IsKnown (between link (j.0).member h.upper) n = knows (j.0).member (j.0).among (j.0).apart in
          let same : (up.sends).station ≡ st = same_station (up.sends).there at in
          subst (λ (z : Station). Hears z.state (h.upper).iface from) same
          (hears_from h.upper from n up known.station known.there
          (subst (λ (z : ℕ). is_neighbour (known.station).state (h.upper).iface z ≡ true) (j.0).its known.known)
          (subst (λ (z : Station). is_own z.state from ≡ false) (sym same) j.1));
    }

    hears_on : (ms : List Move) (n : Network) → Always (Stands link h.upper) n ms → Always Knows n ms
        → EachMove (JoinIsOfLan x g (routers (h.lan).link) (pair_on h)) n ms → EachMove (HearsJoins x g (pair_on h)) n ms
    hears_on [] n up knows f = tt
    hears_on (m ∷ ms) n up knows f = (hears_now n m up.0 knows.0 f.0, hears_on ms (moved n m).1 up.1 knows.1 f.1)

    hears_past : (ms : List Move) (n : Network) → Always (Stands link h.upper) n ms → HoldsPast started bound Knows n ms
        → EachMove (JoinIsOfLan x g (routers (h.lan).link) (pair_on h)) n ms → HoldsPastOn started bound (EachMove (HearsJoins x g (pair_on h))) n ms
    hears_past [] n up knows f = tt
    hears_past (m ∷ ms) n up knows f = (
      λ past. hears_on ms (moved n m).1 up.1 (from_then_on started bound Knows ms (moved n m).1 past (knows.0 past) knows.1) f.1,
      hears_past ms (moved n m).1 up.1 knows.1 f.1,
    )

    joined : (lag : ℕ) → IsJoin x g → Always (AreTogether lag started) n ms → CanJoin x g t n ms h
        → IsHopPast x g d (heard_by d lag bound) started n ms (pair_on h)
    joined lag addresses together can = record {
      apart = on.apart;
      lower_ready = (lan).ready h.lower on.lower;
      upper_ready = (lan).ready h.upper on.upper;
      near = can.near;
      there = later_past started (heard_by d lag bound) bound (no_sooner lag) (IsNextHop x g (pair_on h)) ms n there;
      in_time = in_time_past x g d late started t link (routers (h.lan).link) (length n.frames) h.lower h.upper on.lower on.upper on.apart
          (fewer d q.few) lag bound addresses (fewer_still d q.few) ms n came (lan).carried ((lan).ready h.lower on.lower)
          ((lan).ready h.upper on.upper)
          (both_always (IsRouted x g h) (Stands link h.upper) (IsAbove x g (pair_on h)) (above_now x g h) ms n routed ((lan).stand h.upper on.upper))
          can.keeps
          (hears_past ms n ((lan).stand h.upper on.upper)
          (knows_past ms n (λ y is off. known_there h.lan lan y h.upper is on.upper off)) can.joiners)
          together (λ k new old. absurd (never k new old)) (λ st at. raised lag (time_at started (h.lower).router st) (early st at));
      unlost = later_past started (heard_by d lag bound) bound (no_sooner lag) (IsUnlost x g (pair_on h)) ms n (stands).unlost;
    }
      where
        no_sooner : (lag : ℕ) → bound ≤ bound + 3 * lag + d
        no_sooner lag = omega arith

        never : (k : ℕ) → length n.frames < k → k ≤ length n.frames → ⊥
        never k e f = omega (arith, e, f)

        raised : (lag i : ℕ) → i ≤ bound → i ≤ bound + lag
        raised lag i e = omega (arith, e)

        early : IsBy started (h.lower).router bound n
        early = early_so d bound started h.lower n ((lan).ready h.lower on.lower) ((lan).greet h.lower on.lower)

  -- ---- a way

  -- hops from a router on, as the routes lead
  pub record Found (r k : ℕ) (hops : List HopOn) : Type 0 where
    pub few : length hops ≤ k
    pub way : AreRpf x g bound started lans n ms r hops
    pub stand : HopsStand x g bound started lans n ms r hops
    pub joined : (lag : ℕ) → Always (AreTogether lag started) n ms → AllCanJoin x g t routing n ms
        → AreHopsPast x g d (heard_by d lag bound) started n ms r (map pair_on hops)

  at_top : (r : ℕ) → routing.distance r ≡ Some 0 → Found r 0 []
  at_top r is = record { few = itself 0; way = (q.lead).top r is; stand = tt; joined = λ lag together all. tt }

  one_more : (r k : ℕ) → routing.distance r ≡ Some (suc k) → (f : LeadsUp x g lans routing n ms r k) → (hops : List HopOn)
      → Found ((routing.next r).upper).router f.rest hops → Found r (suc k) (routing.next r ∷ hops)
  one_more r k is f hops further = record {
    few = fits (length hops) f.rest further.few f.nearer;
    way = (f.from, f.among, f.on, rpf (routing.next r) f.among f.on f.routed (q.chosen r k is), further.way);
    stand = (f.from, stands (routing.next r) f.among f.on f.routed (q.chosen r k is), further.stand);
    joined = λ lag together all. (
      f.from,
      joined (routing.next r) f.among f.on f.routed (q.chosen r k is) lag all.addresses together (all.join r k is),
      further.joined lag together all,
    );
  }
    where
      fits : (a b : ℕ) → a ≤ b → b ≤ k → suc a ≤ suc k
      fits a b e le = omega (arith, e, le)

  one_up : (most r k : ℕ) → k ≤ suc most → routing.distance r ≡ Some k
      → ((s j : ℕ) → j ≤ most → routing.distance s ≡ Some j → Found s j (hops_up routing most s))
      → Found r k (hops_after (Some k) (routing.next r) (hops_up routing most ((routing.next r).upper).router))
  one_up most r zero le is further = at_top r is
  one_up most r (suc k) le is further =
      let f : LeadsUp x g lans routing n ms r k = (q.lead).up r k is in
      one_more r k is f (hops_up routing most ((routing.next r).upper).router)
      (further ((routing.next r).upper).router f.rest (less f.rest f.nearer) f.distance)
    where
      less : (a : ℕ) → a ≤ k → a ≤ most
      less a e = omega (arith, e, le)

  pub found : (most r k : ℕ) → k ≤ most → routing.distance r ≡ Some k → Found r k (hops_up routing most r)
  found zero r zero le is = at_top r is
  found zero r (suc k) le is = absurd (omega (arith, le))
  found (suc most) r k le is =
      subst (λ (o : Option ℕ). Found r k (hops_after o (routing.next r) (hops_up routing most ((routing.next r).upper).router))) (sym is)
      (one_up most r k le is (λ s j low at. found most s j low at))

pub routes_lead_to_rp : RoutesLeadToRp
routes_lead_to_rp x g d late bound started t came lans routing n ms r k q is =
    let f : Found x g d late bound started t came lans routing n ms q r k (hops_up routing k r) =
    found x g d late bound started t came lans routing n ms q k r k (itself k) is in
    record { few = f.few; way = f.way }

-- ---- it is joined

module _ (x : Join) (g d lag : ℕ) (started : ℕ → ℕ) (limit : ℕ) (n : Network) (ms : List Move) (few : d < most_late_hello)
    (together : Always (AreTogether lag started) n ms) where
  abbrev Held : List Pair → Type 0
  Held cs = HoldsPast started limit (λ o. AllByRecursion (λ c. IsHeld x g c o) cs) n ms

  -- a way of at most k next hops, of which the first one holds it a hop past a time
  from_first : (cs : List Pair) (first k : ℕ) → length cs ≤ k → first + k * a_hop d lag ≤ limit
      → AreHeldPast x g d lag (first + a_hop d lag) started n ms cs → Held cs
  from_first [] first k fits by f = each_past started limit (λ c o. IsHeld x g c o) [] n ms tt
  from_first (c ∷ cs) first zero fits by f = absurd (omega (arith, fits))
  from_first (c ∷ cs) first (suc k) fits by f =
      each_past started limit (λ c o. IsHeld x g c o) (c ∷ cs) n ms
      (hops_past started limit d few n ms lag together x g (c ∷ cs) (first + a_hop d lag)
      (sum (length cs * a_hop d lag) (k * a_hop d lag) (suc k * a_hop d lag) ((suc (length cs) - 1) * a_hop d lag)
      (times_more (length cs) k (a_hop d lag) (one_less (length cs) fits)) (one_time k (a_hop d lag))
      (ap (λ (j : ℕ). j * a_hop d lag) (less (length cs))) by) f)
    where
      one_less : (a : ℕ) → suc a ≤ suc k → a ≤ k
      one_less a e = omega (arith, e)

      less : (a : ℕ) → suc a - 1 ≡ a
      less a = omega arith

      sum : (u v w z : ℕ) → u ≤ v → w ≡ a_hop d lag + v → z ≡ u → first + w ≤ limit → first + a_hop d lag + z ≤ limit
      sum u v w z e same alike le = omega (arith, e, same, alike, le)

-- hops that hold what is joined
pub record AreJoined (x : Join) (g bound limit : ℕ) (started : ℕ → ℕ) (lans : List Lan) (n : Network) (ms : List Move) (r : ℕ)
    (hops : List HopOn) : Type 0 where
  pub stand : HopsStand x g bound started lans n ms r hops
  pub held : HoldsPast started limit (λ o. AllByRecursion (λ c. IsHeld x g c o) (map pair_on hops)) n ms

pub are_joined : (x : Join) (g d late lag bound limit : ℕ) (started : ℕ → ℕ) (t : Traffic) (came : Arrivals) (lans : List Lan) (routing : Routing)
    (n : Network) (ms : List Move) (r k : ℕ) → AreRouted x g d late bound started t came lans routing n ms → AllCanJoin x g t routing n ms
    → Always (AreTogether lag started) n ms → routing.distance r ≡ Some k → WantsFrom x g d lag started bound limit r k n ms
    → AreJoined x g bound limit started lans n ms r (hops_up routing k r)
are_joined x g d late lag bound limit started t came lans routing n ms r k q all together is w = record {
  stand = (f).stand;
  held = from_first x g d lag started limit n ms q.few together (map pair_on (hops_up routing k r)) w.first k
      (subst (λ (j : ℕ). j ≤ k) (sym (length-map (hops_up routing k r) pair_on)) (f).few) w.by
      (go (hops_up routing k r) (f).stand ((f).joined lag together all));
}
  where
    f : Found x g d late bound started t came lans routing n ms q r k (hops_up routing k r)
    f = found x g d late bound started t came lans routing n ms q k r k (itself k) is

    further : (a b : ℕ) → bound + 3 * lag + d ≤ b → a ≤ bound → a ≤ b + lag
    further a b e h = omega (arith, e, h)

    go : (hops : List HopOn) → HopsStand x g bound started lans n ms r hops
        → AreHopsPast x g d (heard_by d lag bound) started n ms r (map pair_on hops)
        → AreHeldPast x g d lag (w.first + a_hop d lag) started n ms (map pair_on hops)
    go [] stand joined = tt
    go (h ∷ hs) stand joined =
        let a : LanMeets d late bound started t came n ms h.lan = its_lan x g d late bound started t came lans routing n ms q h (stand.1).among in
        let early : IsBy started (h.lower).router bound n =
        early_so d bound started h.lower n (a.ready h.lower ((stand.1).on).lower) (a.greet h.lower ((stand.1).on).lower) in
        rest x g d lag started n ms all.addresses (fewer_still d q.few) together (heard_by d lag bound) (map pair_on (h ∷ hs)) w.first r w.later joined
        w.wants
        (subst (λ (z : ℕ). IsBy started z (w.first + lag) n) stand.0
        (λ st at. further (time_at started (h.lower).router st) w.first w.later (early st at)))

pub every_want_is_held_to_rp : EveryWantIsHeldToRp
every_want_is_held_to_rp x g d late lag bound limit started t came lans routing n ms r k q all together is w =
    (are_joined x g d late lag bound limit started t came lans routing n ms r k q all together is w).held

-- ---- a quiet plan

-- the LANs of a quiet plan meet
pub all_meet : (d late bound : ℕ) (started : ℕ → ℕ) (t : Traffic) (came : Arrivals) (n : Network) (ms : List Move) (lans : List Lan)
    → AllByRecursion (LanIsQuiet d late bound started t came n ms) lans → AllByRecursion (LanMeets d late bound started t came n ms) lans
all_meet d late bound started t came n ms lans quiet =
    each_more (LanIsQuiet d late bound started t came n ms) (LanMeets d late bound started t came n ms)
    (λ a f. record { carried = f.carried; ready = (f.meet).ready; stand = (f.meet).stand; hear = (f.meet).hear; greet = (f.meet).greet }) lans quiet
