-- Whether nothing keeps packets from a link with a member, and nobody else sends there: tests, and that where they pass it is so.
use Rattle.std.{proofs.Common.{Bool, List, None, Option, Some, [], arith, eq-eqb, eqb-true, false, inl, inr, not, refl, subst, suc, sym, true, zero, ℕ, ◌&&◌, ◌+◌, ◌==◌, ◌||◌, ◌∙◌, ◌∷◌, ◌≡◌, ◌≤◌, ◌⊎◌}, specs.{List.{list_all, list_any}, Option.option_map_or, Prelude.slice_get}}
use Rattle.pim_ip.{specs.Ipv4.Packet}
use Rattle.pim_types.{specs.declared.{event.Event.Event, fact.Key.Key}}
use Rattle.pim_model.{specs.{Cause.{done_as, packet_in}, Desires.join_desired, Full.source_is_full, Network.{At, Deliver, DeliverUnicast, Move, Network, Station, event_of, moved, station_at}, Receivers.{local_receiver_exclude, local_receiver_include, local_receiver_star}, Sets.{joins, joins_star, spt_bit}, State.is_own, Tables.{row_at, same_option}, Unicast.{is_connected, is_rpf_interface, is_rpf_interface_rp, rpf_interface}}}
use Rattle.law_streams.{specs.Copies.happens}
use Rattle.law_converges.{proofs.Tested.{Found, both_true, each_found, found, happens_not, if_so, not_so, off_so, then}, specs.{AloneOnLink.{AreMembers, HasNoHosts, IsMemberAt, IsUnjoined, TakesOn}, Carried.EachMove, EachMember.{IsIncluded, TakesOnTree}, LinkDr.Member, SilentRouters.IsOnlyWayIn, Unheard.{HearsNoBetter, hears_better, is_over}}}

-- ---- who is on a link

abbrev is_among : List Member → (q j : ℕ) → Bool
is_among [] q j = false
is_among (x ∷ xs) q j = ((q == x.router) && (j == x.iface)) || is_among xs q j

among_so : (xs : List Member) (q j : ℕ) → is_among xs q j ≡ true → IsMemberAt xs q j
among_so [] q j e = cc e
among_so (x ∷ xs) q j e = go ((q == x.router) && (j == x.iface)) refl e (among_so xs q j)
  where
    further : IsMemberAt xs q j → IsMemberAt (x ∷ xs) q j
    further r = record { member = r.member; among = inr r.among; router = r.router; iface = r.iface }

    here : ((q == x.router) && (j == x.iface)) ≡ true → IsMemberAt (x ∷ xs) q j
    here is =
        then is (λ router iface. record { member = x; among = inl refl; router = eqb-true q x.router router; iface = eqb-true j x.iface iface })

    go : (b : Bool) → ((q == x.router) && (j == x.iface)) ≡ b → (b || is_among xs q j) ≡ true → (is_among xs q j ≡ true → IsMemberAt xs q j)
        → IsMemberAt (x ∷ xs) q j
    go true is e later = here is
    go false is e later = further (later e)

none_more : (k : ℕ) → k ≡ 0 + k
none_more k = omega arith

module _ (link : ℕ) (members : List Member) where
  abbrev links_test : (q k : ℕ) → List ℕ → Bool
  links_test q k [] = true
  links_test q k (l ∷ ls) = (not (l == link) || is_among members q k) && links_test q (suc k) ls

  links_so : (q k j : ℕ) (ls : List ℕ) → links_test q k ls ≡ true → slice_get ls j ≡ Some link → IsMemberAt members q (j + k)
  links_so q k j [] e got = cc got
  links_so q k zero (l ∷ ls) e got = then e (λ first rest. its (l == link) refl first)
    where
      same : (let o : Option ℕ = Some l in o) ≡ Some link → l ≡ link
      same h = cc h

      contradicts : (b : Bool) → b ≡ false → b ≡ true → ⊥
      contradicts b f h = cc (sym f ∙ h)

      its : (b : Bool) → (l == link) ≡ b → (not b || is_among members q k) ≡ true → IsMemberAt members q (0 + k)
      its true is h = subst (IsMemberAt members q) (none_more k) (among_so members q k h)
      its false is h = absurd (contradicts (l == link) is (eq-eqb l link (same got)))
  links_so q k (suc j) (l ∷ ls) e got =
      then e (λ first rest. subst (IsMemberAt members q) (plus j k) (links_so q (suc k) j ls rest got))
    where
      plus : (i k : ℕ) → i + suc k ≡ suc i + k
      plus i k = omega arith

  abbrev stations_test : ℕ → List Station → Bool
  stations_test q [] = true
  stations_test q (st ∷ sts) = links_test q 0 st.links && stations_test (suc q) sts

  stations_so : (i q : ℕ) (sts : List Station) (st : Station) → stations_test q sts ≡ true → slice_get sts i ≡ Some st
      → links_test (i + q) 0 st.links ≡ true
  stations_so i q [] st e got = cc got
  stations_so zero q (x ∷ xs) st e got = then e (λ first rest.
      subst (λ (r : ℕ). links_test r 0 st.links ≡ true) (none_more q) (subst (λ (z : Station). links_test q 0 z.links ≡ true) (same got) first))
    where
      same : (let o : Option Station = Some x in o) ≡ Some st → x ≡ st
      same h = cc h
  stations_so (suc i) q (x ∷ xs) st e got =
      then e (λ first rest. subst (λ (r : ℕ). links_test r 0 st.links ≡ true) (plus i q) (stations_so i (suc q) xs st rest got))
    where
      plus : (i k : ℕ) → i + suc k ≡ suc i + k
      plus i k = omega arith

  abbrev pub members_test : Network → Bool
  members_test n = stations_test 0 n.stations

  pub members_so : (n : Network) → members_test n ≡ true → AreMembers link members n
  unfolding station_at
  members_so n e q j st at linked =
      subst (IsMemberAt members q) (plain j)
      (links_so q 0 j st.links (subst (λ (r : ℕ). links_test r 0 st.links ≡ true) (plain q) (stations_so q 0 n.stations st e at)) linked)
    where
      plain : (i : ℕ) → i + 0 ≡ i
      plain i = omega arith

-- ---- a router of it

module _ (g src : ℕ) (x : Member) where
  -- it takes the source's packets on the group's tree
  abbrev tree_station : Station → Bool
  tree_station st =
      not (is_own st.state src) && (not (spt_bit st.state g src && not (is_rpf_interface st.state src x.iface))
      && not (source_is_full st.state g src))

  abbrev pub tree_at : Network → Bool
  tree_at n = option_map_or tree_station (station_at n x.router) false

  pub tree_so : (n : Network) → tree_at n ≡ true → TakesOnTree g src x n
  tree_so n e =
      let f : Found Station tree_station (station_at n x.router) = found Station tree_station (station_at n x.router) e in
      then f.passes (λ foreign e. then e (λ on_tree room. record {
        station = f.it;
        there = f.is;
        foreign = off_so _ foreign;
        on_tree = off_so _ on_tree;
        room = off_so _ room;
      }))

  -- no host there excludes the source
  abbrev pub included_at : Network → Bool
  included_at n = option_map_or (λ (st : Station). not (local_receiver_exclude st.state g src x.iface)) (station_at n x.router) false

  pub included_so : (n : Network) → included_at n ≡ true → IsIncluded g src x n
  included_so n e =
      let f : Found Station _ (station_at n x.router) = found Station (λ (st : Station). not (local_receiver_exclude st.state g src x.iface)) (station_at n x.router) e in
      record { station = f.it; there = f.is; included = off_so _ f.passes }

  -- nobody joined over it there, and no host there asks
  abbrev unasked_station : Station → Bool
  unasked_station st =
      not (joins_star st.state g x.iface) && (not (joins st.state g src x.iface)
      && (not (local_receiver_star st.state g x.iface) && not (local_receiver_include st.state g src x.iface)))

  abbrev pub unasked_at : Network → Bool
  unasked_at n = option_map_or unasked_station (station_at n x.router) false

  pub unasked_so : (n : Network) → unasked_at n ≡ true → IsUnjoined g src x n × HasNoHosts g src x n
  unasked_so n e =
      let f : Found Station unasked_station (station_at n x.router) = found Station unasked_station (station_at n x.router) e in
      then f.passes (λ star e. then e (λ source e. then e (λ group alone. (
        record { station = f.it; there = f.is; group = off_so _ star; source = off_so _ source },
        record { station = f.it; there = f.is; group = off_so _ group; source = off_so _ alone },
      ))))

  -- nobody asks it there for the source alone
  abbrev sourceless_station : Station → Bool
  sourceless_station st = not (joins st.state g src x.iface) && not (local_receiver_include st.state g src x.iface)

  abbrev pub sourceless_at : Network → Bool
  sourceless_at n = option_map_or sourceless_station (station_at n x.router) false

  pub record IsSourceless (n : Network) : Type 0 where
    pub station : Station
    pub there : station_at n x.router ≡ Some station
    pub joined : joins station.state g src x.iface ≡ false
    pub asked : local_receiver_include station.state g src x.iface ≡ false

  pub sourceless_so : (n : Network) → sourceless_at n ≡ true → IsSourceless n
  sourceless_so n e =
      let f : Found Station sourceless_station (station_at n x.router) = found Station sourceless_station (station_at n x.router) e in
      then f.passes (λ joined asked. record { station = f.it; there = f.is; joined = off_so _ joined; asked = off_so _ asked })

  -- the interface is its only way in
  abbrev has_no_other_way : Station → Bool
  has_no_other_way st = option_map_or (λ k. k == x.iface) (rpf_interface st.state src) true

  abbrev takes_station : Station → Bool
  takes_station st =
      is_rpf_interface_rp st.state g x.iface
      && (has_no_other_way st || (not (is_connected st.state src) && (not (join_desired st.state g src) && not (spt_bit st.state g src))))

  abbrev pub takes_at : Network → Bool
  takes_at n = option_map_or takes_station (station_at n x.router) false

  way_so : (o : Option ℕ) → option_map_or (λ k. k == x.iface) o true ≡ true → (i : ℕ) → same_option o (Some i) ≡ true → i ≡ x.iface
  way_so None e i f = absurd (cc f)
  way_so (Some k) e i f = sym (eqb-true k i f) ∙ eqb-true k x.iface e

  to_source_so : (st : Station) (b : Bool) → has_no_other_way st ≡ b
      → (b || (not (is_connected st.state src) && (not (join_desired st.state g src) && not (spt_bit st.state g src)))) ≡ true
      → is_rpf_interface_rp st.state g x.iface ≡ true → IsOnlyWayIn g src x.iface st.state
  to_source_so st true is e to_rp = record { to_rp = to_rp; to_source = inl (way_so (rpf_interface st.state src) is) }
  to_source_so st false is e to_rp = record {
    to_rp = to_rp;
    to_source = inr (then e (λ far e. then e (λ unwanted unset. record { far = off_so _ far; unwanted = off_so _ unwanted; unset = off_so _ unset })));
  }

  pub takes_so : (n : Network) → takes_at n ≡ true → TakesOn g src x n
  takes_so n e =
      let f : Found Station takes_station (station_at n x.router) = found Station takes_station (station_at n x.router) e in
      then f.passes (λ to_rp rest. record {
        station = f.it;
        there = f.is;
        only = to_source_so f.it (has_no_other_way f.it) refl rest to_rp;
      })

-- ---- Asserts

-- no Assert that one of some machines may read comes to a router by the move
abbrev pub none_better : ℕ → List Key → Network → Move → Bool
none_better r ks n m = happens_not r (λ s a. list_any (λ k. hears_better k s a) ks) n m

-- and none of them has lost one to begin with
abbrev pub all_over : ℕ → List Key → Network → Bool
all_over r ks n = option_map_or (λ (st : Station). list_all (λ k. is_over 0 (row_at (st.state).asserts k)) ks) (station_at n r) false

pub record EachHeard (r : ℕ) (ks : List Key) (n : Network) (ms : List Move) : Type 0 where
  pub over : all_over r ks n ≡ true
  pub moves : EachMove (λ n m. none_better r ks n m ≡ true) n ms

abbrev pub IsKey : List Key → Key → Type 0
IsKey [] k = ⊥
IsKey (j ∷ js) k = (j ≡ k) ⊎ IsKey js k

none_of : (p : Key → Bool) (ks : List Key) (k : Key) → list_any p ks ≡ false → IsKey ks k → p k ≡ false
none_of p [] k off none = absurd none
none_of p (j ∷ js) k off (inl same) = subst (λ (q : Key). p q ≡ false) same (or_first (p j) _ off)
  where
    or_first : (a b : Bool) → (a || b) ≡ false → a ≡ false
    or_first a b e = grind (arith, e)
none_of p (j ∷ js) k off (inr later) = none_of p js k (or_later (p j) _ off) later
  where
    or_later : (a b : Bool) → (a || b) ≡ false → b ≡ false
    or_later a b e = grind (arith, e)

all_of : (p : Key → Bool) (ks : List Key) (k : Key) → list_all p ks ≡ true → IsKey ks k → p k ≡ true
all_of p [] k e none = absurd none
all_of p (j ∷ js) k e (inl same) = subst (λ (q : Key). p q ≡ true) same (then e (λ a b. a))
all_of p (j ∷ js) k e (inr later) = all_of p js k (then e (λ a b. b)) later

pub hears_none_better : (bound : ℕ) (started : ℕ → ℕ) (r : ℕ) (ks : List Key) (n : Network) (ms : List Move) → EachHeard r ks n ms → (k : Key) → IsKey ks k
    → 0 + started r ≤ bound → HearsNoBetter k bound started r n ms
hears_none_better bound started r ks n ms f k is by =
    let s : Found Station _ (station_at n r) = found Station (λ (st : Station). list_all (λ k. is_over 0 (row_at (st.state).asserts k)) ks) (station_at n r) f.over in record {
      none = each_more ms n f.moves;
      station = s.it;
      there = s.is;
      until = 0;
      over = all_of (λ k. is_over 0 (row_at ((s.it).state).asserts k)) ks k s.passes is;
      by = by;
    }
  where
    each_more : (ms : List Move) (n : Network) → EachMove (λ n m. none_better r ks n m ≡ true) n ms
        → EachMove (λ n m. (e : Event) (st : Station) → event_of n m ≡ Some (r, e) → station_at n r ≡ Some st
        → hears_better k st.state (done_as (happens st.state e)) ≡ false) n ms
    each_more [] n e = tt
    each_more (m ∷ ms) n e = (
      λ x st ev at. none_of (λ k. hears_better k st.state (done_as (happens st.state x))) ks k
          (not_so r (λ s a. list_any (λ k. hears_better k s a) ks) n m e.0 x st ev at) is,
      each_more ms (moved n m).1 e.1,
    )

-- ---- a move

module _ (g src : ℕ) where
  -- no packet of the source
  abbrev none_of_it : Option Packet → Bool
  none_of_it o = option_map_or (λ (p : Packet). not ((p.destination == g) && (p.source == src))) o true

  -- an event of its own brings a router none
  abbrev pub inside_test : ℕ → Network → Move → Network → Bool
  inside_test r n (At q e) next =
      not (q == r) || option_map_or (λ (st : Station). none_of_it (packet_in (done_as (happens st.state e)))) (station_at n q) true
  inside_test r n (Deliver q i k draw) next = true
  inside_test r n (DeliverUnicast q k draw) next = true

  pub inside_so : (r : ℕ) (n : Network) (m : Move) (next : Network) → inside_test r n m next ≡ true → (e : Event) (st : Station) (p : Packet)
      → m ≡ At r e → station_at n r ≡ Some st → packet_in (done_as (happens st.state e)) ≡ Some p → p.destination ≡ g → p.source ≡ src → ⊥
  inside_so r n m next passed e st p is at brought group source = go (subst (λ (w : Move). inside_test r n w next ≡ true) is passed)
    where
      contradicts : (b : Bool) → b ≡ true → b ≡ false → ⊥
      contradicts b e f = cc (sym e ∙ f)

      both : ((p.destination == g) && (p.source == src)) ≡ true
      both = both_true (eq-eqb p.destination g group) (eq-eqb p.source src source)

      go : (not (r == r) || option_map_or (λ (st : Station). none_of_it (packet_in (done_as (happens st.state e)))) (station_at n r) true) ≡ true → ⊥
      go h =
          contradicts ((p.destination == g) && (p.source == src)) both
          (off_so _ (each_found (λ (p : Packet). not ((p.destination == g) && (p.source == src))) (packet_in (done_as (happens st.state e))) p
          (each_found (λ (st : Station). none_of_it (packet_in (done_as (happens st.state e)))) (station_at n r) st
          (if_so (r == r) _ h (eq-eqb r r refl)) at) brought))
