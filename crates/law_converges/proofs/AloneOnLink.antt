-- Why each router of a link but one sends none of a source's packets there, and so that nothing else comes down a way.
use Rattle.std.{proofs.{Common.{Bool, List, None, Option, Some, [], ap, arith, eq-eqb, eqb-true, false, inl, inr, map, not, refl, subst, sym, true, ℕ, ◌&&◌, ◌++◌, ◌<◌, ◌==◌, ◌||◌, ◌∙◌, ◌∷◌, ◌≡◌, ◌≤◌, ◌⊎◌}, lemmas.List.Elements.recursion_from_All}, specs.{List.{AllByRecursion, Contains, flat_map}, Prelude.{if◌then◌else◌, option_and_then, option_map, slice_get}}}
use Rattle.pim_ip.{specs.Ipv4.{Packet, copy_text}}
use Rattle.pim_types.{specs.declared.event.Event.Event}
use Rattle.pim_model.{specs.{Cause.done_as, Neighbours.is_dr, Network.{At, Deliver, DeliverUnicast, Move, Network, Sent, Station, event_of, frame_at, frame_event, is_on_frame_link, moved, station_at, unicast_event}, Receivers.{local_receiver_include, local_receiver_star}, Sets.{assert_source, assert_star, is_winner, joins, joins_star, lost_assert, lost_assert_star, pim_include, pim_include_star, serves, serves_star}, Writing.on_link, declared.accepted.Accepted.Accepted}}
use Rattle.law_streams.{proofs.{Copies.{never_back, ttl_falls}, Links.each_contained, Pairs.{Steps, one_router, same_station}}, specs.{Adjacent.Adjacent, Copies.{IsLower, copies_at, happens}, InTimeJoins.{Always, IsBy, IsReady, Star, time_at}}}
use Rattle.law_converges.{proofs.{AloneByAssert.same_text, CarriedNetwork.{carried_network_settles, claim_quiet, one_lan}, CarriedWays.{HopsStand, none_besides}, Inside.{IsFrom, copied_from}, LinkJoins.{first_of, too_late}, LinkLosers.loser_comes_to_stay, MemberLinks.{IsOpenTo, among, one_claim, one_link, passes_on, quiet}, OneSender.silenced, Past.{later_past, no_station, same_past}, RoutesToRp.early_so, Settles.one_of, SilentRouters.{frame_so, is_frame_on, only_way_in_is_taken, unasked_sends_none}}, specs.{AloneByAssert.IsAboutIt, AloneOnLink.{AreMembers, ComesDownTheWay, ComesFromAbove, HasLostGroup, HasLostIt, HasNoHosts, IsMemberAt, IsSecond, IsUnjoined, Lost, LostGroup, NoHosts, NotDr, OneRouterSends, OthersSendNone, OthersSendNoneOnWay, SendsNone, TakesOn, TakesThere}, Carried.{Arrivals, EachMove, Traffic}, CarriedNetwork.{Claim, ClaimIsQuiet, HopOn, IsOneLan, IsQuietPlan, Lan, LanIsQuiet, Plan, contest_on, layout_of, number_of}, CarriedWays.{forwarders, root_of}, ComesOnce.{AllCameDown, AreAlone, AreAlonePast, Forwarder, IsAlone, IsFromAbove, IsOfSource, TakesFromAbove}, LinkDr.{IsDrOf, IsOne, Member, between, is_preferred}, LinkLosers.{HasLostAfter, HasLostTo}, MemberLinks.{IsOneClaim, to_hosts}, OneSender.IsOffTree, Past.{ArePast, HoldsPast, HoldsPastOn}, Settles.{Contest, ContestIsQuiet, HasOneSender, HasSettled, LinkHasSettled, LoserIsQuiet, routers}, SilentRouters.{IsOnlyWayIn, is_asked_on}}}

contradicts : (b : Bool) → b ≡ true → b ≡ false → ⊥
contradicts b e f = cc (sym e ∙ f)

-- ---- moves

module _ (started : ℕ → ℕ) (limit : ℕ) where
  abbrev PastIt : (Network → Type 0) → Network → Type 0
  PastIt P n = ArePast started limit n → P n

  abbrev pub Past : (Network → Move → Type 0) → Network → Move → Type 0
  Past P n m = ArePast started limit n → P n m

  -- what holds after each move past a limit holds before each, if it does so before the first
  pub before_each : (P : Network → Type 0) (ms : List Move) (n : Network) → (ArePast started limit n → P n) → HoldsPast started limit P n ms
      → EachMove (λ n m. PastIt P n) n ms
  before_each P [] n now f = tt
  before_each P (m ∷ ms) n now f = (now, before_each P ms (moved n m).1 f.0 f.1)

pub each_move_both : (P Q R : Network → Move → Type 0) → ((n : Network) (m : Move) → P n m → Q n m → R n m) → (ms : List Move) (n : Network)
    → EachMove P n ms → EachMove Q n ms → EachMove R n ms
each_move_both P Q R so [] n f g = tt
each_move_both P Q R so (m ∷ ms) n f g = (so n m f.0 g.0, each_move_both P Q R so ms (moved n m).1 f.1 g.1)

pub each_move_more : (P R : Network → Move → Type 0) → ((n : Network) (m : Move) → P n m → R n m) → (ms : List Move) (n : Network)
    → EachMove P n ms → EachMove R n ms
each_move_more P R so [] n f = tt
each_move_more P R so (m ∷ ms) n f = (so n m f.0, each_move_more P R so ms (moved n m).1 f.1)

-- ---- who is on a link stays

module _ (link : ℕ) (members : List Member) where
  pub members_then : (n : Network) (m : Move) → AreMembers link members n → AreMembers link members (moved n m).1
  members_then n m f q j st at linked = go (station_at n q) refl
    where
      by : (old : Station) → station_at n q ≡ Some old → old.links ≡ st.links → IsMemberAt members q j
      by old is same = f q j old is (ap (λ (ls : List ℕ). slice_get ls j) same ∙ linked)

      moves : (old : Station) → station_at n q ≡ Some old → (station_at (moved n m).1 q ≡ Some old) ⊎ Steps n m q old → IsMemberAt members q j
      moves old is (inl same) = by old is (ap (λ (z : Station). z.links) (same_station same at))
      moves old is (inr w) = by old is (ap (λ (z : Station). z.links) (same_station (w.stepped).here at))

      go : (o : Option Station) → station_at n q ≡ o → IsMemberAt members q j
      go None none = absurd (no_station n m q st none at)
      go (Some old) is = moves old is (one_router n m q old is)

  members_each : (ms : List Move) (n : Network) → AreMembers link members n → EachMove (λ n m. AreMembers link members n) n ms
  members_each [] n f = tt
  members_each (m ∷ ms) n f = (f, members_each ms (moved n m).1 (members_then n m f))

-- ---- asserts

each_front : {X : Type 0} (P : X → Type 0) (xs ys : List X) → AllByRecursion P (xs ++ ys) → AllByRecursion P xs
each_front P [] ys f = tt
each_front P (x ∷ xs) ys f = (f.0, each_front P xs ys f.1)

each_back : {X : Type 0} (P : X → Type 0) (xs ys : List X) → AllByRecursion P (xs ++ ys) → AllByRecursion P ys
each_back P [] ys f = f
each_back P (x ∷ xs) ys f = each_back P xs ys f.1

contests_of : (P : Contest → Type 0) (lans : List Lan) (a : Lan) → AllByRecursion P (flat_map (λ (b : Lan). map (contest_on b) b.claims) lans)
    → IsOneLan lans a → AllByRecursion P (map (contest_on a) a.claims)
contests_of P [] a f none = absurd none
contests_of P (b ∷ bs) a f (inl same) =
    subst (λ (z : Lan). AllByRecursion P (map (contest_on z) z.claims)) same
    (each_front P (map (contest_on b) b.claims) (flat_map (λ (c : Lan). map (contest_on c) c.claims) bs) f)
contests_of P (b ∷ bs) a f (inr later) =
    contests_of P bs a (each_back P (map (contest_on b) b.claims) (flat_map (λ (c : Lan). map (contest_on c) c.claims) bs) f) later

one_contest : (P : Contest → Type 0) (a : Lan) (cs : List Claim) (c : Claim) → AllByRecursion P (map (contest_on a) cs) → IsOneClaim cs c
    → P (contest_on a c)
one_contest P a [] c f none = absurd none
one_contest P a (b ∷ bs) c f (inl same) = subst (λ (z : Claim). P (contest_on a z)) same f.0
one_contest P a (b ∷ bs) c f (inr later) = one_contest P a bs c f.1 later

-- ---- losers of the link

each_swapped : {X : Type 0} (P : X → Network → Move → Type 0) (ms : List Move) (n : Network) → ((x : X) → EachMove (P x) n ms)
    → EachMove (λ n m. (x : X) → P x n m) n ms
each_swapped P [] n f = tt
each_swapped P (m ∷ ms) n f = (λ x. (f x).0, each_swapped P ms (moved n m).1 (λ x. (f x).1))

-- ---- why a router sends none

serves_none : (d w l k : Bool) → d ≡ false → w ≡ false → (((d && not l) || w) && k) ≡ false
serves_none d w l k e f = grind arith

for_none : (s k : Bool) → k ≡ false → (s && k) ≡ false
for_none s k e = grind arith

none_of_four : (a b c d l : Bool) → a ≡ false → b ≡ false → c ≡ false → d ≡ false → ((b || d) || ((a || c) && not l)) ≡ false
none_of_four a b c d l e f h i = grind (arith, e, f, h, i)

lost_to_both : (a b c d l : Bool) → b ≡ false → d ≡ false → l ≡ true → ((b || d) || ((a || c) && not l)) ≡ false
lost_to_both a b c d l f i lost = grind (arith, f, i, lost)

-- one of those who lost an assert of the link
record Losing (a : Lan) : Type 0 where
  claim : Claim
  member : Member
  among : IsOneClaim a.claims claim
  loses : IsOne claim.losers member

-- it has lost that of a group
abbrev HasLost : (a : Lan) → Losing a → Network → Type 0
HasLost a l n = (l.claim).source ≡ 0 → (st : Station) → station_at n (l.member).router ≡ Some st
    → lost_assert_star st.state (l.claim).group (l.member).iface ≡ true

abbrev HaveLost : Lan → Network → Type 0
HaveLost a n = (l : Losing a) → HasLost a l n

module _ (g src : ℕ) (a : Lan) (n : Network) (settled : LinkHasSettled n a.link) where
  -- who isn't preferred isn't the DR
  not_dr : (y : Member) → IsOne (routers a.link) y → (s : IsSecond g src (routers a.link) y n) → is_dr (s.station).state y.iface ≡ false
  not_dr y is s = go (is_dr (s.station).state y.iface) refl
    where
      none : is_dr (s.station).state y.iface ≡ true → ⊥
      none won =
          let dr : IsDrOf y n = record { station = s.station; there = s.there; elected = won } in
          contradicts (is_preferred s.other y) s.preferred
          (subst (λ (z : Member). is_preferred s.other z ≡ false) (settled.dr.only y is dr) (settled.dr.first s.other s.among))

      go : (b : Bool) → is_dr (s.station).state y.iface ≡ b → b ≡ false
      go false e = refl
      go true e = absurd (none e)

  unasked_second : (y : Member) → IsOne (routers a.link) y → (st : Station) → station_at n y.router ≡ Some st → IsUnjoined g src y n
      → IsSecond g src (routers a.link) y n → is_asked_on st.state g src y.iface ≡ false
  unfolding pim_include_star pim_include serves_star serves
  unasked_second y is st at u s =
      let own : s.station ≡ st = same_station s.there at in
      let dr : is_dr st.state y.iface ≡ false = subst (λ (z : Station). is_dr z.state y.iface ≡ false) own (not_dr y is s) in
      none_of_four (joins_star st.state g y.iface) (joins st.state g src y.iface) _ _ (lost_assert_star st.state g y.iface)
      (subst (λ (z : Station). joins_star z.state g y.iface ≡ false) (same_station u.there at) u.group)
      (subst (λ (z : Station). joins z.state g src y.iface ≡ false) (same_station u.there at) u.source)
      (serves_none (is_dr st.state y.iface) (is_winner (assert_star st.state g y.iface)) (lost_assert_star st.state g y.iface)
      (local_receiver_star st.state g y.iface) dr (subst (λ (z : Station). is_winner (assert_star z.state g y.iface) ≡ false) own s.group))
      (serves_none (is_dr st.state y.iface) (is_winner (assert_source st.state g src y.iface)) (lost_assert st.state g src y.iface)
      (local_receiver_include st.state g src y.iface) dr
      (subst (λ (z : Station). is_winner (assert_source z.state g src y.iface) ≡ false) own s.source))

  unasked_alone : (y : Member) (st : Station) → station_at n y.router ≡ Some st → IsUnjoined g src y n → HasNoHosts g src y n
      → is_asked_on st.state g src y.iface ≡ false
  unfolding pim_include_star pim_include
  unasked_alone y st at u h =
      none_of_four (joins_star st.state g y.iface) (joins st.state g src y.iface) _ _ (lost_assert_star st.state g y.iface)
      (subst (λ (z : Station). joins_star z.state g y.iface ≡ false) (same_station u.there at) u.group)
      (subst (λ (z : Station). joins z.state g src y.iface ≡ false) (same_station u.there at) u.source)
      (for_none (serves_star st.state g y.iface) (local_receiver_star st.state g y.iface)
      (subst (λ (z : Station). local_receiver_star z.state g y.iface ≡ false) (same_station h.there at) h.group))
      (for_none (serves st.state g src y.iface) (local_receiver_include st.state g src y.iface)
      (subst (λ (z : Station). local_receiver_include z.state g src y.iface ≡ false) (same_station h.there at) h.source))

  unasked_loser : (losers : HaveLost a n) (y : Member) (st : Station) → station_at n y.router ≡ Some st → HasLostGroup g src a y n
      → is_asked_on st.state g src y.iface ≡ false
  unfolding pim_include
  unasked_loser losers y st at f =
      lost_to_both (joins_star st.state g y.iface) (joins st.state g src y.iface) (pim_include_star st.state g y.iface)
      (serves st.state g src y.iface && local_receiver_include st.state g src y.iface) (lost_assert_star st.state g y.iface)
      (subst (λ (z : Station). joins z.state g src y.iface ≡ false) (same_station f.there at) f.joined)
      (for_none (serves st.state g src y.iface) (local_receiver_include st.state g src y.iface)
      (subst (λ (z : Station). local_receiver_include z.state g src y.iface ≡ false) (same_station f.there at) f.asked))
      (subst (λ (h : ℕ). lost_assert_star st.state h y.iface ≡ true) f.group
      (losers (record { claim = f.claim; member = y; among = f.among; loses = f.loser }) f.star st at))

  module _ (m : Move) (contests : (c : Claim) → IsOneClaim a.claims c → HasOneSender n (contest_on a c)) (losers : HaveLost a n) (y : Member)
      (is : IsOne (routers a.link) y) (e : Event) (st : Station) (text : List ℕ) (ev : event_of n m ≡ Some (y.router, e))
      (at : station_at n y.router ≡ Some st) (its : IsOfSource g src text) (copied : Contains (copies_at st.state e) (on_link y.iface text)) where
    low : IsLower st.state e (on_link y.iface text)
    low =
        each_contained (IsLower st.state e) (copies_at st.state e) (on_link y.iface text)
        (recursion_from_All (IsLower st.state e) (copies_at st.state e) (ttl_falls st.state e)) copied

    abbrev p : Packet
    p = (low).packet

    from : IsFrom g src p
    from = copied_from g src st.state e p text (low).brought (same_text y.iface (low).link text (copy_text p) (low).is) its

    unasked : is_asked_on st.state g src y.iface ≡ false → ⊥
    unasked off =
        unasked_sends_none st.state e p y.iface text (low).brought
        (subst (λ (d : ℕ). is_asked_on st.state d p.source y.iface ≡ false) (sym (from).group)
        (subst (λ (s : ℕ). is_asked_on st.state g s y.iface ≡ false) (sym (from).source) off)) copied

    takes_there : TakesOn g src y n → ⊥
    takes_there f =
        never_back st.state e (record { number = y.iface }) p text
        (only_way_in_is_taken st.state e p y.iface y.iface text (low).brought
        (subst (λ (d : ℕ). IsOnlyWayIn d p.source y.iface st.state) (sym (from).group)
        (subst (λ (s : ℕ). IsOnlyWayIn g s y.iface st.state) (sym (from).source)
        (subst (λ (z : Station). IsOnlyWayIn g src y.iface z.state) (same_station f.there at) f.only))) copied) copied

    lost : HasLostIt g src a y n m → ⊥
    lost f =
        let about : IsAboutIt (contest_on a f.claim) st e p = f.about e st p ev at (low).brought (from).group (from).source in
        (contests f.claim f.among).only y f.loser e st about.iface p text at about.data_came about.about copied

    none : SendsNone g src a y n m → ⊥
    none (NotDr u s) = unasked (unasked_second y is st at u s)
    none (NoHosts u h) = unasked (unasked_alone y st at u h)
    none (TakesThere f) = takes_there f
    none (LostGroup f) = unasked (unasked_loser losers y st at f)
    none (Lost f) = lost f

  alone : (m : Move) (r : ℕ) → ((c : Claim) → IsOneClaim a.claims c → HasOneSender n (contest_on a c)) → HaveLost a n → AreMembers (number_of a) (routers a.link) n
      → OthersSendNone g src a r n m → IsAlone g src r (number_of a) n m
  alone m r contests losers members others q j e st text ev at linked its copied = go (others y.member y.among)
    where
      y : IsMemberAt (routers a.link) q j
      y = members q j st at linked

      go : ((y).member.router ≡ r) ⊎ SendsNone g src a (y).member n m → q ≡ r
      go (inl same) = (y).router ∙ same
      go (inr why) =
          absurd (none m contests losers (y).member (y).among e st text (ev ∙ ap (λ (z : ℕ). Some (z, e)) (y).router)
          (ap (station_at n) (sym (y).router) ∙ at) its
          (subst (λ (i : ℕ). Contains (copies_at st.state e) (on_link i text)) (y).iface copied) why)

module _ (g src d late lag bound limit : ℕ) (started : ℕ → ℕ) (t : Traffic) (came : Arrivals) (plan : Plan) (n : Network) (ms : List Move)
    (q : IsQuietPlan d late lag bound started t came plan n ms) (le : bound ≤ limit) (early : ArePast started bound n → ⊥) where
  further : (k : ℕ) → limit < k → bound < k
  further k lt = omega (arith, le, lt)

  settled_each : EachMove (λ n m. PastIt started limit (HasSettled (layout_of d late started t plan)) n) n ms
  settled_each =
      before_each started limit (HasSettled (layout_of d late started t plan)) ms n
      (λ past. absurd (early (λ r st at. further (time_at started r st) (past r st at))))
      (later_past started limit bound le (HasSettled (layout_of d late started t plan)) ms n
      (carried_network_settles d late lag bound started t came plan n ms q))

  -- the losers have lost, past the bound
  module _ (a : Lan) (among : IsOneLan plan.lans a) (l : Losing a) where
    abbrev its_claim : Claim
    its_claim = l.claim

    abbrev its_loser : Member
    its_loser = l.member

    its_lan : LanIsQuiet d late bound started t came n ms a
    its_lan = one_lan (LanIsQuiet d late bound started t came n ms) plan.lans a q.lans among

    contest : ContestIsQuiet d bound started n ms (contest_on a its_claim)
    contest =
        claim_quiet d late lag bound started t came n ms q.few a its_lan its_claim (one_claim (ClaimIsQuiet d bound started n ms a) a.claims its_claim (its_lan).claims l.among)

    loser : LoserIsQuiet d bound started n ms (contest_on a its_claim) (between (number_of a) its_claim.winner its_loser)
    loser =
        one_of (λ y. LoserIsQuiet d bound started n ms (contest_on a its_claim) (between (number_of a) its_claim.winner y)) its_claim.losers its_loser (contest).losers l.loses

    module _ (star : its_claim.source ≡ 0) where
      abbrev pair : Adjacent
      pair = between (number_of a) its_claim.winner its_loser

      off : Always (IsOffTree its_claim.group 0 its_claim.metric pair) n ms
      off = subst (λ (s : ℕ). Always (IsOffTree its_claim.group s its_claim.metric pair) n ms) star (loser).off

      lost_after : HasLostAfter its_claim.group 0 its_claim.metric started pair bound n ms
      lost_after =
          subst (λ (s : ℕ). HasLostAfter its_claim.group s its_claim.metric started pair bound n ms) star
          (loser_comes_to_stay its_claim.group its_claim.source its_claim.metric d bound started pair n ms (contest).few (loser).comes (loser).by)

      walk : (ms : List Move) (n : Network) → Always (IsOffTree its_claim.group 0 its_claim.metric pair) n ms → HasLostAfter its_claim.group 0 its_claim.metric started pair bound n ms
          → HoldsPast started bound (λ n. (st : Station) → station_at n its_loser.router ≡ Some st → lost_assert_star st.state its_claim.group its_loser.iface ≡ true) n ms
      walk [] n tree f = tt
      walk (m ∷ ms) n tree f = (λ past st at. go past st at f.0, walk ms (moved n m).1 tree.1 f.1)
        where
          go : ArePast started bound (moved n m).1 → (st : Station) → station_at (moved n m).1 its_loser.router ≡ Some st
              → IsBy started its_loser.router bound (moved n m).1 ⊎ HasLostTo its_claim.group 0 its_claim.metric pair (moved n m).1
              → lost_assert_star st.state its_claim.group its_loser.iface ≡ true
          go past st at (inl by) = absurd (too_late (time_at started its_loser.router st) bound (by st at) (past its_loser.router st at))
          go past st at (inr lost) =
              silenced its_claim.group 0 its_claim.metric pair (moved n m).1 lost (first_of (IsOffTree its_claim.group 0 its_claim.metric pair) (moved n m).1 ms tree.1) st at

      lost_past : HoldsPast started bound (λ n. (st : Station) → station_at n its_loser.router ≡ Some st → lost_assert_star st.state its_claim.group its_loser.iface ≡ true) n ms
      lost_past = walk ms n off lost_after

    lost_each : (b : Bool) → (its_claim.source == 0) ≡ b → EachMove (λ n m. PastIt started limit (HasLost a l) n) n ms
    lost_each true is =
        before_each started limit (HasLost a l) ms n (λ past. absurd (early (λ r st at. further (time_at started r st) (past r st at))))
        (later_past started limit bound le (HasLost a l) ms n
        (same_past started bound (λ n. (st : Station) → station_at n its_loser.router ≡ Some st → lost_assert_star st.state its_claim.group its_loser.iface ≡ true)
        (HasLost a l) (λ n f star. f) ms n (lost_past (eqb-true its_claim.source 0 is))))
    lost_each false is = each_of_none (λ n past star. absurd (contradicts (its_claim.source == 0) (eq-eqb its_claim.source 0 star) is)) ms n
      where
        each_of_none : ((n : Network) → PastIt started limit (HasLost a l) n) → (ms : List Move) (n : Network)
            → EachMove (λ n m. PastIt started limit (HasLost a l) n) n ms
        each_of_none f [] n = tt
        each_of_none f (m ∷ ms) n = (f n, each_of_none f ms (moved n m).1)

  module _ (a : Lan) (among : IsOneLan plan.lans a) (r : ℕ) (members : AreMembers (number_of a) (routers a.link) n) where
    losers_each : EachMove (λ n m. ArePast started limit n → HaveLost a n) n ms
    losers_each =
        each_move_more (λ n m. (l : Losing a) → PastIt started limit (HasLost a l) n) (λ n m. ArePast started limit n → HaveLost a n)
        (λ n m f past l. f l past) ms n
        (each_swapped (λ l n m. PastIt started limit (HasLost a l) n) ms n (λ l. lost_each a among l ((l.claim).source == 0) refl))

    pub alone_each : EachMove (Past started limit (OthersSendNone g src a r)) n ms → EachMove (Past started limit (IsAlone g src r (number_of a))) n ms
    alone_each others =
        each_move_both (λ n m. PastIt started limit (HasSettled (layout_of d late started t plan)) n × (ArePast started limit n → HaveLost a n))
        (λ n m. AreMembers (number_of a) (routers a.link) n × Past started limit (OthersSendNone g src a r) n m) (Past started limit (IsAlone g src r (number_of a)))
        (λ n m s f past. alone g src a n (one_link (LinkHasSettled n) plan.lans a (s.0 past).links among) m r
        (λ c is. one_contest (HasOneSender n) a a.claims c (contests_of (HasOneSender n) plan.lans a (s.0 past).contests among) is) (s.1 past) f.0
        (f.1 past)) ms n
        (each_move_both (λ n m. PastIt started limit (HasSettled (layout_of d late started t plan)) n) (λ n m. ArePast started limit n → HaveLost a n)
        (λ n m. PastIt started limit (HasSettled (layout_of d late started t plan)) n × (ArePast started limit n → HaveLost a n)) (λ n m u v. (u, v))
        ms n settled_each losers_each)
        (each_move_both (λ n m. AreMembers (number_of a) (routers a.link) n) (Past started limit (OthersSendNone g src a r))
        (λ n m. AreMembers (number_of a) (routers a.link) n × Past started limit (OthersSendNone g src a r) n m) (λ n m u v. (u, v)) ms n
        (members_each (number_of a) (routers a.link) ms n members) others)

pub one_router_sends : OneRouterSends
one_router_sends g src d late lag bound limit r started t came plan n ms a q among le early members others =
    alone_each g src d late lag bound limit started t came plan n ms q le early a among r members others

-- ---- a router of a way

same_pair : {q r : ℕ} {x e : Event} → (let o : Option (ℕ × Event) = Some (q, x) in o) ≡ Some (r, e) → (q ≡ r) × (x ≡ e)
same_pair h = grind (arith, h)

module _ (f : Forwarder) (n : Network) (e : Event) where
  abbrev its_event : Option (ℕ × Event)
  its_event = Some ((f.self).router, e)

  -- an event of its own, a delivery on a link, and one as a unicast
  at_event : (q : ℕ) (x : Event) → event_of n (At q x) ≡ its_event → (q ≡ (f.self).router) × (x ≡ e)
  unfolding event_of
  at_event q x ev = go (station_at n q) ev
    where
      go : (o : Option Station) → option_map {U = ℕ × Event} (λ (st : Station). (q, x)) o ≡ its_event → (q ≡ (f.self).router) × (x ≡ e)
      go None h = absurd (cc h)
      go (Some st) h = same_pair h

  on_frame : (q i k draw : ℕ) → event_of n (Deliver q i k draw) ≡ its_event → is_frame_on (f.self).iface e.kind ≡ true
      → IsFromAbove f (Deliver q i k draw)
  unfolding event_of
  on_frame q i k draw ev framed = go (station_at n q) (frame_at n k) ev
    where
      back : (q ≡ (f.self).router) × (i ≡ (f.self).iface) → IsFromAbove f (Deliver q i k draw)
      back same = record { frame = k; draw = draw; is = (λ z. Deliver (same.0 z) (same.1 z) k draw) }

      its : (fr : Sent) (b : Bool)
          → (let o : Option (ℕ × Event) = (if b then Some (q, frame_event i draw fr) else None) in o) ≡ its_event
          → IsFromAbove f (Deliver q i k draw)
      its fr true h =
          let same : (q ≡ (f.self).router) × (frame_event i draw fr ≡ e) = same_pair h in
          back (same.0, eqb-true i (f.self).iface (ap (λ (x : Event). is_frame_on (f.self).iface x.kind) same.1 ∙ framed))
      its fr false h = absurd (cc h)

      go : (x : Option Station) (y : Option Sent)
          → option_and_then {U = ℕ × Event} (λ (st : Station). option_and_then {U = ℕ × Event} (λ (fr : Sent).
          if is_on_frame_link st i fr then Some (q, frame_event i draw fr) else None) y) x ≡ its_event → IsFromAbove f (Deliver q i k draw)
      go None y h = absurd (cc h)
      go (Some z) None h = absurd (cc h)
      go (Some z) (Some fr) h = its fr (is_on_frame_link z i fr) h

  not_unicast : (q k draw : ℕ) → event_of n (DeliverUnicast q k draw) ≡ its_event → is_frame_on (f.self).iface e.kind ≡ true → ⊥
  unfolding event_of
  not_unicast q k draw ev framed = go (station_at n q) (frame_at n k) ev
    where
      its : (fr : Sent) → (let o : Option (ℕ × Event) = Some (q, unicast_event draw fr) in o) ≡ its_event → ⊥
      its fr h =
          contradicts (is_frame_on (f.self).iface e.kind) framed
          (ap (λ (x : Event). is_frame_on (f.self).iface x.kind) (sym (same_pair h).1))

      go : (x : Option Station) (y : Option Sent)
          → option_and_then {U = ℕ × Event} (λ (st : Station). option_map {U = ℕ × Event} (λ (fr : Sent). (q, unicast_event draw fr)) y) x ≡ its_event → ⊥
      go None y h = cc h
      go (Some z) None h = cc h
      go (Some z) (Some fr) h = its fr h

module _ (g src : ℕ) (n : Network) (m : Move) (f : Forwarder) (c : ComesFromAbove g src n m f) where
  takes_above : TakesFromAbove g src n m f
  takes_above e st text ev at its copied = by_move m refl
    where
      low : IsLower st.state e (on_link f.down text)
      low =
          each_contained (IsLower st.state e) (copies_at st.state e) (on_link f.down text)
          (recursion_from_All (IsLower st.state e) (copies_at st.state e) (ttl_falls st.state e)) copied

      from : IsFrom g src low.packet
      from = copied_from g src st.state e low.packet text low.brought (same_text f.down low.link text (copy_text low.packet) low.is) its

      came : done_as (happens st.state e) ≡ Some (Accepted.Data (record { number = (f.self).iface }) low.packet)
      came =
          only_way_in_is_taken st.state e low.packet (f.self).iface f.down text low.brought
          (subst (λ (d : ℕ). IsOnlyWayIn d (low.packet).source (f.self).iface st.state) (sym from.group)
          (subst (λ (s : ℕ). IsOnlyWayIn g s (f.self).iface st.state) (sym from.source)
          (subst (λ (z : Station). IsOnlyWayIn g src (f.self).iface z.state) (same_station (c.takes).there at) (c.takes).only))) copied

      framed : is_frame_on (f.self).iface e.kind ≡ true
      framed = frame_so st.state e (record { number = (f.self).iface }) low.packet came

      inside : (q : ℕ) (x : Event) → m ≡ At q x → ⊥
      inside q x is =
          let same : (q ≡ (f.self).router) × (x ≡ e) = at_event f n e q x (ap (event_of n) (sym is) ∙ ev) in
          c.none_inside e st low.packet (is ∙ (λ z. At (same.0 z) (same.1 z))) at low.brought from.group from.source

      by_move : (w : Move) → m ≡ w → IsFromAbove f m
      by_move (At q x) is = absurd (inside q x is)
      by_move (Deliver q i k draw) is = subst (IsFromAbove f) (sym is) (on_frame f n e q i k draw (ap (event_of n) (sym is) ∙ ev) framed)
      by_move (DeliverUnicast q k draw) is = absurd (not_unicast f n e q k draw (ap (event_of n) (sym is) ∙ ev) framed)

takes_each : (g src : ℕ) (n : Network) (m : Move) (fs : List Forwarder) → AllByRecursion (ComesFromAbove g src n m) fs
    → AllByRecursion (TakesFromAbove g src n m) fs
takes_each g src n m [] f = tt
takes_each g src n m (x ∷ xs) f = (takes_above g src n m x f.0, takes_each g src n m xs f.1)

-- ---- a whole way

module _ (g src rp d late lag bound limit : ℕ) (started : ℕ → ℕ) (t : Traffic) (came : Arrivals) (plan : Plan) (n : Network) (ms : List Move)
    (q : IsQuietPlan d late lag bound started t came plan n ms) (le : bound ≤ limit) (early : ArePast started bound n → ⊥)
    (members : AllByRecursion (λ (b : Lan). AreMembers (number_of b) (routers b.link) n) plan.lans) where
  on_lan : (a : Lan) → IsOneLan plan.lans a → (r : ℕ) → EachMove (Past started limit (OthersSendNone g src a r)) n ms
      → EachMove (Past started limit (IsAlone g src r (number_of a))) n ms
  on_lan a is r others =
      alone_each g src d late lag bound limit started t came plan n ms q le early a is r
      (one_lan (λ (b : Lan). AreMembers (number_of b) (routers b.link) n) plan.lans a members is) others

  on_way : (r : ℕ) (h : HopOn) (hs : List HopOn) → HopsStand (Star rp) g limit started plan.lans n ms r (h ∷ hs)
      → EachMove (Past started limit (OthersSendNoneOnWay g src h hs)) n ms
      → EachMove (Past started limit (λ n m. AreAlone g src (root_of h hs) (number_of h.lan) (forwarders h hs) n m)) n ms
  on_way r h [] hops others = on_lan h.lan ((hops.1).among) (h.upper).router others
  on_way r h (k ∷ ks) hops others =
      each_move_both (Past started limit (IsAlone g src (h.upper).router (number_of h.lan)))
      (Past started limit (λ n m. AreAlone g src (root_of k ks) (number_of k.lan) (forwarders k ks) n m))
      (Past started limit (λ n m. AreAlone g src (root_of h (k ∷ ks)) (number_of h.lan) (forwarders h (k ∷ ks)) n m))
      (λ n m u v past. (subst (λ (r : ℕ). IsAlone g src r (number_of h.lan) n m) (sym (hops.2).0) (u past), v past)) ms n
      (on_lan h.lan ((hops.1).among) (h.upper).router
      (each_move_more (Past started limit (OthersSendNoneOnWay g src h (k ∷ ks))) (Past started limit (OthersSendNone g src h.lan (h.upper).router)) (λ n m f past. (f past).0) ms
      n others))
      (on_way (h.upper).router k ks hops.2
      (each_move_more (Past started limit (OthersSendNoneOnWay g src h (k ∷ ks))) (Past started limit (OthersSendNoneOnWay g src k ks)) (λ n m f past. (f past).1) ms n others))

module _ (g src rp d late lag bound limit : ℕ) (started : ℕ → ℕ) (t : Traffic) (came : Arrivals) (plan : Plan) (n : Network) (ms : List Move)
    (a : Lan) (x : Member) (h : HopOn) (hs : List HopOn) (q : IsQuietPlan d late lag bound started t came plan n ms)
    (o : IsOpenTo g src rp bound limit started plan.lans n ms a x h hs)
    (members : AllByRecursion (λ (b : Lan). AreMembers (number_of b) (routers b.link) n) plan.lans) where
  not_past : ArePast started bound n → ⊥
  not_past past =
      over (time_at started x.router (ready).station)
      (early_so d bound started x n ready (((own).meet).greet x (among g d late lag bound started t came plan n ms a x q o.serves)) (ready).station
      (ready).there) (past x.router (ready).station (ready).there)
    where
      own : LanIsQuiet d late bound started t came n ms a
      own = quiet g d late lag bound started t came plan n ms a x q o.serves

      ready : IsReady x.router n
      ready = ((own).meet).ready x (among g d late lag bound started t came plan n ms a x q o.serves)

      over : (k : ℕ) → k ≤ bound → bound < k → ⊥
      over k le lt = omega (arith, le, lt)

  abbrev its_forwarders : List Forwarder
  its_forwarders = to_hosts a x h ∷ forwarders h hs

  alone_past : EachMove (Past started limit (ComesDownTheWay g src a x h hs)) n ms
      → EachMove (AreAlonePast g src started limit (root_of h hs) (number_of a) its_forwarders) n ms
  alone_past f =
      each_move_both (Past started limit (IsAlone g src x.router (number_of a)))
      (λ n m. Past started limit (λ n m. AreAlone g src (root_of h hs) (number_of h.lan) (forwarders h hs) n m) n m × Past started limit (ComesDownTheWay g src a x h hs) n m)
      (AreAlonePast g src started limit (root_of h hs) (number_of a) its_forwarders)
      (λ n m u v past. (
        (subst (λ (r : ℕ). IsAlone g src r (number_of a) n m) (sym (o.stand).0) (u past), v.0 past),
        takes_each g src n m its_forwarders (v.1 past).from_above,
      )) ms n
      (on_lan g src rp d late lag bound limit started t came plan n ms q o.later not_past members a (o.serves).among x.router
      (each_move_more (Past started limit (ComesDownTheWay g src a x h hs)) (Past started limit (OthersSendNone g src a x.router)) (λ n m c past. (c past).on_link) ms n f))
      (each_move_both (Past started limit (λ n m. AreAlone g src (root_of h hs) (number_of h.lan) (forwarders h hs) n m)) (Past started limit (ComesDownTheWay g src a x h hs))
      (λ n m. Past started limit (λ n m. AreAlone g src (root_of h hs) (number_of h.lan) (forwarders h hs) n m) n m × Past started limit (ComesDownTheWay g src a x h hs) n m)
      (λ n m u v. (u, v)) ms n
      (on_way g src rp d late lag bound limit started t came plan n ms q o.later not_past members x.router h hs o.stand
      (each_move_more (Past started limit (ComesDownTheWay g src a x h hs)) (Past started limit (OthersSendNoneOnWay g src h hs)) (λ n m c past. (c past).on_way) ms n f)) f)

  pub nothing_else : EachMove (Past started limit (ComesDownTheWay g src a x h hs)) n ms
      → HoldsPastOn started limit (AllCameDown g src (root_of h hs) (number_of a) its_forwarders) n ms
  nothing_else f =
      none_besides g src rp d late bound limit started t came plan.lans n ms q.lans h hs (to_hosts a x h) x.router o.addresses o.stand refl refl
      o.held o.tree (passes_on g src rp d late lag bound limit started t came plan n ms a x h hs q o) (alone_past f)
