-- A network settles: the laws of links and of Joins, for all of them at once.
use Rattle.std.{proofs.Common.{◌≡◌, ℕ, suc, ◌+◌, ◌*◌, ◌-◌, ◌<◌, ◌≤◌, List, [], ◌∷◌, length, ◌⊎◌, inl, inr, refl, subst, arith}, specs.List.AllByRecursion}
use Rattle.pim_types.{specs.declared.fact.AssertMetric.AssertMetric}
use Rattle.pim_model.{specs.Network.{Move, Network, Station, moved}}
use Rattle.law_settled.{proofs.ListLaws.{each_both, each_more}}
use Rattle.law_streams.{specs.{Adjacent.{most_late_hello}, InTimeJoins.{Always, IsBy, IsHeld, Join, Pair, most_late, time_at}}, proofs.Copies.never_twice}
use Rattle.law_converges.{specs.{JoinedWays.{AreHeldPast, AreTogether, a_hop}, LinkDr.{HasOneDr, IsOne, Member, OneDrAfter, Stands, between}, LinkJoins.{AllHeldAfter, IsPairOf, JoinsOver}, LinkMembers.{AnswersInTime, GroupKnownAfter, KnowsGroup}, LinkQuerier.{Asks, HasOneQuerier, OneQuerierAfter}, LinkRptOrder.{IsUnpruned, Wire}, OneSender.{IsOffTree, IsSilent, IsSilentAfter}, Past.{ArePast, HoldsPast}, Settles.{Contest, ContestIsQuiet, HasOneSender, HasSettled, Joining, JoiningIsQuiet, Link, LinkHasSettled, LinkIsQuiet, LoserIsQuiet, NetworkSettles, Way, WayIsQuiet, WireIsQuiet, routers}}, proofs.{JoinedWays.way_comes_to_be_joined, LinkDr.{always_more, exactly_one_dr}, LinkJoins.{all_come_to_be_held, first_of, too_late}, LinkMembers.member_comes_to_be_known, LinkQuerier.{asks_of, exactly_one_querier, keeps_of, leads_of}, LinkRptOrder.overridden_prune_has_no_effect, OneSender.at_most_one_comes_to_send, Past.{both_past, each_past, later_past, same_past, throughout_past}}}

each_one : (P : Member → Type 0) (xs : List Member) → ((y : Member) → IsOne xs y → P y) → AllByRecursion P xs
each_one P [] f = tt
each_one P (x ∷ xs) f = (f x (inl refl), each_one P xs (λ y a. f y (inr a)))

pub one_of : (P : Member → Type 0) (xs : List Member) (y : Member) → AllByRecursion P xs → IsOne xs y → P y
one_of P [] y f none = absurd none
one_of P (x ∷ xs) y f (inl same) = subst P same f.0
one_of P (x ∷ xs) y f (inr later) = one_of P xs y f.1 later

pub fewer : (d : ℕ) → d < most_late_hello → d < most_late
fewer d e = omega (arith, e)

module _ (started : ℕ → ℕ) (bound : ℕ) where
  five_past : (P Q R S T U : Network → Type 0) → ((n : Network) → P n → Q n → R n → S n → T n → U n) → (ms : List Move) (n : Network)
      → HoldsPast started bound P n ms → HoldsPast started bound Q n ms → HoldsPast started bound R n ms → HoldsPast started bound S n ms
      → HoldsPast started bound T n ms → HoldsPast started bound U n ms
  five_past P Q R S T U all [] n f g h i j = tt
  five_past P Q R S T U all (m ∷ ms) n f g h i j = (
    λ past. all (moved n m).1 (f.0 past) (g.0 past) (h.0 past) (i.0 past) (j.0 past),
    five_past P Q R S T U all ms (moved n m).1 f.1 g.1 h.1 i.1 j.1,
  )

  -- ---- each law's words in these

  dr_past : (members : List Member) (ms : List Move) (n : Network) → OneDrAfter started members bound n ms
      → HoldsPast started bound (HasOneDr members) n ms
  dr_past members [] n f = tt
  dr_past members (m ∷ ms) n f = (λ past. f.0 (λ x st a at. past x.router st at), dr_past members ms (moved n m).1 f.1)

  querier_past : (first : Member) (others : List Member) (ms : List Move) (n : Network)
      → OneQuerierAfter started first others bound n ms → HoldsPast started bound (HasOneQuerier first others) n ms
  querier_past first others [] n f = tt
  querier_past first others (m ∷ ms) n f =
      (λ past. f.0 (λ x st a at. past x.router st at), querier_past first others ms (moved n m).1 f.1)

  known_past : (g link : ℕ) (x y : Member) (ms : List Move) (n : Network) → Always (Stands link y) n ms
      → GroupKnownAfter started g (between link x y) bound n ms → HoldsPast started bound (KnowsGroup g (between link x y)) n ms
  known_past g link x y [] n stand f = tt
  known_past g link x y (m ∷ ms) n stand f = (λ past. go past f.0, known_past g link x y ms (moved n m).1 stand.1 f.1)
    where
      here : Stands link y (moved n m).1
      here = first_of (Stands link y) (moved n m).1 ms stand.1

      go : ArePast started bound (moved n m).1
          → IsBy started y.router bound (moved n m).1 ⊎ KnowsGroup g (between link x y) (moved n m).1
          → KnowsGroup g (between link x y) (moved n m).1
      go past (inl by) =
          let st : Station = (here.sends).station in
          absurd (too_late (time_at started y.router st) bound (by st (here.sends).there) (past y.router st (here.sends).there))
      go past (inr known) = known

  pub silent_past : (g src link : ℕ) (metric : AssertMetric) (x y : Member) (ms : List Move) (n : Network)
      → Always (IsOffTree g src metric (between link x y)) n ms → IsSilentAfter g src started (between link x y) bound n ms
      → HoldsPast started bound (IsSilent g src (between link x y)) n ms
  silent_past g src link metric x y [] n off f = tt
  silent_past g src link metric x y (m ∷ ms) n off f = (λ past. go past f.0, silent_past g src link metric x y ms (moved n m).1 off.1 f.1)
    where
      here : IsOffTree g src metric (between link x y) (moved n m).1
      here = first_of (IsOffTree g src metric (between link x y)) (moved n m).1 ms off.1

      go : ArePast started bound (moved n m).1
          → IsBy started y.router bound (moved n m).1 ⊎ IsSilent g src (between link x y) (moved n m).1
          → IsSilent g src (between link x y) (moved n m).1
      go past (inl by) =
          let st : Station = here.station in
          absurd (too_late (time_at started y.router st) bound (by st here.there) (past y.router st here.there))
      go past (inr silent) = silent

  pub one_sender_past : (a : Contest) (ms : List Move) (n : Network)
      → AllByRecursion (λ y. HoldsPast started bound (IsSilent a.group a.source (between a.link a.winner y)) n ms) a.losers
      → HoldsPast started bound (λ n. HasOneSender n a) n ms
  one_sender_past a ms n each =
      same_past started bound (λ n. AllByRecursion (λ y. Silent y n) a.losers) (λ n. HasOneSender n a)
      (λ n h. record { only = λ y is. one_of (λ y. Silent y n) a.losers y h is; once = λ e st at. never_twice st.state e }) ms n
      (each_past started bound Silent a.losers n ms each)
    where
      Silent : Member → Network → Type 0
      Silent y n = IsSilent a.group a.source (between a.link a.winner y) n

  held_past : (j : Joining) (ms : List Move) (n : Network)
      → AllHeldAfter j.join j.group started (j.pair ∷ []) bound n ms
      → HoldsPast started bound (IsHeld j.join j.group j.pair) n ms
  held_past j [] n f = tt
  held_past j (m ∷ ms) n f =
      (λ past. f.0 (λ c st a at. past c.upper st at) j.pair (inl refl), held_past j ms (moved n m).1 f.1)

  module _ (d : ℕ) (few : d < most_late_hello) (n : Network) (ms : List Move) where
    -- ---- a link

    module _ (l : Link) (f : LinkIsQuiet d bound started n ms l) where
      group_known : (g : ℕ) (y : Member) → IsOne (routers l) y
          → AnswersInTime l.settings l.hold d started g (between l.number l.first y) n ms
          → HoldsPast started bound (KnowsGroup g (between l.number l.first y)) n ms
      group_known g y a h =
          known_past g l.number l.first y ms n ((f.greets).stand y a)
          (member_comes_to_be_known l.settings l.hold d bound started g (between l.number l.first y) n ms
          (record {
            often = (f.asks).often;
            querier_ready = (f.asks).first_ready;
            ready = (f.greets).ready y a;
            asks = always_more (Asks l.settings (between l.number l.first l.first)) (Asks l.settings (between l.number l.first y))
                (asks_of l.settings l.number l.first y) ms n (f.asks).asks;
            leads = keeps_of l.number l.first y ms n (f.asks).keeps;
            in_time = h;
          })
          (leads_of l.settings d bound started l.number l.first y n (f.asks).leads))

      groups_known : HoldsPast started bound
          (λ n. AllByRecursion (λ g. AllByRecursion (λ y. KnowsGroup g (between l.number l.first y) n) (routers l)) l.groups) n ms
      groups_known =
          each_past started bound (λ g n. AllByRecursion (λ y. KnowsGroup g (between l.number l.first y) n) (routers l)) l.groups n ms
          (each_more _ _ each l.groups f.answers)
        where
          each : (g : ℕ)
              → AllByRecursion (λ y. AnswersInTime l.settings l.hold d started g (between l.number l.first y) n ms) (routers l)
              → HoldsPast started bound (λ n. AllByRecursion (λ y. KnowsGroup g (between l.number l.first y) n) (routers l)) n ms
          each g h =
              each_past started bound (λ y n. KnowsGroup g (between l.number l.first y) n) (routers l) n ms
              (each_both (λ y. AnswersInTime l.settings l.hold d started g (between l.number l.first y) n ms
              → HoldsPast started bound (KnowsGroup g (between l.number l.first y)) n ms)
              (λ y. AnswersInTime l.settings l.hold d started g (between l.number l.first y) n ms)
              (λ y. HoldsPast started bound (KnowsGroup g (between l.number l.first y)) n ms) (λ y a b. a b) (routers l)
              (each_one _ (routers l) (λ y a. group_known g y a)) h)

      link_settles : HoldsPast started bound (λ n. LinkHasSettled n l) n ms
      link_settles =
          both_past started bound (HasOneDr (routers l)) Rest (λ n. LinkHasSettled n l)
          (λ n a b. record { dr = a; querier = b.0; known = b.1 }) ms n
          (dr_past (routers l) ms n (exactly_one_dr d bound started l.number l.first l.others n ms few f.greets))
          (both_past started bound (HasOneQuerier l.first l.others) Known Rest (λ n a b. (a, b)) ms n
          (querier_past l.first l.others ms n
          (exactly_one_querier l.settings l.hold d bound started l.number l.first l.others n ms f.asks)) groups_known)
        where
          Known : Network → Type 0
          Known n = AllByRecursion (λ g. AllByRecursion (λ y. KnowsGroup g (between l.number l.first y) n) (routers l)) l.groups

          Rest : Network → Type 0
          Rest n = HasOneQuerier l.first l.others n × Known n

    -- ---- a Join

    join_settles : (j : Joining) → JoiningIsQuiet d bound started n ms j
        → HoldsPast started bound (IsHeld j.join j.group j.pair) n ms
    join_settles j f =
        held_past j ms n (all_come_to_be_held j.join j.group d bound started (j.pair ∷ []) n ms f.addresses (fewer d few) only)
      where
        only : (c : Pair) → IsPairOf (j.pair ∷ []) c → JoinsOver j.join j.group d bound started n ms c
        only c (inl same) = subst (JoinsOver j.join j.group d bound started n ms) same f.comes
        only c (inr none) = absurd none

    -- ---- the assert of a link

    contest_settles : (a : Contest) → ContestIsQuiet d bound started n ms a → HoldsPast started bound (λ n. HasOneSender n a) n ms
    contest_settles a f = one_sender_past a ms n (each_more _ _ one a.losers f.losers)
      where
        one : (y : Member) → LoserIsQuiet d bound started n ms a (between a.link a.winner y)
            → HoldsPast started bound (IsSilent a.group a.source (between a.link a.winner y)) n ms
        one y h =
            silent_past a.group a.source a.link a.metric a.winner y ms n h.off
            (at_most_one_comes_to_send a.group a.source a.metric d bound started (between a.link a.winner y) n ms f.few h.comes h.by h.off)

    -- ---- a Prune that is overridden

    wire_settles : (x : Wire) → WireIsQuiet n ms x → HoldsPast started bound (IsUnpruned x) n ms
    wire_settles x f =
        throughout_past started bound (IsUnpruned x) ms n (overridden_prune_has_no_effect x n ms f.addresses f.soon f.some f.begins f.in_order)

    -- ---- a way

    at_least : (b x : ℕ) → b + x ≤ bound → b ≤ bound
    at_least b x le = omega (arith, le)

    one_more : (k h : ℕ) → (suc (suc k) - 1) * h ≡ h + (suc k - 1) * h
    one_more k h =
        let two : suc (suc k) - 1 ≡ k + 1 = omega arith in let one : suc k - 1 ≡ k = omega arith in rw (two, one) (grind arith)

    next : (k b h : ℕ) → b + (suc (suc k) - 1) * h ≤ bound → b + h + (suc k - 1) * h ≤ bound
    next k b h le = subst (λ (z : ℕ). z ≤ bound) (sums ((suc (suc k) - 1) * h) ((suc k - 1) * h) (one_more k h)) le
      where
        sums : (u v : ℕ) → u ≡ h + v → b + u ≡ b + h + v
        sums u v e = omega (arith, e)

    module _ (lag : ℕ) (together : Always (AreTogether lag started) n ms) where
      pub hops_past : (x : Join) (g : ℕ) (cs : List Pair) (begin : ℕ) → begin + (length cs - 1) * a_hop d lag ≤ bound
          → AreHeldPast x g d lag begin started n ms cs → AllByRecursion (λ c. HoldsPast started bound (IsHeld x g c) n ms) cs
      hops_past x g [] begin by f = tt
      hops_past x g (c ∷ []) begin by f = (later_past started bound begin (at_least begin _ by) (IsHeld x g c) ms n f.0, tt)
      hops_past x g (c ∷ e ∷ cs) begin by f = (
        later_past started bound begin (at_least begin _ by) (IsHeld x g c) ms n f.0,
        hops_past x g (e ∷ cs) (begin + a_hop d lag) (next (length cs) begin (a_hop d lag) by) f.1,
      )

      way_settles : (w : Way) → WayIsQuiet d lag bound started n ms w
          → HoldsPast started bound (λ n. AllByRecursion (λ c. IsHeld w.join w.group c n) w.hops) n ms
      way_settles w f =
          each_past started bound (λ c n. IsHeld w.join w.group c n) w.hops n ms
          (hops_past w.join w.group w.hops f.begin f.by
          (way_comes_to_be_joined w.join w.group d lag f.begin started n ms w.first w.hops f.addresses (fewer d few) f.hops together f.wants f.due))

pub network_settles : NetworkSettles
network_settles d lag bound started layout n ms f =
    five_past started bound (λ n. AllByRecursion (LinkHasSettled n) layout.links)
    (λ n. AllByRecursion (λ j. IsHeld j.join j.group j.pair n) layout.joinings)
    (λ n. AllByRecursion (λ w. AllByRecursion (λ c. IsHeld w.join w.group c n) w.hops) layout.ways)
    (λ n. AllByRecursion (HasOneSender n) layout.contests) (λ n. AllByRecursion (λ x. IsUnpruned x n) layout.wires) (HasSettled layout)
    (λ n a b c e g. record { links = a; joinings = b; ways = c; contests = e; wires = g }) ms n
    (each_past started bound (λ l n. LinkHasSettled n l) layout.links n ms
    (each_more _ _ (link_settles started bound d f.few n ms) layout.links f.links))
    (each_past started bound (λ j n. IsHeld j.join j.group j.pair n) layout.joinings n ms
    (each_more _ _ (join_settles started bound d f.few n ms) layout.joinings f.joinings))
    (each_past started bound (λ w n. AllByRecursion (λ c. IsHeld w.join w.group c n) w.hops) layout.ways n ms
    (each_more _ _ (way_settles started bound d f.few n ms lag f.together) layout.ways f.ways))
    (each_past started bound (λ a n. HasOneSender n a) layout.contests n ms
    (each_more _ _ (contest_settles started bound d f.few n ms) layout.contests f.contests))
    (each_past started bound (λ x n. IsUnpruned x n) layout.wires n ms
    (each_more _ _ (wire_settles started bound d f.few n ms) layout.wires f.wires))
