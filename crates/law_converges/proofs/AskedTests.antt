-- Whether Joins are sent, and lead up, and what was asked before is over: tests, and that where they pass it is so.
use Rattle.std.{proofs.{Common.{Bool, List, None, Option, Some, [], arith, eqb-true, false, inl, inr, nat_le, nat_lt, not, refl, subst, sym, true, ℕ, ◌&&◌, ◌*◌, ◌+◌, ◌<◌, ◌==◌, ◌||◌, ◌∷◌, ◌≡◌, ◌⊎◌}, lemmas.Bool.{Decides.nat_tests, false≢true}}, specs.{Cmp.{first_so, second_so}, Option.option_map_or}}
use Rattle.pim_types.{specs.{Keys.key_of, declared.{event.Event.Event}}}
use Rattle.pim_wire.{specs.Values.JoinPrune}
use Rattle.pim_model.{specs.{declared.accepted.Accepted.Accepted, Cause.{Past, asks_for, done_as, happened, has_cause, is_join_for, is_report_for, past_after}, Downstream.{holdtime_forever, is_named, joined_keys}, Network.{At, Deliver, DeliverUnicast, Move, Network, Station, event_of, moved, station_at}, Querier.group_membership_interval, State.{State}, Step.{step}}}
use Rattle.law_streams.{specs.{Copies.happens, InTimeJoins.time_at}}
use Rattle.law_converges.{proofs.{CarriedTests.{sent_by_so, sent_by_test}, LeftLinks.asked_or_before, Tested.{each_found, le_so, lt_so}}, specs.{AskedByMembers.{ComesSoon, IsJoinedAs, JoinsAreSent, JoinsLeadUp, Sources}, Carried.Traffic, LeftLinks.lasts_within}}

module _ (life d tick first : ℕ) (started : ℕ → ℕ) (t : Traffic) where
  -- for no longer than a time
  abbrev lasts_test : State → Option Accepted → Bool
  lasts_test s (Some (Accepted.JoinPruneToMe j m)) = not (m.holdtime == holdtime_forever) && nat_le (1000 * m.holdtime) life
  lasts_test s (Some (Accepted.Report j records)) = nat_le (group_membership_interval s j.number) life
  lasts_test s o = true

  lasts_so : (s : State) (i : ℕ) (o : Option Accepted) → lasts_test s o ≡ true → lasts_within life i s o ≡ true
  lasts_so s i (Some (Accepted.JoinPruneToMe j m)) e = grind (arith, e)
  lasts_so s i (Some (Accepted.Report j records)) e = go (j.number == i) refl
    where
      go : (b : Bool) → (j.number == i) ≡ b → (not b || nat_le (group_membership_interval s i) life) ≡ true
      go false off = refl
      go true same = subst (λ (k : ℕ). nat_le (group_membership_interval s k) life ≡ true) (eqb-true j.number i same) e
  lasts_so s i o e = grind (arith, e)

  -- the frame that a move brings
  abbrev comes_test : (r i : ℕ) → Station → Move → Bool
  comes_test r i st (Deliver q j k draw) = ((q == r) && (j == i)) && (nat_lt first k && nat_le (time_at started r st) (t.sent k + d))
  comes_test r i st m = false

  comes_so : (r i : ℕ) (st : Station) (m : Move) → comes_test r i st m ≡ true → ComesSoon d first started t r i st m
  comes_so r i st (Deliver q j k draw) e = record {
    number = k;
    draw = draw;
    comes = λ x. Deliver (its_router x) (its_iface x) k draw;
    new = lt_so first k (first_so (nat_lt first k) _ (second_so ((q == r) && (j == i)) _ e));
    soon = le_so (time_at started r st) (t.sent k + d) (second_so (nat_lt first k) _ (second_so ((q == r) && (j == i)) _ e));
  }
    where
      its_router : q ≡ r
      its_router = eqb-true q r (first_so (q == r) _ (first_so ((q == r) && (j == i)) _ e))

      its_iface : j ≡ i
      its_iface = eqb-true j i (second_so (q == r) _ (first_so ((q == r) && (j == i)) _ e))
  comes_so r i st (At q e2) e = absurd (false≢true e)
  comes_so r i st (DeliverUnicast q k draw) e = absurd (false≢true e)

  abbrev joins_test : (r : ℕ) → Station → Move → Option Accepted → Bool
  joins_test r st m (Some (Accepted.JoinPruneToMe j joins)) = comes_test r j.number st m
  joins_test r st m o = true

  abbrev here_test : Move → (r : ℕ) → Event → Station → Bool
  here_test m r e st =
      (lasts_test st.state (done_as (happens st.state e)) && nat_le ((step st.state e).state).present ((st.state).present + tick))
      && joins_test r st m (done_as (happens st.state e))

  abbrev pub sent_test : Network → Move → Network → Bool
  sent_test n m next =
      sent_by_test d d started t n m next
      && option_map_or (λ (x : ℕ × Event). option_map_or (λ (st : Station). here_test m x.0 x.1 st) (station_at n x.0) true) (event_of n m) true

  pub sent_so : (n : Network) (m : Move) → sent_test n m (moved n m).1 ≡ true → JoinsAreSent life d tick first started t n m
  sent_so n m f = record {
    lasts = λ r i e st is at. lasts_so st.state i (done_as (happens st.state e)) (first_so _ _ (first_so _ _ (here r e st is at)));
    sent = sent_by_so d d started t n m (first_so (sent_by_test d d started t n m (moved n m).1) _ f);
    ticks = λ r e st is at. le_so ((step st.state e).state).present ((st.state).present + tick)
        (second_so (lasts_test st.state (done_as (happens st.state e))) _ (first_so _ _ (here r e st is at)));
    joins = λ r e st i joins is at was. comes_so r i.number st m
        (subst (λ (o : Option Accepted). joins_test r st m o ≡ true) was
        (second_so (lasts_test st.state (done_as (happens st.state e)) && nat_le ((step st.state e).state).present ((st.state).present + tick)) _
        (here r e st is at)));
  }
    where
      here : (r : ℕ) (e : Event) (st : Station) → event_of n m ≡ Some (r, e) → station_at n r ≡ Some st → here_test m r e st ≡ true
      here r e st is at =
          each_found (λ (st : Station). here_test m r e st) (station_at n r) st
          (each_found (λ (x : ℕ × Event). option_map_or (λ (st : Station). here_test m x.0 x.1 st) (station_at n x.0) true) (event_of n m) (r, e)
          (second_so (sent_by_test d d started t n m (moved n m).1) _ f) is) at

-- ---- Joins lead up

module _ (g src : ℕ) (distance : Sources → ℕ → ℕ) (t : Traffic) where
  abbrev up_if : (r k i : ℕ) → State → JoinPrune → Sources → Bool
  up_if r k i s joins x = not (is_named (joined_keys s i joins) (key_of i g x false)) || nat_lt (distance x r) (distance x (t.by k))

  abbrev up_test : Move → (r : ℕ) → State → Option Accepted → Bool
  up_test (Deliver q i k draw) r s (Some (Accepted.JoinPruneToMe j joins)) =
      up_if r k j.number s joins None && up_if r k j.number s joins (Some src)
  up_test m r s o = true

  abbrev pub leads_test : Network → Move → Network → Bool
  leads_test n m next =
      option_map_or (λ (x : ℕ × Event). option_map_or (λ (st : Station). up_test m x.0 st.state (done_as (happens st.state x.1))) (station_at n x.0) true)
      (event_of n m) true

  one_up : (r k i : ℕ) (s : State) (joins : JoinPrune) (x : Sources) → up_if r k i s joins x ≡ true
      → is_named (joined_keys s i joins) (key_of i g x false) ≡ true → distance x r < distance x (t.by k)
  one_up r k i s joins x e named = lt_so (distance x r) (distance x (t.by k)) (go _ _ e named)
    where
      go : (a b : Bool) → (not a || b) ≡ true → a ≡ true → b ≡ true
      go a b e f = grind (arith, e, f)

  pub leads_so : (n : Network) (m : Move) → leads_test n m (moved n m).1 ≡ true → JoinsLeadUp g src distance t n m
  leads_so n m f r number draw e st i joins x delivered is at was ours named =
      by x ours (subst (λ (o : Option Accepted). up_test (Deliver r i.number number draw) r st.state o ≡ true) was
      (subst (λ (y : Move). up_test y r st.state (done_as (happens st.state e)) ≡ true) delivered
      (each_found (λ (st : Station). up_test m r st.state (done_as (happens st.state e))) (station_at n r) st
      (each_found (λ (x : ℕ × Event). option_map_or (λ (st : Station). up_test m x.0 st.state (done_as (happens st.state x.1))) (station_at n x.0) true)
      (event_of n m) (r, e) f is) at))) named
    where
      by : (x : Sources) → IsJoinedAs (Some src) x
          → (up_if r number i.number st.state joins None && up_if r number i.number st.state joins (Some src)) ≡ true
          → is_named (joined_keys st.state i.number joins) (key_of i.number g x false) ≡ true → distance x r < distance x (t.by number)
      by None ours e named = one_up r number i.number st.state joins None (first_so _ _ e) named
      by (Some a) (inl none) e named = absurd (off none)
        where
          off : (let y : Option ℕ = Some a in y) ≡ None → ⊥
          off e = cc e
      by (Some a) (inr same) e named =
          subst (λ (y : Sources). distance y r < distance y (t.by number)) (sym same)
          (one_up r number i.number st.state joins (Some src) (second_so (up_if r number i.number st.state joins None) _ e)
          (subst (λ (y : Sources). is_named (joined_keys st.state i.number joins) (key_of i.number g y false) ≡ true) same named))

-- ---- what was asked before is over

module _ (g limit : ℕ) (started : ℕ → ℕ) (r : ℕ) where
  abbrev over_test : State → Option Accepted → Bool
  over_test s (Some (Accepted.JoinPruneToMe j m)) =
      not (m.holdtime == holdtime_forever) && nat_le (s.present + 1000 * m.holdtime + started r) limit
  over_test s (Some (Accepted.Report j records)) = nat_le (s.present + group_membership_interval s j.number + started r) limit
  over_test s o = true

  abbrev pub all_over : State → List Event → Bool
  all_over s [] = true
  all_over s (e ∷ es) = over_test s (done_as (happens s e)) && all_over (step s e).state es

  abbrev pub IsOver : Past → Type 0
  IsOver past = (i src now : ℕ) → has_cause past now i g src ≡ true → now + started r < limit

  over_so : (s : State) (i src now : ℕ) (o : Option Accepted) → over_test s o ≡ true → asks_for now i g src s o ≡ true → now + started r < limit
  unfolding asks_for is_join_for is_report_for
  over_so s i src now (Some (Accepted.JoinPruneToMe j m)) e f = grind (arith, nat_tests, e, f)
  over_so s i src now (Some (Accepted.Report j records)) e f =
      let same : j.number ≡ i = eqb-true j.number i (first_so (j.number == i) _ f) in
      go (subst (λ (k : ℕ). nat_le (s.present + group_membership_interval s k + started r) limit ≡ true) same e)
      (second_so _ (nat_lt now (s.present + group_membership_interval s i)) (second_so (j.number == i) _ f))
    where
      go : nat_le (s.present + group_membership_interval s i + started r) limit ≡ true → nat_lt now (s.present + group_membership_interval s i) ≡ true
          → now + started r < limit
      go e f = grind (arith, nat_tests, e, f)
  over_so s i src now o e f = cc f

  pub over_after : (es : List Event) (past : Past) (s : State) → all_over s es ≡ true → IsOver past → IsOver (past_after past s es)
  unfolding past_after
  over_after [] past s e f = f
  over_after (x ∷ es) past s e f =
      over_after es (happened s x ∷ past) (step s x).state (second_so (over_test s (done_as (happens s x))) _ e)
      (λ i src now cause. by i src now (asked_or_before past (happens s x) i g src now cause))
    where
      by : (i src now : ℕ) → (asks_for now i g src s (done_as (happens s x)) ≡ true) ⊎ (has_cause past now i g src ≡ true) → now + started r < limit
      by i src now (inl asks) = over_so s i src now (done_as (happens s x)) (first_so _ _ e) asks
      by i src now (inr cause) = f i src now cause
