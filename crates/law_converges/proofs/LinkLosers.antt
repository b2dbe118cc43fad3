-- The loser of an assert stays one: by Refresh, the winner's clock and the loser's row.
use Rattle.std.{proofs.Common.{◌≡◌, ◌∙◌, ℕ, ◌+◌, ◌*◌, ◌<◌, ◌≤◌, Bool, true, false, List, [], ◌∷◌, ◌⊎◌, inl, inr, Some, refl, sym, ap, subst, arith}}
use Rattle.pim_ip.{specs.Addr.addr}
use Rattle.pim_types.{specs.declared.{config.IfaceId.IfaceId, event.{Event.Event, EventKind.EventKind}, fact.{AssertMetric.AssertMetric, AssertRow.AssertRow, Key.Key}}}
use Rattle.pim_model.{specs.{declared.accepted.Accepted.Accepted, Asserts.assert_received, Cause.done_as, Network.{Move, Network, Station, frame_at, moved, station_at}, Sets.is_winner, State.{State}, Step.{Answered, change, done, step}, Tables.row_at}}
use Rattle.law_settled.{specs.Ready.IsSettled}
use Rattle.law_streams.{specs.{Adjacent.Adjacent, Copies.happens, InTimeJoins.{Always, IsBy, IsReady, time_at}}, proofs.{Deliveries.{IsNewOn, IsStepped, is_delivered}, Leaves.taken_is_done, Made.step_taken, Pairs.{Steps, frame_stays, one_router, ready_then, same_station}, Passes.done_if, Refresh.{Ever, EverAfter, Held, Keeps, Sent as SentBy, Soon, Turned, Turns, all_moves, comes_to_hold}}}
use Rattle.law_converges.{specs.{LinkAsserts.{IsSayable, assert_packet, is_about, lost_to, said}, LinkLosers.{AssertComes, AssertComesBy, AssertInTime, AssertsBy, AssertsComeInTime, AssertsInTime, HasLostAfter, HasLostTo, LoserComesToStay, LoserStaysLoser, LosesBeyond, LosesUntil, Wins, loser_key, most_late_assert, survives, winner_key, winner_of}}, proofs.{LinkJoins.first_of, KeptLosses.{changed_rises, event_keeps_loss, stays_settled}, LinkAsserts.{assert_is_read, row_loses}, WinnerClock.{AssertLasts, EndsBy, each_event_assert}}}

module _ (g src : ℕ) (metric : AssertMetric) (d : ℕ) (started : ℕ → ℕ) (c : Adjacent) (few : d < most_late_assert) where
  abbrev its : Key
  its = winner_key g src metric c

  abbrev key : Key
  key = loser_key g src metric c

  abbrev winner : AssertMetric
  winner = winner_of g src metric c

  -- the other one has lost until a time at least
  pub record HoldsTo (l : ℕ) (n : Network) : Type 0 where
    pub station : Station
    pub there : station_at n c.upper ≡ Some station
    pub end : ℕ
    pub loses : LosesUntil station.state key winner end
    pub lasts : l ≤ end + started c.upper

  abbrev next : Network → Move → Network
  next n m = (moved n m).1

  abbrev By : ℕ → Network → Type 0
  By y n = IsBy started c.upper y n

  abbrev Timer : ℕ → Network → Type 0
  Timer x n = (st : Station) (q : AssertRow) → station_at n c.lower ≡ Some st → row_at (st.state).asserts its ≡ Some q → q.end + started c.lower ≤ x

  abbrev Outlasts : ℕ → Network → Move → Type 0
  Outlasts l n m = Unit {0}

  -- ---- a delivery

  module _ (sayable : IsSayable c.address g src metric) (about : is_about (said g src metric) ≡ true) (number sent : ℕ) where
    abbrev framed_at : Network → Type 0
    framed_at n = frame_at n number ≡ Some (record { link = Some c.link; bytes = assert_packet c.address g src metric })

    module _ (n : Network) (m : Move) (framed : framed_at n) (ready : IsReady c.upper n)
        (f : AssertComes g src metric started c number sent n m) where
      abbrev hearer : State
      hearer = (f.station).state

      abbrev at : IfaceId
      at = record { number = c.down }

      abbrev e : Event
      e = record { draw = f.draw; kind = EventKind.Frame at (assert_packet c.address g src metric) }

      abbrev heard : Accepted
      heard = Accepted.Assert at (addr c.address) (said g src metric)

      steps : IsStepped n c.upper f.station e (moved n m).1
      steps =
          subst (λ (k : Move). IsStepped n c.upper f.station e (moved n k).1) (sym f.is)
          (is_delivered n c.upper f.station c.down number f.draw c.link (assert_packet c.address g src metric) f.there (f.can).linked framed)

      is_done : done_as (happens hearer e) ≡ Some heard
      is_done =
          done_if hearer e heard (assert_is_read c.address g src metric sayable hearer c.down (f.can).hears) (f.can).room

      rests : IsSettled hearer
      rests = subst (λ (z : Station). IsSettled z.state) (same_station ready.there f.there) (ready.at_rest).settled

      row_then : row_at (step hearer e).state.asserts key ≡ Some (lost_to winner (hearer.present + 180000))
      unfolding done change survives
      row_then =
          ap (λ (x : Answered). row_at x.state.asserts key) (step_taken hearer e heard is_done ∙ taken_is_done hearer f.draw heard refl)
          ∙ stays_settled key winner (hearer.present + 180000) hearer (assert_received hearer c.down c.address (said g src metric)) f.draw
          (record {
            there = row_loses hearer c.down c.address (said g src metric) about (f.can).gives;
            rises = changed_rises hearer e heard rests is_done refl;
          }) f.stays

      same_end : (a : ℕ) → a ≤ a
      same_end a = omega arith

      more : (a b q : ℕ) → a ≤ b + q → a + 180000 ≤ b + 180000 + q
      more a b q h = omega (arith, h)

      pub held_then : HoldsTo (sent + 180000) (next n m)
      held_then = record {
        station = record f.station { state = (step hearer e).state };
        there = (steps).here;
        end = hearer.present + 180000;
        loses = record { until = hearer.present + 180000; found = row_then; lasts = same_end (hearer.present + 180000) };
        lasts = more sent hearer.present (started c.upper) f.after;
      }

    comes_so : (ms : List Move) (n : Network) → framed_at n → IsReady c.upper n → AssertComesBy g src metric d started c number sent n ms
        → Soon next 180000 d By Timer HoldsTo Outlasts sent n ms
    comes_so [] n framed ready f = tt
    comes_so (m ∷ ms) n framed ready f = go f (comes_so ms (next n m) (frame_stays n m number _ framed) (ready_then c.upper n m ready))
      where
        go : (AssertComes g src metric started c number sent n m
            ⊎ (IsBy started c.upper (sent + d) (next n m) × AssertComesBy g src metric d started c number sent (next n m) ms))
            → (AssertComesBy g src metric d started c number sent (next n m) ms → Soon next 180000 d By Timer HoldsTo Outlasts sent (next n m) ms)
            → Soon next 180000 d By Timer HoldsTo Outlasts sent n (m ∷ ms)
        go (inl f) later = inl (held_then n m framed ready f, λ l lt. tt)
        go (inr (by, soon)) later = inr (by, later soon)

  -- ---- the winner

  module _ (sayable : IsSayable c.address g src metric) (about : is_about (said g src metric) ≡ true) (n : Network) (m : Move) (ms : List Move)
      (ready : IsReady c.upper n) (here : Wins g src metric c n) (then : Wins g src metric c (moved n m).1)
      (in_time : AssertInTime g src metric d started c n m ms) (x : ℕ) (timer_by : Timer x n) where
    abbrev st : Station
    st = here.station

    abbrev s : State
    s = (here.station).state

    abbrev row : AssertRow
    row = here.row

    abbrev after : Network
    after = (moved n m).1

    low : row.end + started c.lower ≤ x
    low = timer_by st row here.there here.found

    late : IsBy started c.lower (row.end + started c.lower + d) (moved n m).1
        × IsBy started c.upper (row.end + started c.lower + d) (moved n m).1
    late = in_time.timer st row here.there here.found

    further : (t a : ℕ) → t ≤ a + d → a ≤ x → t ≤ x + d
    further t a e f = omega (arith, e, f)

    by_x : By (x + d) after
    by_x = λ y at. further (time_at started c.upper y) (row.end + started c.lower) (late.1 y at) low

    abbrev Out : Type 0
    Out = SentBy next 180000 d By Timer HoldsTo Outlasts x after ms

    timer_at : (t : Station) (b z : ℕ) → station_at after c.lower ≡ Some t → EndsBy its b t.state → b + started c.lower ≤ z → Timer z after
    timer_at t b z at by le = λ y q is found.
        let same : y ≡ t = same_station is at in
        trans q.end b (started c.lower) (by q (subst (λ (v : Station). row_at (v.state).asserts its ≡ Some q) same found)) le
      where
        trans : (r b q : ℕ) → r ≤ b → b + q ≤ z → r + q ≤ z
        trans r b q e f = omega (arith, e, f)

    unchanged : EndsBy its row.end s
    unchanged = λ q is. same_row q (sym here.found ∙ is)
      where
        same_row : (q : AssertRow) → Some row ≡ Some q → q.end ≤ row.end
        same_row q e = let is : row ≡ q = cc e in subst (λ (r : AssertRow). r.end ≤ row.end) is (same row.end)
          where
            same : (a : ℕ) → a ≤ a
            same a = omega arith

    module _ (w : Steps n m c.lower st) where
      abbrev t : Station
      t = record st { state = (step s w.event).state }

      told : (new : IsNewOn n after c.link (assert_packet c.address g src metric))
          → Soon next 180000 d By Timer HoldsTo Outlasts (time_at started c.lower t) after ms
      told new =
          comes_so sayable about (new.on).number (time_at started c.lower t) ms after (new.on).is (ready_then c.upper n m ready)
          (in_time.asserts w.event t (new.on).number w.is (w.stepped).here new.later (new.on).is)

      by_own : IsNewOn n after c.link (assert_packet c.address g src metric)
          → EndsBy its (((step s w.event).state).present + 177000) (step s w.event).state → Out
      by_own new by =
          let sent : ℕ = time_at started c.lower t in
          record {
            at = sent;
            rest = 177000;
            low = further sent (row.end + started c.lower) (late.0 t (w.stepped).here) low;
            few = short few;
            comes = inr (told new);
            timer = timer_at t ((t.state).present + 177000) (sent + 177000) (w.stepped).here by (swap (t.state).present (started c.lower));
          }
        where
          short : d < most_late_assert → 177000 + 2 * d < 180000
          short e = omega (arith, e)

          swap : (p q : ℕ) → p + 177000 + q ≤ p + q + 177000
          swap p q = omega arith

      -- it is the winner still
      lost_none : is_winner (row_at (step s w.event).state.asserts its) ≡ false → ⊥
      lost_none off = contradicts (is_winner (row_at (step s w.event).state.asserts its)) off
          (subst (λ (v : Station). is_winner (row_at (v.state).asserts its) ≡ true) (same_station then.there (w.stepped).here)
          (ap is_winner then.found ∙ then.wins))
        where
          contradicts : (b : Bool) → b ≡ false → b ≡ true → ⊥
          contradicts b e f = cc (sym e ∙ f)

      by_event : Timer x after ⊎ Out
      by_event = go (each_event_assert c.iface g src metric s w.event row here.found here.wins here.sent)
        where
          go : AssertLasts c.iface g src metric s w.event row here.found here.wins here.sent (step s w.event) → Timer x after ⊎ Out
          go (inl (inl by)) = inl (timer_at t row.end x (w.stepped).here by low)
          go (inl (inr (sends, by))) =
              inr (by_own (subst (λ (a : ℕ). IsNewOn n after c.link (assert_packet a g src metric)) here.own
              ((w.stepped).sent c.iface c.link _ here.linked sends.is_sent)) by)
          go (inr off) = absurd (lost_none off)

    turned : Turned next 180000 d By Timer HoldsTo Outlasts x after ms
    turned = record { by = by_x; turn = go (one_router n m c.lower st here.there) }
      where
        go : (station_at after c.lower ≡ Some st) ⊎ Steps n m c.lower st → Timer x after ⊎ Out
        go (inl same) = inl (timer_at st row.end x same unchanged low)
        go (inr w) = by_event w

  turns : IsSayable c.address g src metric → is_about (said g src metric) ≡ true → (ms : List Move) (n : Network) → IsReady c.upper n
      → Always (Wins g src metric c) n ms → AssertsInTime g src metric d started c n ms → Turns next 180000 d By Timer HoldsTo Outlasts n ms
  turns sayable about [] n ready wins in_time = tt
  turns sayable about (m ∷ ms) n ready wins in_time = (
    λ x by. turned sayable about n m ms ready wins.0 (first_of (Wins g src metric c) (moved n m).1 ms wins.1) in_time.0 x by,
    turns sayable about ms (moved n m).1 (ready_then c.upper n m ready) wins.1 in_time.1,
  )

  -- ---- the loser

  module _ (n : Network) (m : Move) (ms : List Move) (ready : IsReady c.upper n) (in_time : AssertInTime g src metric d started c n m ms)
      (l y : ℕ) (lt : y < l) (by : By y (moved n m).1) (held : HoldsTo l n) where
    abbrev v : State
    v = (held.station).state

    rests_above : IsSettled v
    rests_above = subst (λ (z : Station). IsSettled z.state) (same_station ready.there held.there) (ready.at_rest).settled

    early : (z : Station) → station_at (moved n m).1 c.upper ≡ Some z → (z.state).present < held.end
    early z at = less (z.state).present held.end (started c.upper) (by z at) held.lasts
      where
        less : (a b q : ℕ) → a + q ≤ y → l ≤ b + q → a < b
        less a b q e f = omega (arith, e, f, lt)

    pub stays_held : HoldsTo l (moved n m).1
    stays_held = go (one_router n m c.upper held.station held.there)
      where
        go : (station_at (moved n m).1 c.upper ≡ Some held.station) ⊎ Steps n m c.upper held.station → HoldsTo l (moved n m).1
        go (inl same) = record { station = held.station; there = same; end = held.end; loses = held.loses; lasts = held.lasts }
        go (inr w) =
            let z : Station = record (held.station) { state = (step v w.event).state } in
            let at : station_at (moved n m).1 c.upper ≡ Some z = (w.stepped).here in
            record {
              station = z;
              there = at;
              end = held.end;
              loses = event_keeps_loss v w.event key winner held.end rests_above held.loses (early z at)
                  (in_time.keeps w.event held.station held.end w.is held.there held.loses);
              lasts = held.lasts;
            }

  keeps : (ms : List Move) (n : Network) → IsReady c.upper n → AssertsInTime g src metric d started c n ms
      → Keeps next 180000 d By Timer HoldsTo Outlasts n ms
  keeps [] n ready in_time = tt
  keeps (m ∷ ms) n ready in_time = (
    λ l y lt by. (tt, stays_held n m ms ready in_time.0 l y lt by),
    keeps ms (moved n m).1 (ready_then c.upper n m ready) in_time.1,
  )

  -- ---- the laws

  has_lost : (n : Network) → Held next 180000 d By Timer HoldsTo Outlasts n → HasLostTo g src metric c n
  has_lost n f = record {
    station = (f.holds).station;
    there = (f.holds).there;
    until = ((f.holds).loses).until;
    found = ((f.holds).loses).found;
  }

  all_lost : (ms : List Move) (n : Network) → Ever next 180000 d By Timer HoldsTo Outlasts n ms → Always (HasLostTo g src metric c) n ms
  all_lost [] n f = has_lost n f
  all_lost (m ∷ ms) n f = (has_lost n (f.0).held, all_lost ms (moved n m).1 f.1)

  after_so : (bound : ℕ) (ms : List Move) (n : Network) → EverAfter next 180000 d By Timer HoldsTo Outlasts bound n ms
      → HasLostAfter g src metric started c bound n ms
  after_so bound [] n f = tt
  after_so bound (m ∷ ms) n f = (go f.0, after_so bound ms (next n m) f.1)
    where
      go : (By bound (next n m) ⊎ Held next 180000 d By Timer HoldsTo Outlasts (next n m))
          → IsBy started c.upper bound (next n m) ⊎ HasLostTo g src metric c (next n m)
      go (inl by) = inl by
      go (inr h) = inr (has_lost (next n m) h)

  first_timer : (n : Network) (bound : ℕ) (f : AssertsBy g src metric d bound started c n) → Timer ((f.row).end + started c.lower) n
  first_timer n bound f = λ y q is found.
      let row : row_at (y.state).asserts its ≡ Some f.row =
      subst (λ (v : Station). row_at (v.state).asserts its ≡ Some f.row) (same_station f.there is) f.found in
      same_row q (sym row ∙ found)
    where
      same : (a : ℕ) → a ≤ a
      same a = omega arith

      same_row : (q : AssertRow) → Some f.row ≡ Some q → q.end + started c.lower ≤ (f.row).end + started c.lower
      same_row q e =
          let is : f.row ≡ q = cc e in
          subst (λ (r : AssertRow). r.end + started c.lower ≤ (f.row).end + started c.lower) is (same ((f.row).end + started c.lower))

  up_to : (bound : ℕ) (n : Network) (a : ℕ) → a ≤ bound → By a n → By bound n
  up_to bound n a le by = λ y at. trans (time_at started c.upper y) (by y at)
    where
      trans : (z : ℕ) → z ≤ a → z ≤ bound
      trans z early = omega (arith, early, le)

  stays_loser : (bound : ℕ) (n : Network) (ms : List Move) → AssertsComeInTime g src metric d started c n ms
      → AssertsBy g src metric d bound started c n → LosesBeyond g src metric bound started c n → Always (HasLostTo g src metric c) n ms
  stays_loser bound n ms f wins loses =
      all_lost ms n
      (all_moves next 180000 d By Timer HoldsTo Outlasts ms n (bound + 1)
      (record { station = loses.station; there = loses.there; end = loses.end; loses = loses.loses; lasts = above (loses.end + started c.upper) loses.lasts })
      []
      (record { end = (wins.row).end + started c.lower; timer = first_timer n bound wins; soon = under ((wins.row).end + started c.lower) wins.by })
      (turns f.sayable f.about ms n f.ready f.wins f.in_time) (keeps ms n f.ready f.in_time))
    where
      above : (b : ℕ) → bound < b → bound + 1 ≤ b
      above b e = omega (arith, e)

      under : (x : ℕ) → x + 2 * d ≤ bound → x + 2 * d < bound + 1
      under x e = omega (arith, e)

  comes_to_stay : (bound : ℕ) (n : Network) (ms : List Move) → AssertsComeInTime g src metric d started c n ms
      → AssertsBy g src metric d bound started c n → HasLostAfter g src metric started c bound n ms
  comes_to_stay bound n ms f wins =
      after_so bound ms n
      (comes_to_hold next 180000 d By Timer HoldsTo Outlasts bound (up_to bound) ms n ((wins.row).end + started c.lower) wins.by
      (first_timer n bound wins) (turns f.sayable f.about ms n f.ready f.wins f.in_time) (keeps ms n f.ready f.in_time))

pub loser_stays_loser : LoserStaysLoser
loser_stays_loser g src metric d bound started c n ms few f wins loses = stays_loser g src metric d started c few bound n ms f wins loses

pub loser_comes_to_stay : LoserComesToStay
loser_comes_to_stay g src metric d bound started c n ms few f wins = comes_to_stay g src metric d started c few bound n ms f wins
