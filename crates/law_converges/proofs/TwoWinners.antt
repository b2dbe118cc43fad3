-- The first one's next Assert leaves by its timer and comes within d, and by it the other one is the winner no longer.
use Rattle.std.{proofs.Common.{Bool, List, Some, [], ap, arith, false, inl, inr, length, subst, sym, true, ℕ, ◌*◌, ◌+◌, ◌<◌, ◌==◌, ◌||◌, ◌∙◌, ◌∷◌, ◌≡◌, ◌≤◌, ◌⊎◌}}
use Rattle.pim_types.{specs.declared.{event.Event.Event, fact.{AssertMetric.AssertMetric, AssertRow.AssertRow, Key.Key}}}
use Rattle.pim_model.{specs.{Network.{Deliver, Move, Network, Station, event_of, frame_at, moved, station_at}, Sets.is_winner, State.State, Step.step, Tables.row_at}}
use Rattle.law_streams.{proofs.{Deliveries.IsNewOn, Pairs.{Steps, one_router, same_station}}, specs.{Adjacent.Adjacent, InTimeJoins.{IsBy, time_at}}}
use Rattle.law_converges.{proofs.{Carried.{IsCarriedOn, carried_on, sent_comes}, LinkAsserts.{by_row, loses_then}, Prompt.assert_end, WinnerClock.{AssertLasts, each_event_assert}}, specs.{Carried.{Arrivals, EachMove, IsCarried, Traffic, arrived}, LinkAsserts.{CanGiveWay, HasLost, IsSayable, LosesTo, assert_packet, is_about, said}, LinkDr.{IsOne, Member, between}, LinkLosers.{loser_key, winner_key, winner_of}, TwoWinners.{BothWin, CanHear, HearsAssert, OneGoesBy, OneWinnerGoes}}}

-- who has lost isn't the winner
no_winner : (k : Key) (theirs : AssertMetric) (end : ℕ) (s : State) (row : AssertRow) → HasLost k theirs end s → row_at s.asserts k ≡ Some row
    → is_winner (Some row) ≡ true → ⊥
no_winner k theirs end s row lost found won = go lost
  where
    contradicts : (b : Bool) → b ≡ false → b ≡ true → ⊥
    contradicts b e f = cc (sym e ∙ f)

    go : HasLost k theirs end s → ⊥
    go (inl none) = contradicts (is_winner (row_at s.asserts k)) (ap is_winner none) (ap is_winner found ∙ won)
    go (inr is) = contradicts (is_winner (row_at s.asserts k)) (ap is_winner is) (ap is_winner found ∙ won)

module _ (g src : ℕ) (metric : AssertMetric) (d late bound : ℕ) (started : ℕ → ℕ) (t : Traffic) (link : ℕ) (members : List Member) (x y : Member)
    (first : ℕ) (among : IsOne members y) (apart : (x.router == y.router) ≡ false) (sayable : IsSayable x.address g src metric)
    (about : is_about (said g src metric) ≡ true) (timely : late ≤ d) where
  abbrev c : Adjacent
  c = between link x y

  abbrev Both : Network → Type 0
  Both n = BothWin g src metric c n

  abbrev Goes : Network → List Move → Type 0
  Goes n ms = OneGoesBy g src metric bound started c n ms

  abbrev AllHear : Network → List Move → Type 0
  AllHear n ms = EachMove (CanHear g src metric c) n ms

  -- ---- the Assert comes

  either : (a b : Bool) → a ≡ true → (a || b) ≡ true
  either a b e = grind arith

  lost_then : (n : Network) (m : Move) (number draw : ℕ) → m ≡ Deliver y.router y.iface number draw
      → frame_at n number ≡ Some (record { link = Some link; bytes = assert_packet x.address g src metric }) → Both n → HearsAssert g src metric c n
      → Both (moved n m).1 → ⊥
  lost_then n m number draw is framed both h after =
      no_winner (loser_key g src metric c) (winner_of g src metric c) (((h.station).state).present + 180000) lost.state after.row lost.lost
      (subst (λ (z : Station). row_at (z.state).asserts (loser_key g src metric c) ≡ Some after.row) (same_station after.there lost.there) after.found)
      after.wins
    where
      found : row_at ((h.station).state).asserts (loser_key g src metric c) ≡ Some both.row
      found = subst (λ (z : Station). row_at (z.state).asserts (loser_key g src metric c) ≡ Some both.row) (same_station both.there h.there) both.found

      can : CanGiveWay g src metric c h.station
      can = record { hears = h.hears; linked = h.linked; room = h.room; gives = by_row _ _ _ both.row found (either _ _ both.worse) }

      lost : LosesTo g src metric c h.station (moved n m).1
      lost =
          subst (λ (k : Move). LosesTo g src metric c h.station (moved n k).1) (sym is)
          (loses_then g src metric c sayable about number n framed draw h.station h.there can)

  sooner : (q a : ℕ) (n : Network) → a ≤ bound → IsBy started q a n → IsBy started q bound n
  sooner q a n low by st at = further (time_at started q st) (by st at)
    where
      further : (p : ℕ) → p ≤ a → p ≤ bound
      further p e = omega (arith, e, low)

  module _ (came : Arrivals) (n : Network) (m : Move) (ms : List Move) (on : IsCarriedOn d late started t came link members first n m ms)
      (hears : AllHear (moved n m).1 ms) (both : Both n) (low : ((both.first).row).end + started x.router + 2 * d ≤ bound)
      (after : Both (moved n m).1) (later : ((after.first).row).end + started x.router + 2 * d ≤ bound → Goes (moved n m).1 ms) where
    abbrev st : Station
    st = (both.first).station

    abbrev row : AssertRow
    row = (both.first).row

    abbrev its : Key
    its = winner_key g src metric c

    -- the timer is no later than that
    prompt : (q : ℕ) → IsBy started q (row.end + started x.router + late) (moved n m).1
    prompt q =
        assert_end (λ (end : ℕ). IsBy started q (end + started x.router + late) (moved n m).1) st.state (on.prompt x.router q st (both.first).there) its
        row (both.first).found

    by : IsBy started y.router bound (moved n m).1
    by = sooner y.router (row.end + started x.router + late) (moved n m).1 (so row.end (started x.router) low) (prompt y.router)
      where
        so : (a b : ℕ) → a + b + 2 * d ≤ bound → a + b + late ≤ bound
        so a b e = omega (arith, e, timely)

    told : (e : Event) (z : Station) (number : ℕ) → event_of n m ≡ Some (x.router, e) → station_at (moved n m).1 x.router ≡ Some z
        → length n.frames < number
        → frame_at (moved n m).1 number ≡ Some (record { link = Some link; bytes = assert_packet x.address g src metric }) → Goes (moved n m).1 ms
    told e z number ev at new got =
        sent_comes d late started t link members first came n m ms on y among number new x apart e z (assert_packet x.address g src metric) ev at got
        AllHear (λ sent n ms. Both n → sent + d ≤ bound → Goes n ms) (λ n m ms q. q.1) (λ n now in_time. tt)
        (λ n m ms draw q is framed since now in_time then. absurd (lost_then n m number draw is framed now (q.0 number draw is framed) then))
        (λ n m ms within rest now in_time then. (sooner y.router (t.sent number + d) (moved n m).1 in_time within, rest then in_time)) hears after
        (so row.end (started x.router) (time_at started x.router z) low (prompt x.router z at))
      where
        so : (a b p : ℕ) → a + b + 2 * d ≤ bound → p ≤ a + b + late → p + d ≤ bound
        so a b p e f = omega (arith, e, f, timely)

    fell : (a : ℕ) → a ≤ row.end → a + started x.router + 2 * d ≤ bound
    fell a e = so a row.end (started x.router) e low
      where
        so : (a b q : ℕ) → a ≤ b → b + q + 2 * d ≤ bound → a + q + 2 * d ≤ bound
        so a b q e f = omega (arith, e, f)

    same_row : (p q : AssertRow) → Some p ≡ Some q → q.end ≤ p.end
    same_row p q e = subst (λ (z : AssertRow). z.end ≤ p.end) (is e) (equal p.end)
      where
        is : Some p ≡ Some q → p ≡ q
        is e = cc e

        equal : (a : ℕ) → a ≤ a
        equal a = omega arith

    -- its row, where its station is known
    found_at : (z : Station) → station_at (moved n m).1 x.router ≡ Some z → row_at (z.state).asserts its ≡ Some (after.first).row
    found_at z at =
        subst (λ (v : Station). row_at (v.state).asserts its ≡ Some (after.first).row) (same_station (after.first).there at) (after.first).found

    by_event : Steps n m x.router st → Goes (moved n m).1 ms
    by_event w =
        go (each_event_assert x.iface g src metric st.state w.event row (both.first).found (both.first).wins (both.first).sent)
      where
        z : Station
        z = record st { state = (step st.state w.event).state }

        contradicts : (b : Bool) → b ≡ false → b ≡ true → ⊥
        contradicts b e f = cc (sym e ∙ f)

        leaves : IsNewOn n (moved n m).1 link (assert_packet x.address g src metric) → Goes (moved n m).1 ms
        leaves new = told w.event (record st { state = (step st.state w.event).state }) (new.on).number w.is (w.stepped).here new.later (new.on).is

        go : AssertLasts x.iface g src metric st.state w.event row (both.first).found (both.first).wins (both.first).sent (step st.state w.event)
            → Goes (moved n m).1 ms
        go (inl (inl ends)) = later (fell ((after.first).row).end (ends (after.first).row (found_at (record st { state = (step st.state w.event).state }) (w.stepped).here)))
        go (inl (inr (sends, ends))) =
            leaves (subst (λ (a : ℕ). IsNewOn n (moved n m).1 link (assert_packet a g src metric)) (both.first).own
            ((w.stepped).sent x.iface link _ (both.first).linked sends.is_sent))
        go (inr off) =
            absurd (contradicts (is_winner (row_at ((step st.state w.event).state).asserts its)) off
            (ap is_winner (found_at (record st { state = (step st.state w.event).state }) (w.stepped).here) ∙ (after.first).wins))

    goes_on : Goes (moved n m).1 ms
    goes_on = go (one_router n m x.router st (both.first).there)
      where
        go : (station_at (moved n m).1 x.router ≡ Some st) ⊎ Steps n m x.router st → Goes (moved n m).1 ms
        go (inl same) = later (fell ((after.first).row).end (same_row row (after.first).row (sym (both.first).found ∙ found_at st same)))
        go (inr w) = by_event w

  goes : (ms : List Move) (n : Network) (came : Arrivals) → IsCarried d late started t came link members first n ms → AllHear n ms → (both : Both n)
      → ((both.first).row).end + started x.router + 2 * d ≤ bound → Goes n ms
  goes [] n came f hears both low = tt
  goes (m ∷ ms) n came f hears both low = λ after.
      let on : IsCarriedOn d late started t came link members first n m ms = carried_on d late started t link members first came n m ms f in (
        by came n m ms on hears.1 both low after (λ lower. goes ms (moved n m).1 (arrived came m) on.rest hears.1 after lower),
        goes_on came n m ms on hears.1 both low after (λ lower. goes ms (moved n m).1 (arrived came m) on.rest hears.1 after lower),
      )

pub one_winner_goes : OneWinnerGoes
one_winner_goes g src metric d late bound started t came link members x y first n ms f =
    goes g src metric d late bound started t link members x y first f.among f.apart f.sayable f.about (f.carried).timely ms n came f.carried f.hears
    f.both (subst (λ (r : AssertRow). r.end + started x.router + 2 * d ≤ bound) same (f.by).by)
  where
    its : Key
    its = winner_key g src metric (between link x y)

    same_row : (p q : AssertRow) → Some p ≡ Some q → p ≡ q
    same_row p q e = cc e

    same : (f.by).row ≡ ((f.both).first).row
    same =
        same_row (f.by).row ((f.both).first).row (sym (f.by).found
        ∙ subst (λ (z : Station). row_at (z.state).asserts (winner_key g src metric (between link x y)) ≡ Some ((f.both).first).row)
        (same_station ((f.both).first).there (f.by).there) ((f.both).first).found)
