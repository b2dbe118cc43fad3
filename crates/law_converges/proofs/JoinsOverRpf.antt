-- Two routers on a link, of which one is RPF' of the other, move after move: what that one wants comes to be held there.
use Rattle.std.{proofs.{Common.{Bool, List, Some, [], ap, arith, false, inl, inr, is_some, nat_le, refl, subst, sym, true, ℕ, ◌*◌, ◌+◌, ◌<◌, ◌==◌, ◌∷◌, ◌≡◌, ◌≤◌, ◌⊎◌}, lemmas.Bool.Decides.nat_tests}}
use Rattle.pim_types.{specs.declared.{event.Event.Event, fact.JoinTimerRow.JoinTimerRow}}
use Rattle.pim_model.{specs.{Cause.done_as, Network.{Move, Network, Station, frame_at, moved, station_at}, State.{State, iface_count, is_up}, Step.step, Tables.{has_row, row_at}}}
use Rattle.law_events.{specs.Rest.IsAtRest}
use Rattle.law_streams.{proofs.{Deliveries.{IsNewOn, IsStepped, is_delivered}, Firings.SendsJoin, InTimeTimers.{EndsBy, is_after}, Pairs.{HasTimer, Steps, ends_no_later, frame_stays, one_router, raised_end, ready_then, same_station, timer_runs}, Refresh.{EverAfter, Held, Keeps, Sent as SentBy, Soon, Turned, Turns, comes_to_hold}, Taken.{listed_source, listed_star, wanted_source, wanted_star}, Upper.{join_event, now_held, same_now, still_held}}, specs.{Copies.happens, InTimeJoins.{Always, AreInTime, ComesBy, ComesToBoth, HoldsTo, IsBy, IsHeld, IsHeldAfter, IsHeldSoon, IsInTime, IsJoin, IsReady, IsTaken, IsUnlost, Join, Pair, Source, Star, Wants, entry_of, frame_of, is_lost_at, is_suppressed, is_wanted, join_key, prunes_of, time_at}, Joins.{HoldsTree, IsWritable}, Shared.IsAbove, Timed.AreTimed}}
use Rattle.law_converges.{proofs.RpfTurns.{Goes, Lasts, each_raised, each_unsuppressed}, specs.RpfJoins.{GoesOver, IsNextHop, JoinsOverRpfAreHeld}}

by_end : (join : Join) (g : ℕ) (s : State) (row : JoinTimerRow) → row_at s.join_timers (join_key join 0 g) ≡ Some row → EndsBy join g row.end s
by_end join g s row is = grind (arith, is_after, nat_tests)

-- ---- a pair on the link

module _ (join : Join) (g d : ℕ) (started : ℕ → ℕ) (c : Pair) (isg : IsJoin join g) (few : d < 75000) (apart : (c.lower == c.upper) ≡ false) where
  abbrev pub next : Network → Move → Network
  next n m = (moved n m).1

  abbrev pub By : ℕ → Network → Type 0
  By y n = IsBy started c.upper y n

  -- the lower one's timer ends by a time
  abbrev pub Timer : ℕ → Network → Type 0
  Timer x n = (st : Station) (row : JoinTimerRow) → station_at n c.lower ≡ Some st
      → row_at (st.state).join_timers (join_key join 0 g) ≡ Some row → row.end + started c.lower ≤ x

  abbrev pub Holds : ℕ → Network → Type 0
  Holds l n = HoldsTo join g started c l n

  -- what the upper one holds isn't over after a move
  abbrev pub Outlasts : ℕ → Network → Move → Type 0
  Outlasts l n m = (f : Holds l n) → (z : Station) → station_at (next n m) c.upper ≡ Some z → (z.state).present < f.end

  abbrev Comes : ℕ → Network → List Move → Type 0
  Comes q n ms = Soon next 210000 d By Timer Holds Outlasts q n ms

  -- ---- what comes

  -- by a time before the limit
  outlasts_by : (n : Network) (m : Move) (y : ℕ) → By y (next n m) → (l : ℕ) → y < l → Outlasts l n m
  outlasts_by n m y by l lt f z at = less (z.state).present f.end (started c.upper) (by z at) f.lasts
    where
      less : (a b q : ℕ) → a + q ≤ y → l ≤ b + q → a < b
      less a b q e f = omega (arith, e, f, lt)

  comes_so : (q : ℕ) (ms : List Move) (n : Network) → IsHeldSoon join g d started c q n ms → Comes q n ms
  comes_so q [] n f = tt
  comes_so q (m ∷ ms) n (by, f) = go f (comes_so q ms (next n m))
    where
      go : (HoldsTo join g started c (q + 210000) (next n m) ⊎ IsHeldSoon join g d started c q (next n m) ms)
          → (IsHeldSoon join g d started c q (next n m) ms → Comes q (next n m) ms) → Comes q n (m ∷ ms)
      go (inl held) later = inl (held, outlasts_by n m (q + d) by)
      go (inr soon) later = inr (by, later soon)

  module _ (number sent : ℕ) (pruned : List ℕ) (writable : IsWritable c.from (c.hop).address.bits g (entry_of join) (prunes_of pruned)) where
    module _ (n : Network) (m : Move) (here : IsNextHop join g c n) (framed : frame_at n number ≡ Some (frame_of join g c pruned))
        (t : IsTaken join g started c pruned number sent n m) where
      abbrev u : State
      u = (here.above).state

      abbrev e : Event
      e = join_event join g isg u c.from (c.hop).address.bits c.down t.draw pruned (here.listens).rp_known (here.listens).hears
          (here.listens).own writable

      steps : IsStepped n c.upper here.above e (moved n m).1
      steps =
          subst (λ (k : Move). IsStepped n c.upper here.above e (moved n k).1) (sym t.is)
          (is_delivered n c.upper here.above c.down number t.draw c.link (frame_of join g c pruned).bytes here.above_is (here.listens).linked framed)

      held_then : HoldsTree (step u e).state (join_key join c.down g) (Some (u.present + 210000))
      held_then =
          now_held join g isg u c.from (c.hop).address.bits c.down t.draw pruned (here.listens).rp_known (here.listens).hears
          (here.listens).own writable (t.room here.above here.above_is)

      present_then : ((step u e).state).present ≡ u.present
      present_then =
          same_now join g isg u c.from (c.hop).address.bits c.down t.draw pruned (here.listens).rp_known (here.listens).hears
          (here.listens).own writable (t.room here.above here.above_is)

      more : (a b q : ℕ) → a ≤ b + q → a + 210000 ≤ b + 210000 + q
      more a b q e = omega (arith, e)

      within : (a b : ℕ) → a ≡ b → a < b + 210000
      within a b e = omega (arith, e)

      outlasts_it : (l : ℕ) → Outlasts l n m
      outlasts_it l f z at =
          subst (λ (y : Station). (y.state).present < f.end) (same_station (steps).here at)
          (subst (λ (p : ℕ). p < f.end) (sym present_then)
          (subst (λ (y : Station). (y.state).present < f.end) (same_station f.there here.above_is) f.later))

      taken_holds : Holds (sent + 210000) (next n m)
      taken_holds = record {
        station = record here.above { state = (step u e).state };
        there = (steps).here;
        end = u.present + 210000;
        later = within ((step u e).state).present u.present present_then;
        holds = held_then;
        lasts = more sent u.present (started c.upper) (t.after here.above here.above_is);
      }

    own_comes : (ms : List Move) (n : Network) → Always (IsNextHop join g c) n ms
        → frame_at n number ≡ Some (frame_of join g c pruned) → ComesBy join g d started c pruned number sent n ms → Comes sent n ms
    own_comes [] n there framed f = tt
    own_comes (m ∷ ms) n there framed f =
        go f (own_comes ms (next n m) there.1 (frame_stays n m number _ framed))
      where
        go : (IsTaken join g started c pruned number sent n m
            ⊎ (IsBy started c.upper (sent + d) (next n m) × ComesBy join g d started c pruned number sent (next n m) ms))
            → (ComesBy join g d started c pruned number sent (next n m) ms → Comes sent (next n m) ms) → Comes sent n (m ∷ ms)
        go (inl t) later = inl (taken_holds n m there.0 framed t, λ l lt. outlasts_it n m there.0 framed t l)
        go (inr (by, comes)) later = inr (by, later comes)

  -- ---- the lower one

  goes_so : (st : Station) → GoesOver join g c st → is_wanted join st.state g ≡ true → Goes join g c.from c.hop st.state
  goes_so st f wanted = record { wanted = wanted; to = record { rp_known = f.rp_known; upstream = f.rpf }; own = f.own }

  first_of : (P : Network → Type 0) (n : Network) (ms : List Move) → Always P n ms → P n
  first_of P n [] f = f
  first_of P n (m ∷ ms) f = f.0

  module _ (n : Network) (m : Move) (ms : List Move) (ready : IsReady c.lower n) (here : IsNextHop join g c n)
      (there : Always (IsNextHop join g c) (moved n m).1 ms) (wants : Wants join g c.lower n) (wanted : Wants join g c.lower (moved n m).1)
      (in_time : IsInTime join g d started c n m ms) (x : ℕ) (timer_by : Timer x n) where
    abbrev st : Station
    st = here.below

    abbrev s : State
    s = (here.below).state

    abbrev after : Network
    after = (moved n m).1

    abbrev there_now : IsNextHop join g c (moved n m).1
    there_now = first_of (IsNextHop join g c) (moved n m).1 ms there

    goes : Goes join g c.from c.hop s
    goes =
        goes_so st here.goes_over
        (subst (λ (y : Station). is_wanted join y.state g ≡ true) (same_station wants.there here.below_is) wants.wanted)

    rests : IsAtRest s
    rests = subst (λ (y : Station). IsAtRest y.state) (same_station ready.there here.below_is) ready.at_rest

    timed : AreTimed s
    timed = subst (λ (y : Station). AreTimed y.state) (same_station ready.there here.below_is) ready.timed

    timer : HasTimer join g s
    timer = timer_runs join g s timed (goes).wanted

    abbrev row : JoinTimerRow
    row = (timer).row

    late : IsBy started c.lower (row.end + started c.lower + d) (moved n m).1
        × IsBy started c.upper (row.end + started c.lower + d) (moved n m).1
    late = in_time.timer st row here.below_is (timer).is

    low : row.end + started c.lower ≤ x
    low = timer_by st row here.below_is (timer).is

    further : (t a : ℕ) → t ≤ a + d → a ≤ x → t ≤ x + d
    further t a e f = omega (arith, e, f)

    by_x : By (x + d) after
    by_x = λ y at. further (time_at started c.upper y) (row.end + started c.lower) (late.1 y at) low

    abbrev Out : Type 0
    Out = SentBy next 210000 d By Timer Holds Outlasts x after ms

    timer_at : (t : Station) (b : ℕ) → station_at after c.lower ≡ Some t → EndsBy join g b t.state → (z : ℕ) → b + started c.lower ≤ z → Timer z after
    timer_at t b at by z le = λ y r is found.
        let same : y ≡ t = same_station is at in
        let less : r.end ≤ b = ends_no_later join g b t.state r by
        (subst (λ (v : Station). row_at (v.state).join_timers (join_key join 0 g) ≡ Some r) same found) in
        trans r.end b (started c.lower) z less le
      where
        trans : (r b q z : ℕ) → r ≤ b → b + q ≤ z → r + q ≤ z
        trans r b q z e f = omega (arith, e, f)

    module _ (w : Steps n m c.lower st) where
      abbrev t : Station
      t = record st { state = (step s w.event).state }

      abbrev at : station_at after c.lower ≡ Some t
      at = (w.stepped).here

      same_below : (there_now).below ≡ t
      same_below = same_station (there_now).below_is (w.stepped).here

      is_wanted_then : is_wanted join (step s w.event).state g ≡ true
      is_wanted_then = subst (λ (y : Station). is_wanted join y.state g ≡ true) (same_station wanted.there (w.stepped).here) wanted.wanted

      goes_then : Goes join g c.from c.hop (step s w.event).state
      goes_then = goes_so t (subst (λ (y : Station). GoesOver join g c y) same_below (there_now).goes_over) is_wanted_then

      -- it sends a Join itself
      by_own : (pruned : List ℕ) → IsNewOn n after c.link (frame_of join g c pruned).bytes
          → EndsBy join g ((t.state).present + 60000) t.state → Out
      by_own pruned new by =
          let sent : ℕ = time_at started c.lower t in
          let number : ℕ = (new.on).number in
          let comes = in_time.joins w.event t number pruned w.is (w.stepped).here new.later (new.on).is in
          let soon : sent ≤ row.end + started c.lower + d = late.0 t (w.stepped).here in
          record {
            at = sent;
            rest = 60000;
            low = further sent (row.end + started c.lower) soon low;
            few = short few;
            comes = inr (own_comes number sent pruned comes.0 ms after there (new.on).is comes.1);
            timer = timer_at t ((t.state).present + 60000) (w.stepped).here by (sent + 60000) (swap (t.state).present (started c.lower));
          }
        where
          short : d < 75000 → 60000 + 2 * d < 210000
          short e = omega (arith, e)

          swap : (p q : ℕ) → p + 60000 + q ≤ p + q + 60000
          swap p q = omega arith

      abbrev Turn : Type 0
      Turn = Timer x after ⊎ Out

      by_sends : SendsJoin join g c.from c.hop (step s w.event).emissions → EndsBy join g (((step s w.event).state).present + 60000) (step s w.event).state → Turn
      by_sends sends by =
          inr (by_own sends.pruned ((w.stepped).sent (c.hop).iface.number c.link _ (here.goes_over).linked sends.is_sent) by)

      by_lasts : Lasts join g c.from c.hop s w.event rests timed goes row.end (step s w.event) → Turn
      by_lasts (inl by) = inl (timer_at t row.end (w.stepped).here by x low)
      by_lasts (inr (sends, by)) = by_sends sends by

      unsuppressed : is_suppressed join s g c.hop (done_as (happens s w.event)) ≡ false → Turn
      unsuppressed off =
          by_lasts (each_unsuppressed join g c.from c.hop s w.event rests timed goes row.end (by_end join g s row (timer).is) off goes_then)

      module _ (both : ComesToBoth join g d started c n m ms) where
        by_other : EndsBy join g (s.present + 84000) (step s w.event).state → Turn
        by_other by =
            let first : time_at started c.lower st ≤ both.sent + d = both.seen st here.below_is in
            let then : both.sent ≤ time_at started c.lower t = both.after t (w.stepped).here in
            let soon : time_at started c.lower t ≤ row.end + started c.lower + d = late.0 t (w.stepped).here in
            inr (record {
              at = both.sent;
              rest = 84000 + d;
              low = further both.sent (row.end + started c.lower) (trans both.sent (time_at started c.lower t) (row.end + started c.lower + d) then soon) low;
              few = short both.few;
              comes = come both.comes;
              timer = timer_at t (s.present + 84000) (w.stepped).here by (both.sent + (84000 + d)) (bound s.present (started c.lower) both.sent first);
            })
          where
            trans : (a b c : ℕ) → a ≤ b → b ≤ c → a ≤ c
            trans a b c e f = omega (arith, e, f)

            short : d < 42000 → 84000 + d + 2 * d < 210000
            short e = omega (arith, e)

            bound : (p q r : ℕ) → p + q ≤ r + d → p + 84000 + q ≤ r + (84000 + d)
            bound p q r e = omega (arith, e)

            come : HoldsTo join g started c (both.sent + 210000) after ⊎ IsHeldSoon join g d started c both.sent after ms
                → Holds (both.sent + 210000) after ⊎ Comes both.sent after ms
            come (inl held) = inl held
            come (inr soon) = inr (comes_so both.sent ms after soon)

        suppressed : Turn
        suppressed = go (nat_le (s.present + 84000) row.end) refl
          where
            le : (a b : ℕ) → nat_le a b ≡ true → a ≤ b
            le a b e = grind (arith, nat_tests, e)

            ge : (a b : ℕ) → nat_le a b ≡ false → b ≤ a
            ge a b e = grind (arith, nat_tests, e)

            self : (a : ℕ) → a ≤ a
            self a = omega arith

            by_any : Lasts join g c.from c.hop s w.event rests timed goes (s.present + 84000) (step s w.event) → Turn
            by_any (inl by) = by_other by
            by_any (inr (sends, by)) = by_sends sends by

            go : (b : Bool) → nat_le (s.present + 84000) row.end ≡ b → Turn
            go true is =
                by_lasts (each_raised join g c.from c.hop s w.event rests timed goes row.end (by_end join g s row (timer).is) (le (s.present + 84000) row.end is) goes_then)
            go false is =
                by_any (each_raised join g c.from c.hop s w.event rests timed goes (s.present + 84000)
                (raised_end join g row.end (s.present + 84000) s (ge (s.present + 84000) row.end is) (by_end join g s row (timer).is))
                (self (s.present + 84000)) goes_then)

      turns_so : Turn
      turns_so = go (is_suppressed join s g c.hop (done_as (happens s w.event))) refl
        where
          go : (b : Bool) → is_suppressed join s g c.hop (done_as (happens s w.event)) ≡ b → Turn
          go false off = unsuppressed off
          go true on = suppressed (in_time.shared w.event st w.is here.below_is on)

    pub turned : Turned next 210000 d By Timer Holds Outlasts x after ms
    turned = record { by = by_x; turn = go (one_router n m c.lower st here.below_is) }
      where
        go : (station_at after c.lower ≡ Some st) ⊎ Steps n m c.lower st → Timer x after ⊎ Out
        go (inl same) = inl (timer_at st row.end same (by_end join g s row (timer).is) x low)
        go (inr w) = turns_so w

  turns : (ms : List Move) (n : Network) → IsReady c.lower n → Always (IsNextHop join g c) n ms → Always (Wants join g c.lower) n ms
      → AreInTime join g d started c n ms → Turns next 210000 d By Timer Holds Outlasts n ms
  turns [] n ready there wants in_time = tt
  turns (m ∷ ms) n ready there wants in_time = (
    λ x by. turned n m ms ready there.0 there.1 wants.0 (first_of (Wants join g c.lower) (moved n m).1 ms wants.1) in_time.0 x by,
    turns ms (moved n m).1 (ready_then c.lower n m ready) there.1 wants.1 in_time.1,
  )

  -- ---- the upper one

  module _ (n : Network) (m : Move) (ms : List Move) (ready : IsReady c.upper n) (there : IsNextHop join g c (moved n m).1)
      (in_time : IsInTime join g d started c n m ms) (l y : ℕ) (lt : y < l) (by : By y (moved n m).1) (held : Holds l n) where
    abbrev above : Station
    above = held.station

    abbrev held_state : State
    held_state = (held.station).state

    rests_above : IsAtRest held_state
    rests_above = subst (λ (z : Station). IsAtRest z.state) (same_station ready.there held.there) ready.at_rest

    early : (z : Station) → station_at (moved n m).1 c.upper ≡ Some z → (z.state).present < held.end
    early z at = outlasts_by n m y by l lt held z at

    stays_held : Holds l (moved n m).1
    stays_held = go (one_router n m c.upper above held.there)
      where
        go : (station_at (moved n m).1 c.upper ≡ Some above) ⊎ Steps n m c.upper above → Holds l (moved n m).1
        go (inl same) = record { station = above; there = same; end = held.end; later = held.later; holds = held.holds; lasts = held.lasts }
        go (inr w) =
            let z : Station = record above { state = (step held_state w.event).state } in
            let at : station_at (moved n m).1 c.upper ≡ Some z = (w.stepped).here in
            let up : is_up (step held_state w.event).state c.down ≡ true =
            subst (λ (v : Station). is_up v.state c.down ≡ true) (same_station there.above_is at) ((there.listens).hears).up in
            record {
              station = z;
              there = at;
              end = held.end;
              later = early z at;
              holds = still_held join held_state w.event g c.down held.end (rests_above).settled held.holds up (early z at)
                  (in_time.unpruned w.event above w.is held.there);
              lasts = held.lasts;
            }

  keeps : (ms : List Move) (n : Network) → IsReady c.upper n → Always (IsNextHop join g c) n ms → AreInTime join g d started c n ms
      → Keeps next 210000 d By Timer Holds Outlasts n ms
  keeps [] n ready there in_time = tt
  keeps (m ∷ ms) n ready there in_time = (
    λ l y lt by. (
      outlasts_by n m y by l lt,
      stays_held n m ms ready (first_of (IsNextHop join g c) (moved n m).1 ms there.1) in_time.0 l y lt by,
    ),
    keeps ms (moved n m).1 (ready_then c.upper n m ready) there.1 in_time.1,
  )

  -- ---- both

  is_held : (n : Network) → Held next 210000 d By Timer Holds Outlasts n → IsHeld join g c n
  is_held n f = record {
    station = (f.holds).station;
    there = (f.holds).there;
    end = (f.holds).end;
    later = (f.holds).later;
    holds = (f.holds).holds;
  }

  -- ---- it comes to be held

  up_to : (bound : ℕ) (n : Network) (a : ℕ) → a ≤ bound → By a n → By bound n
  up_to bound n a le by = λ y at. trans (time_at started c.upper y) (by y at)
    where
      trans : (z : ℕ) → z ≤ a → z ≤ bound
      trans z early = omega (arith, early, le)

  after_so : (bound : ℕ) (ms : List Move) (n : Network) → EverAfter next 210000 d By Timer Holds Outlasts bound n ms
      → IsHeldAfter join g started c bound n ms
  after_so bound [] n f = tt
  after_so bound (m ∷ ms) n f = (go f.0, after_so bound ms (next n m) f.1)
    where
      go : (By bound (next n m) ⊎ Held next 210000 d By Timer Holds Outlasts (next n m)) → IsBy started c.upper bound (next n m) ⊎ IsHeld join g c (next n m)
      go (inl by) = inl by
      go (inr h) = inr (is_held (next n m) h)

  same_to : (a : ℕ) → a ≤ a
  same_to a = omega arith

  timer_of : (n : Network) (st : Station) (row : JoinTimerRow) → station_at n c.lower ≡ Some st
      → row_at (st.state).join_timers (join_key join 0 g) ≡ Some row → Timer (row.end + started c.lower) n
  timer_of n st row there is = λ y r at found.
      let same : y ≡ st = same_station at there in
      let less : r.end ≤ row.end =
      ends_no_later join g row.end st.state r (by_end join g st.state row is)
      (subst (λ (v : Station). row_at (v.state).join_timers (join_key join 0 g) ≡ Some r) same found) in
      plus r.end row.end (started c.lower) less
    where
      plus : (a b q : ℕ) → a ≤ b → a + q ≤ b + q
      plus a b q e = omega (arith, e)

  pub held_after_all : (n : Network) (ms : List Move) (st : Station) (row : JoinTimerRow) → IsReady c.lower n → IsReady c.upper n
      → Always (IsNextHop join g c) n ms → AreInTime join g d started c n ms → Always (Wants join g c.lower) n ms
      → station_at n c.lower ≡ Some st → row_at (st.state).join_timers (join_key join 0 g) ≡ Some row
      → IsHeldAfter join g started c (row.end + started c.lower + 2 * d) n ms
  held_after_all n ms st row lower upper there in_time wants at is =
      after_so (row.end + started c.lower + 2 * d) ms n
      (comes_to_hold next 210000 d By Timer Holds Outlasts (row.end + started c.lower + 2 * d) (up_to (row.end + started c.lower + 2 * d)) ms n
      (row.end + started c.lower) (same_to (row.end + started c.lower + 2 * d)) (timer_of n st row at is)
      (turns ms n lower there wants in_time) (keeps ms n upper there in_time))

pub joins_over_rpf_are_held : JoinsOverRpfAreHeld
joins_over_rpf_are_held join g d started c n ms st row isg few apart lower upper there in_time wants at is =
    held_after_all join g d started c isg few apart n ms st row lower upper there in_time wants at is

-- ---- along a way

above_so : (x : Join) (g : ℕ) (c : Pair) (n : Network) → IsNextHop x g c n → IsAbove x g c n
above_so x g c n f = record {
  station = f.above;
  there = f.above_is;
  rp_known = (f.listens).rp_known;
  up = ((f.listens).hears).up;
  own = (f.listens).own;
  linked = (f.listens).linked;
}

pub all_above : (x : Join) (g : ℕ) (c : Pair) (ms : List Move) (n : Network) → Always (IsNextHop x g c) n ms → Always (IsAbove x g c) n ms
all_above x g c [] n f = above_so x g c n f
all_above x g c (m ∷ ms) n f = (above_so x g c n f.0, all_above x g c ms (moved n m).1 f.1)

-- what is held on an interface where no assert is lost is wanted
wants_so : (x : Join) (t : State) (g i : ℕ) → i < iface_count t → has_row t.downstream (join_key x i g) ≡ true → is_lost_at x t g i ≡ false
    → is_wanted x t g ≡ true
wants_so (Star rp) t g i within there unlost = wanted_star t g i within (listed_star t g i there unlost)
wants_so (Source src) t g i within there unlost = wanted_source t g src i within (listed_source t g src i there unlost)

pub wants_on : (x : Join) (g : ℕ) (c : Pair) (n : Network) → IsHeld x g c n → IsUnlost x g c n → IsNextHop x g c n → Wants x g c.upper n
unfolding has_row
wants_on x g c n held unlost there =
    let above : there.above ≡ held.station = same_station there.above_is held.there in
    record {
      station = held.station;
      there = held.there;
      wanted = wants_so x (held.station).state g c.down
          (subst (λ (z : Station). c.down < iface_count z.state) above ((there.listens).hears).configured) (ap is_some (held.holds).found)
          (subst (λ (z : Station). is_lost_at x z.state g c.down ≡ false) (same_station unlost.there held.there) unlost.unlost);
    }
