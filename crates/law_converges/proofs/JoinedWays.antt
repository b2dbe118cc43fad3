-- Along a way: where the lower router of a pair wants from a bound on, its Join timer then ends within 84 s and the lag.
use Rattle.std.{proofs.{Common.{◌≡◌, ◌∙◌, ℕ, ◌+◌, ◌*◌, ◌<◌, ◌≤◌, ◌==◌, nat_le, Bool, true, false, List, [], ◌∷◌, ◌⊎◌, inl, inr, Option, Some, None, refl, sym, subst, arith}, lemmas.Bool.Decides.nat_tests}}
use Rattle.pim_types.{specs.declared.{fact.JoinTimerRow.JoinTimerRow}}
use Rattle.pim_model.{specs.{Network.{Move, Network, Station, moved, station_at}, State.State, Step.step, Tables.row_at}}
use Rattle.law_streams.{specs.InTimeJoins.{Always, AreInTime, IsBy, IsHeld, IsHeldAfter, IsJoin, IsReady, IsUnlost, Join, Pair, Wants, is_wanted, join_key, time_at}, proofs.{InTimeTimers.{EndsBy, is_after}, Pairs.{HasTimer, Steps, ends_no_later, one_router, ready_then, same_station, timer_runs}, Shared.present_later}}
use Rattle.law_converges.{specs.{JoinedWays.{AreHeldPast, AreHops, AreTogether, IsDue, IsNear, WayComesToBeJoined, a_hop}, Past.{ArePast, HoldsPast, HoldsPastOn}, RpfJoins.IsNextHop}, proofs.{JoinClock.{Near, step_near}, JoinsOverRpf.{joins_over_rpf_are_held, wants_on}, LinkJoins.{first_of, later, too_late}, Past.{both_past, later_past, later_past_on, throughout_past}}}

-- ---- a pair

module _ (x : Join) (g : ℕ) (started : ℕ → ℕ) (c : Pair) where
  near_of : (n : Network) (st : Station) → station_at n c.lower ≡ Some st → Near x g st.state → IsNear x g c.lower n
  near_of n st at f = λ z row there is.
      subst (λ (y : Station). row.end ≤ (y.state).present + 84000) (same_station at there)
      (ends_no_later x g ((st.state).present + 84000) st.state row f
      (subst (λ (y : Station). row_at (y.state).join_timers (join_key x 0 g) ≡ Some row) (same_station there at) is))

  ends_so : (b : ℕ) (s : State) → ((row : JoinTimerRow) → row_at s.join_timers (join_key x 0 g) ≡ Some row → row.end ≤ b) → EndsBy x g b s
  ends_so b s f = go (row_at s.join_timers (join_key x 0 g)) refl
    where
      go : (o : Option JoinTimerRow) → row_at s.join_timers (join_key x 0 g) ≡ o → is_after b o ≡ false
      go None is = refl
      go (Some row) is = let le : row.end ≤ b = f row is in grind (arith, nat_tests, le)

  near_then : (n : Network) (m : Move) → IsReady c.lower n → IsNear x g c.lower n → IsNear x g c.lower (moved n m).1
  near_then n m ready near = go (one_router n m c.lower ready.station ready.there)
    where
      start : Near x g (ready.station).state
      start = ends_so (((ready.station).state).present + 84000) (ready.station).state (λ row is. near ready.station row ready.there is)

      go : (station_at (moved n m).1 c.lower ≡ Some ready.station) ⊎ Steps n m c.lower ready.station → IsNear x g c.lower (moved n m).1
      go (inl same) = near_of (moved n m).1 ready.station same start
      go (inr w) =
          near_of (moved n m).1 (record ready.station { state = (step (ready.station).state w.event).state }) (w.stepped).here
          (step_near x g (ready.station).state w.event ready.timed start)

  -- what the upper one holds it wants
  wants_past : (bound : ℕ) (ms : List Move) (n : Network) → HoldsPast started bound (IsHeld x g c) n ms
      → HoldsPast started bound (IsUnlost x g c) n ms → HoldsPast started bound (IsNextHop x g c) n ms
      → HoldsPast started bound (Wants x g c.upper) n ms
  wants_past bound ms n held unlost there =
      both_past started bound (IsHeld x g c) (λ n. IsUnlost x g c n × IsNextHop x g c n) (Wants x g c.upper) (λ n h f. wants_on x g c n h f.0 f.1) ms n
      held
      (both_past started bound (IsUnlost x g c) (IsNextHop x g c) (λ n. IsUnlost x g c n × IsNextHop x g c n) (λ n a b. (a, b)) ms n unlost there)

  held_past : (bound : ℕ) (ms : List Move) (n : Network) → Always (IsNextHop x g c) n ms → IsHeldAfter x g started c bound n ms
      → HoldsPast started bound (IsHeld x g c) n ms
  held_past bound [] n there f = tt
  held_past bound (m ∷ ms) n there f = (λ past. go past f.0, held_past bound ms (moved n m).1 there.1 f.1)
    where
      here : IsNextHop x g c (moved n m).1
      here = first_of (IsNextHop x g c) (moved n m).1 ms there.1

      go : ArePast started bound (moved n m).1 → IsBy started c.upper bound (moved n m).1 ⊎ IsHeld x g c (moved n m).1 → IsHeld x g c (moved n m).1
      go past (inl by) =
          absurd (too_late (time_at started c.upper here.above) bound (by here.above here.above_is) (past c.upper here.above here.above_is))
      go past (inr held) = held

  -- ---- the lower one wants from a bound on

  module _ (d lag bound : ℕ) (isg : IsJoin x g) (few : d < 75000) (apart : (c.lower == c.upper) ≡ false) where
    -- the lower one's time is past the bound and the lag
    pub record Over (n : Network) : Type 0 where
      pub station : Station
      pub there : station_at n c.lower ≡ Some station
      pub over : bound + lag < time_at started c.lower station

    pub over_then : (n : Network) (m : Move) → Over n → Over (moved n m).1
    over_then n m f = go (one_router n m c.lower f.station f.there)
      where
        further : (a b q : ℕ) → a ≤ b → bound + lag < a + q → bound + lag < b + q
        further a b q e h = omega (arith, e, h)

        go : (station_at (moved n m).1 c.lower ≡ Some f.station) ⊎ Steps n m c.lower f.station → Over (moved n m).1
        go (inl same) = record { station = f.station; there = same; over = f.over }
        go (inr w) = record {
          station = record f.station { state = (step (f.station).state w.event).state };
          there = (w.stepped).here;
          over = further ((f.station).state).present ((step (f.station).state w.event).state).present (started c.lower)
              (present_later (f.station).state w.event) f.over;
        }

    -- so all are past the bound
    pub all_past : (n : Network) → AreTogether lag started n → Over n → ArePast started bound n
    all_past n together f = λ r st at. less (time_at started c.lower f.station) (time_at started r st) f.over (together c.lower r f.station st f.there at)
      where
        less : (a b : ℕ) → bound + lag < a → a ≤ b + lag → bound < b
        less a b e h = omega (arith, e, h)

    pub holds_always : (P : Network → Type 0) (ms : List Move) (n : Network) → Over n → P n → Always (AreTogether lag started) n ms
        → HoldsPast started bound P n ms → Always P n ms
    holds_always P [] n over f together later = f
    holds_always P (m ∷ ms) n over f together later =
        let after : Over (moved n m).1 = over_then n m over in (
          f,
          holds_always P ms (moved n m).1 after
              (later.0 (all_past (moved n m).1 (first_of (AreTogether lag started) (moved n m).1 ms together.1) after)) together.1 later.1,
        )

    -- how far the lower one is by a move before which it isn't over
    pub soon_then : (n : Network) (m : Move) → IsReady c.lower n → IsReady c.upper n → (then : IsReady c.lower (moved n m).1)
        → AreTogether lag started n → AreTogether lag started (moved n m).1 → IsBy started c.lower (bound + lag) n
        → time_at started c.lower then.station ≤ bound + 3 * lag
    soon_then n m lower upper then before after early = go (one_router n m c.lower lower.station lower.there)
      where
        far : (a b z : ℕ) → b ≤ bound + lag → a ≤ b + lag → z ≤ a + lag → z ≤ bound + 3 * lag
        far a b z e f h = omega (arith, e, f, h)

        near : (z : ℕ) → z ≤ bound + lag → z ≤ bound + 3 * lag
        near z e = omega (arith, e)

        go : (station_at (moved n m).1 c.lower ≡ Some lower.station) ⊎ Steps n m c.lower lower.station
            → time_at started c.lower then.station ≤ bound + 3 * lag
        go (inl same) =
            near (time_at started c.lower then.station)
            (subst (λ (z : Station). time_at started c.lower z ≤ bound + lag) (same_station same then.there) (early lower.station lower.there))
        go (inr w) =
            far (time_at started c.upper upper.station) (time_at started c.lower lower.station) (time_at started c.lower then.station)
            (early lower.station lower.there) (before c.upper c.lower upper.station lower.station upper.there lower.there)
            (after c.lower c.upper then.station upper.station then.there ((w.stepped).beside c.upper apart ∙ upper.there))

    abbrev next : ℕ
    next = bound + a_hop d lag

    -- from when the lower one wants
    from_then : (ms : List Move) (n : Network) → (lower : IsReady c.lower n) → IsReady c.upper n → IsNear x g c.lower n
        → Always (IsNextHop x g c) n ms → AreInTime x g d started c n ms → Always (Wants x g c.lower) n ms
        → time_at started c.lower lower.station ≤ bound + 3 * lag → HoldsPast started next (IsHeld x g c) n ms
    from_then ms n lower upper near there in_time wants soon =
        held_past next ms n there
        (later x g started c ((timer).row.end + started c.lower + 2 * d) next
        (within ((timer).row).end ((lower.station).state).present (started c.lower) (near lower.station (timer).row lower.there (timer).is) soon) ms n
        (joins_over_rpf_are_held x g d started c n ms lower.station (timer).row isg few apart lower upper there in_time wants lower.there (timer).is))
      where
        want : Wants x g c.lower n
        want = first_of (Wants x g c.lower) n ms wants

        timer : HasTimer x g (lower.station).state
        timer =
            timer_runs x g (lower.station).state lower.timed
            (subst (λ (z : Station). is_wanted x z.state g ≡ true) (same_station (want).there lower.there) (want).wanted)

        within : (e p q : ℕ) → e ≤ p + 84000 → p + q ≤ bound + 3 * lag → e + q + 2 * d ≤ bound + (84000 + 2 * d + 3 * lag)
        within e p q a b = omega (arith, a, b)

    pub climbs : (ms : List Move) (n : Network) → IsReady c.lower n → IsReady c.upper n → IsNear x g c.lower n
        → HoldsPast started bound (IsNextHop x g c) n ms → HoldsPastOn started bound (AreInTime x g d started c) n ms
        → Always (AreTogether lag started) n ms → HoldsPast started bound (Wants x g c.lower) n ms → IsBy started c.lower (bound + lag) n
        → HoldsPast started next (IsHeld x g c) n ms
    climbs [] n lower upper near there in_time together wants early = tt
    climbs (m ∷ ms) n lower upper near there in_time together wants early = (
      λ past. absurd (never (time_at started c.lower (then).station) soon (past c.lower (then).station (then).there)),
      go (climbs ms (moved n m).1 then above (near_then n m lower near) there.1 in_time.1 together.1 wants.1)
          (nat_le (time_at started c.lower (then).station) (bound + lag)) refl,
    )
      where
        then : IsReady c.lower (moved n m).1
        then = ready_then c.lower n m lower

        above : IsReady c.upper (moved n m).1
        above = ready_then c.upper n m upper

        now : AreTogether lag started (moved n m).1
        now = first_of (AreTogether lag started) (moved n m).1 ms together.1

        soon : time_at started c.lower (then).station ≤ bound + 3 * lag
        soon = soon_then n m lower upper then together.0 now early

        never : (t : ℕ) → t ≤ bound + 3 * lag → bound + (84000 + 2 * d + 3 * lag) < t → ⊥
        never t e f = omega (arith, e, f)

        le : (a b : ℕ) → nat_le a b ≡ true → a ≤ b
        le a b e = grind (arith, nat_tests, e)

        lt : (a b : ℕ) → nat_le a b ≡ false → b < a
        lt a b e = grind (arith, nat_tests, e)

        go : (IsBy started c.lower (bound + lag) (moved n m).1 → HoldsPast started next (IsHeld x g c) (moved n m).1 ms)
            → (b : Bool) → nat_le (time_at started c.lower (then).station) (bound + lag) ≡ b
            → HoldsPast started next (IsHeld x g c) (moved n m).1 ms
        go later true is =
            later (λ st at. subst (λ (z : Station). time_at started c.lower z ≤ bound + lag) (same_station (then).there at) (le _ _ is))
        go later false is =
            let over : Over (moved n m).1 = record { station = (then).station; there = (then).there; over = lt _ _ is } in
            let past : ArePast started bound (moved n m).1 = all_past (moved n m).1 now over in
            from_then ms (moved n m).1 then above (near_then n m lower near)
            (holds_always (IsNextHop x g c) ms (moved n m).1 over (there.0 past) together.1 there.1) (in_time.0 past)
            (holds_always (Wants x g c.lower) ms (moved n m).1 over (wants.0 past) together.1 wants.1) soon

-- ---- a way

-- the Joins of a pair come in time from a bound on, by when each is there and no assert is lost where they come
pub record IsHopPast (x : Join) (g d bound : ℕ) (started : ℕ → ℕ) (n : Network) (ms : List Move) (c : Pair) : Type 0 where
  pub apart : (c.lower == c.upper) ≡ false
  pub lower_ready : IsReady c.lower n
  pub upper_ready : IsReady c.upper n
  pub near : IsNear x g c.lower n
  pub there : HoldsPast started bound (IsNextHop x g c) n ms
  pub in_time : HoldsPastOn started bound (AreInTime x g d started c) n ms
  pub unlost : HoldsPast started bound (IsUnlost x g c) n ms

abbrev pub AreHopsPast : Join → (g d bound : ℕ) → (ℕ → ℕ) → Network → List Move → ℕ → List Pair → Type 0
AreHopsPast x g d bound started n ms r [] = Unit {0}
AreHopsPast x g d bound started n ms r (c ∷ cs) =
    (c.lower ≡ r) × IsHopPast x g d bound started n ms c × AreHopsPast x g d bound started n ms c.upper cs

in_time_on : (x : Join) (g d bound : ℕ) (started : ℕ → ℕ) (c : Pair) (ms : List Move) (n : Network) → AreInTime x g d started c n ms
    → HoldsPastOn started bound (AreInTime x g d started c) n ms
in_time_on x g d bound started c [] n f = tt
in_time_on x g d bound started c (m ∷ ms) n f = (λ past. f.1, in_time_on x g d bound started c ms (moved n m).1 f.1)

-- so it is of those whose Joins come in time throughout
throughout : (x : Join) (g d bound : ℕ) (started : ℕ → ℕ) (n : Network) (ms : List Move) (cs : List Pair) (r : ℕ) → AreHops x g d started n ms r cs
    → AreHopsPast x g d bound started n ms r cs
throughout x g d bound started n ms [] r hops = tt
throughout x g d bound started n ms (c ∷ cs) r hops = (
  hops.0,
  record {
    apart = (hops.1).apart;
    lower_ready = (hops.1).lower_ready;
    upper_ready = (hops.1).upper_ready;
    near = (hops.1).near;
    there = throughout_past started bound (IsNextHop x g c) ms n (hops.1).there;
    in_time = in_time_on x g d bound started c ms n (hops.1).in_time;
    unlost = throughout_past started bound (IsUnlost x g c) ms n (hops.1).unlost;
  },
  throughout x g d bound started n ms cs c.upper hops.2,
)

module _ (x : Join) (g d lag : ℕ) (started : ℕ → ℕ) (n : Network) (ms : List Move) (isg : IsJoin x g) (few : d < 75000)
    (together : Always (AreTogether lag started) n ms) where
  -- the upper one is at most the lag ahead
  above_by : (c : Pair) (b z : ℕ) → b + lag ≤ z → IsReady c.lower n → IsBy started c.lower b n → IsBy started c.upper z n
  above_by c b z le ready by = λ st at.
      trans (time_at started c.upper st) (time_at started c.lower ready.station)
      (first_of (AreTogether lag started) n ms together c.upper c.lower st ready.station at ready.there) (by ready.station ready.there)
    where
      trans : (u v : ℕ) → u ≤ v + lag → v ≤ b → u ≤ z
      trans u v e f = omega (arith, le, e, f)

  -- where the first router wants from a bound on
  pub rest : (met : ℕ) (cs : List Pair) (bound r : ℕ) → met ≤ bound → AreHopsPast x g d met started n ms r cs
      → HoldsPast started bound (Wants x g r) n ms → IsBy started r (bound + lag) n → AreHeldPast x g d lag (bound + a_hop d lag) started n ms cs
  rest met [] bound r low hops wants early = tt
  rest met (c ∷ cs) bound r low hops wants early = (
    held,
    rest met cs (bound + a_hop d lag) c.upper (low_still bound low) hops.2
        (wants_past x g started c (bound + a_hop d lag) ms n held
        (later_past started (bound + a_hop d lag) met (low_still bound low) (IsUnlost x g c) ms n (hops.1).unlost)
        (later_past started (bound + a_hop d lag) met (low_still bound low) (IsNextHop x g c) ms n (hops.1).there))
        (above_by c (bound + lag) (bound + a_hop d lag + lag) (further bound) (hops.1).lower_ready by),
  )
    where
      further : (b : ℕ) → b + lag + lag ≤ b + (84000 + 2 * d + 3 * lag) + lag
      further b = omega arith

      low_still : (b : ℕ) → met ≤ b → met ≤ b + (84000 + 2 * d + 3 * lag)
      low_still b le = omega (arith, le)

      by : IsBy started c.lower (bound + lag) n
      by = subst (λ (q : ℕ). IsBy started q (bound + lag) n) (sym hops.0) early

      held : HoldsPast started (bound + a_hop d lag) (IsHeld x g c) n ms
      held =
          climbs x g started c d lag bound isg few (hops.1).apart ms n (hops.1).lower_ready (hops.1).upper_ready (hops.1).near
          (later_past started bound met low (IsNextHop x g c) ms n (hops.1).there)
          (later_past_on started bound met low (AreInTime x g d started c) ms n (hops.1).in_time) together
          (subst (λ (q : ℕ). HoldsPast started bound (Wants x g q) n ms) (sym hops.0) wants) by

  same : (a : ℕ) → a ≤ a
  same a = omega arith

  whole : (cs : List Pair) (bound r : ℕ) → AreHops x g d started n ms r cs → Always (Wants x g r) n ms → IsDue x g d bound started r n
      → AreHeldPast x g d lag bound started n ms cs
  whole [] bound r hops wants due = tt
  whole (c ∷ cs) bound r hops wants due = (
    held,
    rest bound cs bound c.upper (same bound) (throughout x g d bound started n ms cs c.upper hops.2)
        (wants_past x g started c bound ms n held (throughout_past started bound (IsUnlost x g c) ms n (hops.1).unlost)
        (throughout_past started bound (IsNextHop x g c) ms n (hops.1).there))
        (above_by c bound (bound + lag) (same (bound + lag)) ready by.early),
  )
    where
      ready : IsReady c.lower n
      ready = (hops.1).lower_ready

      wants_it : Always (Wants x g c.lower) n ms
      wants_it = subst (λ (q : ℕ). Always (Wants x g q) n ms) (sym hops.0) wants

      by : IsDue x g d bound started c.lower n
      by = subst (λ (q : ℕ). IsDue x g d bound started q n) (sym hops.0) due

      want : Wants x g c.lower n
      want = first_of (Wants x g c.lower) n ms wants_it

      timer : HasTimer x g ((ready).station).state
      timer =
          timer_runs x g ((ready).station).state (ready).timed
          (subst (λ (z : Station). is_wanted x z.state g ≡ true) (same_station (want).there (ready).there) (want).wanted)

      held : HoldsPast started bound (IsHeld x g c) n ms
      held =
          held_past x g started c bound ms n (hops.1).there
          (later x g started c (((timer).row).end + started c.lower + 2 * d) bound
          ((by).next (ready).station (timer).row (ready).there (timer).is) ms n
          (joins_over_rpf_are_held x g d started c n ms (ready).station (timer).row isg few (hops.1).apart ready (hops.1).upper_ready
          (hops.1).there (hops.1).in_time wants_it (ready).there (timer).is))

pub way_comes_to_be_joined : WayComesToBeJoined
way_comes_to_be_joined x g d lag bound started n ms r cs isg few hops together wants due =
    whole x g d lag started n ms isg few together cs bound r hops wants due
