-- Where a link carries what is sent on it, the Joins of a router come to its next hop in time: throughout, or from a bound on.
use Rattle.std.{proofs.{Common.{Bool, List, None, Option, Some, [], ap, arith, false, inl, inr, length, nat_le, nat_lt, refl, subst, sym, true, ℕ, ◌*◌, ◌+◌, ◌<◌, ◌==◌, ◌∙◌, ◌∷◌, ◌≡◌, ◌≤◌, ◌⊎◌}, lemmas.Bool.Decides.nat_tests}}
use Rattle.pim_types.{specs.declared.{event.Event.Event, fact.JoinTimerRow.JoinTimerRow}}
use Rattle.pim_model.{specs.{Network.{Deliver, Move, Network, Station, event_of, frame_at, moved, moved_at, station_at}, Step.step, Tables.row_at}}
use Rattle.law_streams.{proofs.{Deliveries.is_stepped, Pairs.{Steps, one_router, ready_then, same_station}, Shared.{Known, all_in_time, frames_come_to_both, known_on, none_known, present_later}}, specs.{InTimeJoins.{Always, AreInTime, ComesBy, IsBy, IsJoin, IsReady, Join, Pair, entry_of, frame_of, join_key, most_late, most_late_shared, prunes_of, time_at}, Joins.IsWritable, Shared.{AreOnLink, ComesFrom, IsAbove, IsSeenFrom, frame_from}}}
use Rattle.law_converges.{proofs.{Carried.{IsCarriedOn, carried_on, frame_comes, sent_comes}, CarriedLinks.in_time, JoinedWays.{Over, all_past, soon_then}, JoinsOverRpf.all_above, LinkJoins.first_of, Prompt.join_end, TakesOver.moved_so}, specs.{Carried.{Arrivals, ComesInTurn, EachMove, IsCarried, Traffic, arrived}, CarriedLinks.{HearsJoins, JoinKeeps, SeesJoin, pair_of}, JoinedWays.AreTogether, LinkDr.{IsOne, Member}, Past.HoldsPastOn, RpfJoins.IsNextHop}}

-- a delivery is an event at its router
pub delivered_at : (n : Network) (r i k draw q : ℕ) (e : Event) → event_of n (Deliver r i k draw) ≡ Some (q, e) → r ≡ q
unfolding event_of
delivered_at n r i k draw q e is = grind arith

-- who sends a frame by a move
record Sender (n : Network) (m : Move) : Type 0 where
  router : ℕ
  event : Event
  is : event_of n m ≡ Some (router, event)
  station : Station
  there : station_at (moved n m).1 router ≡ Some station

sender_of : (n : Network) (m : Move) → length n.frames < length ((moved n m).1).frames → Sender n m
unfolding moved moved_at
sender_of n m more = go (event_of n m) refl
  where
    none_new : (x : Network) → x ≡ n → length n.frames < length x.frames → ⊥
    none_new x same lt =
        let alike : length x.frames ≡ length n.frames = ap (λ (y : Network). length y.frames) same in omega (arith, lt, alike)

    by_router : (r : ℕ) (e : Event) → event_of n m ≡ Some (r, e) → (o : Option Station) → station_at n r ≡ o → Sender n m
    by_router r e is None none = absurd (none_new (moved n m).1 (rw is (rw none refl)) more)
    by_router r e is (Some st) at = record {
      router = r;
      event = e;
      is = is;
      station = record st { state = (step st.state e).state };
      there = ap (λ (y : Network). station_at y r) (moved_so n m r e st is at) ∙ (is_stepped n r st e at).here;
    }

    go : (o : Option (ℕ × Event)) → event_of n m ≡ o → Sender n m
    go None is = absurd (none_new (moved n m).1 (rw is refl) more)
    go (Some (r, e)) is = by_router r e is (station_at n r) refl

module _ (x : Join) (g d late : ℕ) (started : ℕ → ℕ) (t : Traffic) (link : ℕ) (members : List Member) (first : ℕ) (low up : Member)
    (low_among : IsOne members low) (up_among : IsOne members up) (apart : (low.router == up.router) ≡ false)
    (few : d < most_late_shared) where
  abbrev c : Pair
  c = pair_of link low up

  -- a Join that a router sends comes to the upper one
  others_come : (came : Arrivals) (n : Network) (m : Move) (ms : List Move) → IsCarriedOn d late started t came link members first n m ms
      → JoinKeeps x g t c n m → EachMove (JoinKeeps x g t c) (moved n m).1 ms → EachMove (HearsJoins x g c) (moved n m).1 ms
      → (number from : ℕ) (pruned : List ℕ) → length n.frames < number → frame_at (moved n m).1 number ≡ Some (frame_from x g c from pruned)
      → IsWritable from (c.hop).address.bits g (entry_of x) (prunes_of pruned)
      → ComesFrom x g d started c from pruned number (t.sent number) (moved n m).1 ms
  others_come came n m ms on now keeps hears number from pruned new got writable =
      frame_comes d late started t link members first came n m ms on up up_among number new (frame_from x g c from pruned).bytes got
      (now.others number from pruned got) (λ n ms. EachMove (JoinKeeps x g t c) n ms × EachMove (HearsJoins x g c) n ms)
      (λ n ms. ComesFrom x g d started c from pruned number (t.sent number) n ms) (λ n m ms q. (q.0.1, q.1.1)) (λ n. tt)
      (λ n m ms draw q is framed after. inl (record {
        taken = record {
          draw = draw;
          is = is;
          after = after;
          room = λ st at. ((q.0).0).room number draw from pruned st is framed at;
        };
        hears = λ st at. ((q.1).0).hears number draw from pruned st writable.from_host is framed at;
      })) (λ n m ms by rest. inr (by, rest)) (keeps, hears)

  -- what the lower one sees was sent behind the frames of before
  module _ (before : ℕ) (Behind : Arrivals → Network → Type 0)
      (goes : (came : Arrivals) (n : Network) (m : Move) (ms : List Move) → IsCarriedOn d late started t came link members first n m ms
      → Behind came n → Behind (arrived came m) (moved n m).1)
      (tells : (came : Arrivals) (n : Network) (number : ℕ) → Behind came n → first ≤ came low.router low.iface
      → came low.router low.iface < number → IsBy started low.router (t.sent number + d) n → before < number) where
    seen_so : (came : Arrivals) (n : Network) (m : Move) (ms : List Move) → IsCarriedOn d late started t came link members first n m ms
        → IsReady low.router n → IsReady up.router n → Behind came n → SeesJoin x g c n m → IsSeenFrom x g d started t.sent c before n m
    seen_so came n m ms on below above behind j = record {
      few = few;
      number = j.number;
      later = tells came n j.number behind (on.since low low_among) turn.later soon;
      draw = j.draw;
      is = j.is;
      from = j.from;
      pruned = j.pruned;
      framed = j.framed;
      writable = j.writable;
      seen = soon;
      after = after (one_router n m low.router below.station below.there);
      by = λ st at. by st at (one_router n m up.router above.station above.there);
    }
      where
        turn : ComesInTurn started t link low came j.number n
        turn = (on.carries).1 low j.number j.draw low_among j.is

        soon : IsBy started low.router (t.sent j.number + d) n
        soon = (on.carries).0 low low j.number low_among low_among turn.later turn.its

        start : t.sent j.number ≤ time_at started low.router below.station
        start = turn.after below.station below.there

        more : (a b q s : ℕ) → a ≤ b → s ≤ a + q → s ≤ b + q
        more a b q s e f = omega (arith, e, f)

        after : (station_at (moved n m).1 low.router ≡ Some below.station) ⊎ Steps n m low.router below.station
            → (st : Station) → station_at (moved n m).1 low.router ≡ Some st → t.sent j.number ≤ time_at started low.router st
        after (inl same) st at = subst (λ (z : Station). t.sent j.number ≤ time_at started low.router z) (same_station same at) start
        after (inr w) st at =
            subst (λ (z : Station). t.sent j.number ≤ time_at started low.router z) (same_station (w.stepped).here at)
            (more ((below.station).state).present ((step (below.station).state w.event).state).present (started low.router) (t.sent j.number)
            (present_later (below.station).state w.event) start)

        early : time_at started up.router above.station ≤ t.sent j.number + d
        early = (on.carries).0 low up j.number low_among up_among turn.later turn.its above.station above.there

        contradicts : low.router ≡ up.router → ⊥
        contradicts same = grind (arith, same, apart)

        by : (st : Station) → station_at (moved n m).1 up.router ≡ Some st
            → (station_at (moved n m).1 up.router ≡ Some above.station) ⊎ Steps n m up.router above.station
            → time_at started up.router st ≤ t.sent j.number + d
        by st at (inl same) = subst (λ (z : Station). time_at started up.router z ≤ t.sent j.number + d) (same_station same at) early
        by st at (inr w) =
            absurd (contradicts (delivered_at n low.router low.iface j.number j.draw up.router w.event
            (subst (λ (k : Move). event_of n k ≡ Some (up.router, w.event)) j.is w.is)))

    on_link : (ms : List Move) (n : Network) (came : Arrivals) → IsCarried d late started t came link members first n ms
        → IsReady low.router n → IsReady up.router n → EachMove (JoinKeeps x g t c) n ms → EachMove (HearsJoins x g c) n ms → Behind came n
        → AreOnLink x g d started t.sent c before n ms
    on_link [] n came f below above keeps hears behind = tt
    on_link (m ∷ ms) n came f below above keeps hears behind = (
      record {
        timer = λ st row at is. (timely low.router st row at is, timely up.router st row at is);
        joins = λ e st number pruned ev at new got. (
          (keeps.0).writable e st number pruned ev at new got,
          sent_comes d late started t link members first came n m ms on up up_among number new low apart e st (frame_of x g c pruned).bytes ev at
              got (EachMove (JoinKeeps x g t c)) (λ sent n ms. ComesBy x g d started c pruned number sent n ms) (λ n m ms q. q.1) (λ n. tt)
              (λ n m ms draw q is framed after. inl (record {
                draw = draw;
                is = is;
                after = after;
                room = λ st at. (q.0).room number draw low.address pruned st is framed at;
              })) (λ n m ms by rest. inr (by, rest)) keeps.1,
        );
        unpruned = (keeps.0).unpruned;
        others = others_come came n m ms on keeps.0 keeps.1 hears.1;
        shared = λ e st ev at is. seen_so came n m ms on below above behind ((keeps.0).shared e st ev at is);
      },
      on_link ms (moved n m).1 (arrived came m) on.rest (ready_then low.router n m below) (ready_then up.router n m above) keeps.1 hears.1
          (goes came n m ms on behind),
    )
      where
        on : IsCarriedOn d late started t came link members first n m ms
        on = carried_on d late started t link members first came n m ms f

        timely : (q : ℕ) (st : Station) (row : JoinTimerRow) → station_at n low.router ≡ Some st
            → row_at (st.state).join_timers (join_key x 0 g) ≡ Some row → IsBy started q (row.end + started low.router + d) (moved n m).1
        timely q st row at is =
            in_time d late started t link members first f.timely q (row.end + started low.router) (moved n m).1
            (join_end (λ (end : ℕ). IsBy started q (end + started low.router + late) (moved n m).1) st.state (on.prompt low.router q st at)
            (join_key x 0 g) row is)

  -- ---- throughout

  pub in_time_throughout : IsJoin x g → d < most_late → (n : Network) (ms : List Move) (came : Arrivals) → length n.frames ≡ first
      → IsReady low.router n → IsReady up.router n → IsCarried d late started t came link members first n ms → Always (IsNextHop x g c) n ms
      → EachMove (JoinKeeps x g t c) n ms → EachMove (HearsJoins x g c) n ms → AreInTime x g d started c n ms
  in_time_throughout isg soon n ms came same below above f there keeps hears =
      frames_come_to_both x g d started t.sent c n ms isg soon above (all_above x g c ms n there)
      (subst (λ (k : ℕ). AreOnLink x g d started t.sent c k n ms) (sym same)
      (on_link first (λ came n. Unit {0}) (λ came n m ms on b. tt) (λ came n number b low later by. less low later) ms n came f below above keeps
      hears tt))
    where
      less : {a b z : ℕ} → a ≤ b → b < z → a < z
      less e f = omega (arith, e, f)

  -- ---- from a bound on

  module _ (lag bound : ℕ) (isg : IsJoin x g) (soon : d < most_late) where
    -- when the frames have come that were sent before all were past the bound
    abbrev pub heard : ℕ
    heard = bound + 3 * lag + d

    abbrev OverNow : Network → Type 0
    OverNow n = Over x g started c d lag bound isg soon apart n

    -- what was sent until now was sent by then
    abbrev SentBy : (last : ℕ) → Type 0
    SentBy last = (k : ℕ) → first < k → k ≤ last → t.sent k ≤ bound + 3 * lag

    sent_then : (came : Arrivals) (n : Network) (m : Move) (ms : List Move) → IsCarriedOn d late started t came link members first n m ms
        → IsReady low.router n → IsReady up.router n → AreTogether lag started n → AreTogether lag started (moved n m).1
        → IsBy started low.router (bound + lag) n → SentBy (length n.frames) → SentBy (length ((moved n m).1).frames)
    sent_then came n m ms on below above before after early f k new k_there = go (nat_lt (length n.frames) k) refl
      where
        lt : (a b : ℕ) → nat_lt a b ≡ true → a < b
        lt a b e = grind (arith, nat_tests, e)

        le : (a b : ℕ) → nat_lt a b ≡ false → b ≤ a
        le a b e = grind (arith, nat_tests, e)

        more : (a b z : ℕ) → a < b → b ≤ z → a < z
        more a b z e h = omega (arith, e, h)

        by_sender : length n.frames < k → Sender n m → t.sent k ≤ bound + 3 * lag
        by_sender later s =
            subst (λ (z : ℕ). z ≤ bound + 3 * lag) (sym ((on.sent s.router s.event s.station k s.is s.there later k_there).0))
            (by_time (one_router n m low.router below.station below.there))
          where
            then : IsReady low.router (moved n m).1
            then = ready_then low.router n m below

            its : time_at started s.router s.station ≤ time_at started low.router (then).station + lag
            its = after s.router low.router s.station (then).station s.there (then).there

            unmoved : (a b : ℕ) → a ≤ b + lag → b ≤ bound + lag → a ≤ bound + 3 * lag
            unmoved a b e h = omega (arith, e, h)

            own : Steps n m low.router below.station → (let p : ℕ × Event = (s.router, s.event) in Some p) ≡ event_of n m → s.router ≡ low.router
            own w is = grind (arith, is, w.is)

            by_time : (station_at (moved n m).1 low.router ≡ Some below.station) ⊎ Steps n m low.router below.station
                → time_at started s.router s.station ≤ bound + 3 * lag
            by_time (inl same) =
                unmoved (time_at started s.router s.station) (time_at started low.router (then).station) its
                (subst (λ (z : Station). time_at started low.router z ≤ bound + lag) (same_station same (then).there) (early below.station below.there))
            by_time (inr w) =
                let alike : s.router ≡ low.router = own w (sym s.is) in
                subst (λ (q : ℕ). time_at started q s.station ≤ bound + 3 * lag) (sym alike)
                (subst (λ (z : Station). time_at started low.router z ≤ bound + 3 * lag)
                (same_station (then).there (subst (λ (q : ℕ). station_at (moved n m).1 q ≡ Some s.station) alike s.there))
                (soon_then x g started c d lag bound isg soon apart n m below above then before after early))

        go : (b : Bool) → nat_lt (length n.frames) k ≡ b → t.sent k ≤ bound + 3 * lag
        go true later = by_sender (lt (length n.frames) k later) (sender_of n m (more (length n.frames) k _ (lt (length n.frames) k later) k_there))
        go false old = f k new (le (length n.frames) k old)

    -- from when all are past the bound
    module _ (before : ℕ) (sent : SentBy before) where
      -- the lower one's time is past that
      record IsLate (n : Network) : Type 0 where
        station : Station
        there : station_at n low.router ≡ Some station
        over : heard < time_at started low.router station

      late_then : (n : Network) (m : Move) → IsLate n → IsLate (moved n m).1
      late_then n m f = go (one_router n m low.router f.station f.there)
        where
          further : (a b q : ℕ) → a ≤ b → heard < a + q → heard < b + q
          further a b q e h = omega (arith, e, h)

          go : (station_at (moved n m).1 low.router ≡ Some f.station) ⊎ Steps n m low.router f.station → IsLate (moved n m).1
          go (inl same) = record { station = f.station; there = same; over = f.over }
          go (inr w) = record {
            station = record f.station { state = (step (f.station).state w.event).state };
            there = (w.stepped).here;
            over = further ((f.station).state).present ((step (f.station).state w.event).state).present (started low.router)
                (present_later (f.station).state w.event) f.over;
          }

      tells : (came : Arrivals) (n : Network) (number : ℕ) → IsLate n → first ≤ came low.router low.iface → came low.router low.iface < number
          → IsBy started low.router (t.sent number + d) n → before < number
      tells came n number late since later by = go (nat_lt before number) refl
        where
          lt : (a b : ℕ) → nat_lt a b ≡ true → a < b
          lt a b e = grind (arith, nat_tests, e)

          le : (a b : ℕ) → nat_lt a b ≡ false → b ≤ a
          le a b e = grind (arith, nat_tests, e)

          less : (a b z : ℕ) → a ≤ b → b < z → a < z
          less a b z e f = omega (arith, e, f)

          never : (s z : ℕ) → s ≤ bound + 3 * lag → z ≤ s + d → bound + 3 * lag + d < z → ⊥
          never s z e f h = omega (arith, e, f, h)

          go : (b : Bool) → nat_lt before number ≡ b → before < number
          go true is = lt before number is
          go false is =
              absurd (never (t.sent number) (time_at started low.router late.station)
              (sent number (less first (came low.router low.iface) number since later) (le before number is)) (by late.station late.there) late.over)

      later_on : (ms : List Move) (n : Network) (came : Arrivals) → IsCarried d late started t came link members first n ms
          → IsReady low.router n → IsReady up.router n → Always (IsAbove x g c) n ms → EachMove (JoinKeeps x g t c) n ms
          → EachMove (HearsJoins x g c) n ms → Known x g d started t.sent c isg soon before n ms
          → HoldsPastOn started heard (AreInTime x g d started c) n ms
      later_on [] n came f below above there keeps hears known = tt
      later_on (m ∷ ms) n came f below above there keeps hears known = (
        λ past. all_in_time x g d started t.sent c isg soon before ms (moved n m).1 (ready_then up.router n m above) there.1
            (on_link before (λ came n. IsLate n) (λ came n m ms on b. late_then n m b) tells ms (moved n m).1 (arrived came m) on.rest
            (ready_then low.router n m below) (ready_then up.router n m above) keeps.1 hears.1
            (record { station = (then).station; there = (then).there; over = past low.router (then).station (then).there })) known_then,
        later_on ms (moved n m).1 (arrived came m) on.rest (ready_then low.router n m below) (ready_then up.router n m above) there.1 keeps.1 hears.1
            known_then,
      )
        where
          on : IsCarriedOn d late started t came link members first n m ms
          on = carried_on d late started t link members first came n m ms f

          then : IsReady low.router (moved n m).1
          then = ready_then low.router n m below

          known_then : Known x g d started t.sent c isg soon before (moved n m).1 ms
          known_then =
              known_on x g d started t.sent c isg soon before n m ms above there (keeps.0).unpruned
              (others_come came n m ms on keeps.0 keeps.1 hears.1) known

    pub in_time_past : (ms : List Move) (n : Network) (came : Arrivals) → IsCarried d late started t came link members first n ms
        → IsReady low.router n → IsReady up.router n → Always (IsAbove x g c) n ms → EachMove (JoinKeeps x g t c) n ms
        → HoldsPastOn started bound (EachMove (HearsJoins x g c)) n ms → Always (AreTogether lag started) n ms → SentBy (length n.frames)
        → IsBy started low.router (bound + lag) n → HoldsPastOn started heard (AreInTime x g d started c) n ms
    in_time_past [] n came f below above there keeps hears together sent early = tt
    in_time_past (m ∷ ms) n came f below above there keeps hears together sent early = (
      λ past. absurd (never (time_at started low.router (then).station) so_far (past low.router (then).station (then).there)),
      go (in_time_past ms (moved n m).1 (arrived came m) on.rest then (ready_then up.router n m above) there.1 keeps.1 hears.1 together.1 sent_now)
          (nat_le (time_at started low.router (then).station) (bound + lag)) refl,
    )
      where
        on : IsCarriedOn d late started t came link members first n m ms
        on = carried_on d late started t link members first came n m ms f

        then : IsReady low.router (moved n m).1
        then = ready_then low.router n m below

        now : AreTogether lag started (moved n m).1
        now = first_of (AreTogether lag started) (moved n m).1 ms together.1

        so_far : time_at started low.router (then).station ≤ bound + 3 * lag
        so_far = soon_then x g started c d lag bound isg soon apart n m below above then together.0 now early

        never : (z : ℕ) → z ≤ bound + 3 * lag → bound + 3 * lag + d < z → ⊥
        never z e f = omega (arith, e, f)

        sent_now : SentBy (length ((moved n m).1).frames)
        sent_now = sent_then came n m ms on below above together.0 now early sent

        le : (a b : ℕ) → nat_le a b ≡ true → a ≤ b
        le a b e = grind (arith, nat_tests, e)

        lt : (a b : ℕ) → nat_le a b ≡ false → b < a
        lt a b e = grind (arith, nat_tests, e)

        go : (IsBy started low.router (bound + lag) (moved n m).1 → HoldsPastOn started heard (AreInTime x g d started c) (moved n m).1 ms)
            → (b : Bool) → nat_le (time_at started low.router (then).station) (bound + lag) ≡ b
            → HoldsPastOn started heard (AreInTime x g d started c) (moved n m).1 ms
        go later true is =
            later (λ st at. subst (λ (z : Station). time_at started low.router z ≤ bound + lag) (same_station (then).there at) (le _ _ is))
        go later false is =
            let over : OverNow (moved n m).1 = record { station = (then).station; there = (then).there; over = lt _ _ is } in
            later_on (length ((moved n m).1).frames) sent_now ms (moved n m).1 (arrived came m) on.rest then (ready_then up.router n m above) there.1
            keeps.1 (hears.0 (all_past x g started c d lag bound isg soon apart (moved n m).1 now over))
            (none_known x g d started t.sent c isg soon (moved n m).1 ms)
