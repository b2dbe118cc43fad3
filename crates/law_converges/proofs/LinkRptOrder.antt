-- No Prune(S,G,rpt) that is overridden in order takes effect: while it waits, the answer is due at the lower router, or is on
-- its way, and comes sooner.
use Rattle.std.{proofs.{Common.{Bool, List, None, Ok, Option, Some, [], ap, arith, eq-eqb, false, inl, inr, is_none, length, max, nat_le, nat_lt, refl, subst, sym, true, ℕ, ◌&&◌, ◌*◌, ◌+◌, ◌<◌, ◌==◌, ◌∙◌, ◌∷◌, ◌≡◌, ◌≤◌, ◌⊎◌}, lemmas.{Bool.{Decides.nat_tests, both_ways}, List.Elements.All-nil}}, specs.{List.Contains, Option.option_map_or}}
use Rattle.pim_types.{proofs.Keys.same_key_same, specs.{Keys.rpt_key, declared.{config.IfaceId.IfaceId, event.{Event.Event, EventKind.EventKind}, fact.DownstreamRow.DownstreamRow}}}
use Rattle.pim_wire.{specs.{Values.JoinPrune, declared.join_prune.EntryKind.EntryKind}}
use Rattle.pim_model.{specs.{Cause.done_as, Downstream.{accepted_joins, accepted_prunes, holdtime_end, is_accepted, is_named, joined_keys, pruned_keys}, Judging.judged, Messages.entry, Neighbours.effective_override_interval, Network.{Deliver, Move, Network, Sent, Station, bad_move, event_of, frame_at, moved, moved_at, station_at}, Sets.prunes, State.State, Step.step, Tables.row_at, declared.accepted.Accepted.Accepted}}
use Rattle.law_settled.{specs.Ready.IsSettled}
use Rattle.law_events.{specs.Rest.IsAtRest}
use Rattle.law_streams.{proofs.{Deliveries.{IsNewOn, IsStepped, is_delivered, is_stepped}, Pairs.{Steps, frame_stays, one_router, ready_then, same_station}, Passes.done_if, ReadBack.join_is_read, Shared.{none_behind, there_before}, Upper.moves_on}, specs.{Copies.happens, InTimeJoins.{Always, IsBy, IsReady, time_at}, Joins.{IsWritable, join_value}}}
use Rattle.law_converges.{proofs.{LinkRptLower.{answer_comes, seen_prune_is_answered}, LinkRptUpper.{join_overrides, prune_waits}, LinkRptWaits.{prune_waits_on, unpruned_stays}, TakesOver.moved_so}, specs.{LinkRpt.{AnswersBy, Throughout, WaitsIn, WaitsOrIsGone, WantsFrom, is_pruned_by, joins_source, may_take_effect, override_packet, override_to, override_wait, sees_join}, LinkRptOrder.{AreInOrder, AreOnTime, Begins, Brings, GoesOn, IsOverridable, IsOverride, IsUnpruned, JoinComes, JoinIsSeen, NoneComes, OverriddenPruneHasNoEffect, PruneComes, PruneIsSeen, Wire}}}

-- ---- numbers

le_self : (a : ℕ) → a ≤ a
le_self a = omega arith

le_trans : {a b d : ℕ} → a ≤ b → b ≤ d → a ≤ d
le_trans e g = omega (arith, e, g)

le_lt : {a b d : ℕ} → a ≤ b → b < d → a < d
le_lt e g = omega (arith, e, g)

lt_le : {a b : ℕ} → a < b → a ≤ b
lt_le e = omega (arith, e)

not_lt : {a b : ℕ} → a < b → b ≤ a → ⊥
not_lt e g = omega (arith, e, g)

lt_so : (a b : ℕ) → nat_lt a b ≡ true → a < b
lt_so a b e = grind (arith, nat_tests, e)

le_so : (a b : ℕ) → nat_lt a b ≡ false → b ≤ a
le_so a b e = grind (arith, nat_tests, e)

le_le : (a b : ℕ) → a ≤ b → b ≤ a → a ≡ b
le_le a b e g = omega (arith, e, g)

before : (a b : ℕ) → b < a → nat_le a b ≡ false
before a b lt = grind (arith, nat_tests, lt)

left_false : (a b : Bool) → a ≡ false → (a && b) ≡ false
left_false a b e = grind arith

right_false : (a b : Bool) → b ≡ false → (a && b) ≡ false
right_false a b e = grind arith

soon_so : (t now row end start late limit : ℕ) → t ≤ now → now ≤ row + start + late → row ≤ end → end + start ≤ limit → t ≤ limit + late
soon_so t now row end start late limit e g h i = omega (arith, e, g, h, i)

early_so : (present start b sent within interval late propagation end : ℕ) → present + start ≤ b → b ≤ sent + within + interval + late + within
    → 2 * within + late < propagation → sent + propagation + interval ≤ end + start → present < end
early_so present start b sent within interval late propagation end e g h i = omega (arith, e, g, h, i)

due_so : (row end start late limit within : ℕ) → row ≤ end → end + start ≤ limit → row + start + late ≤ limit + late + within
due_so row end start late limit within e g = omega (arith, e, g)

plus_so : (a b d : ℕ) → a ≤ b → a + d ≤ b + d
plus_so a b d e = omega (arith, e)

first_so : (sent within interval late : ℕ) → sent + within ≤ sent + within + interval + late + within
first_so sent within interval late = omega arith

long_so : (sent present start propagation interval wait : ℕ) → sent ≤ present + start → propagation + interval ≤ wait
    → sent + propagation + interval ≤ present + wait + start
long_so sent present start propagation interval wait e g = omega (arith, e, g)

limit_so : (present start sent within effective interval : ℕ) → present + start ≤ sent + within → effective ≤ interval → 1 ≤ interval
    → present + max 1 effective + start ≤ sent + within + interval
limit_so present start sent within effective interval e g h = grind (arith, e, g, h)

-- ---- frames

pub there_is : (n : Network) (k : ℕ) (f : Sent) → frame_at n k ≡ Some f → k ≤ length n.frames
there_is n k f is = go (nat_lt (length n.frames) k) refl
  where
    go : (b : Bool) → nat_lt (length n.frames) k ≡ b → k ≤ length n.frames
    go true lt = absurd (none_behind n k f (lt_so (length n.frames) k lt) is)
    go false le = le_so (length n.frames) k le

-- ---- frames are never fewer

grow_at : (n : Network) (e : ℕ × Event) (o : Option Station) → station_at n e.0 ≡ o → length n.frames ≤ length ((moved_at n e).1).frames
unfolding moved_at
grow_at n e None is = rw is (le_self (length n.frames))
grow_at n e (Some st) is = rw is (is_stepped n e.0 st e.1 is).grows

pub frames_grow : (n : Network) (m : Move) → length n.frames ≤ length ((moved n m).1).frames
unfolding moved
frames_grow n m = go (event_of n m)
  where
    go : (o : Option (ℕ × Event)) → length n.frames ≤ length ((option_map_or (moved_at n) o (bad_move, n)).1).frames
    go None = le_self (length n.frames)
    go (Some e) = grow_at n e (station_at n e.0) refl

-- a delivery is an event at its router alone
delivered_there : (n : Network) (r i k draw q : ℕ) (e : Event) → event_of n (Deliver r i k draw) ≡ Some (q, e) → q ≡ r
unfolding event_of
delivered_there n r i k draw q e is = grind arith

same_event : (q : ℕ) (e e' : Event) → ◌≡◌ {A = Option (ℕ × Event)} (Some (q, e)) (Some (q, e')) → e ≡ e'
same_event q e e' is = grind arith

-- what holds throughout an event holds after it
wants_at_end : (P : State → Type 0) (s : State) (e : Event) (o : Option Accepted) → Throughout P s e o → P (step s e).state
wants_at_end P s e None f = f
wants_at_end P s e (Some (Accepted.Advance moment)) f = f.1
wants_at_end P s e (Some a) f = f

module _ (x : Wire) where
  abbrev lower : ℕ
  lower = (x.pair).lower

  abbrev upper : ℕ
  upper = (x.pair).upper

  abbrev Wants : State → Type 0
  Wants s = WantsFrom x.group x.source (x.pair).hop (x.pair).from s

  override_stays : (n : Network) (m : Move) (k : ℕ) → IsOverride x n k → IsOverride x (moved n m).1 k
  override_stays n m k f = record { from = f.from; is = frame_stays n m k _ f.is }

  override_before : (n : Network) (m : Move) (k : ℕ) → k ≤ length n.frames → IsOverride x (moved n m).1 k → IsOverride x n k
  override_before n m k le f = record { from = f.from; is = there_before n m k _ le f.is }

  -- ---- what holds at each time

  -- a Prune waits at the upper router: that of a frame, since which no Join(S,G,rpt) came
  record Pending (up : ℕ) (n : Network) (s : State) : Type 0 where
    end : ℕ
    waits : WaitsIn end (row_at s.downstream (rpt_key (x.pair).down x.group x.source))
    by : ℕ
    came : by ≤ up
    prunes : x.prunes by ≡ true
    long : x.sent by + x.propagation + x.interval ≤ end + x.started (x.pair).upper
    none_since : (k : ℕ) → by < k → k ≤ up → IsOverride x n k → ⊥

  abbrev Row : ℕ → Network → State → Type 0
  Row up n s = (row_at s.downstream (rpt_key (x.pair).down x.group x.source) ≡ None) ⊎ Pending up n s

  -- the answer to a Prune is due
  record Due (by : ℕ) (n : Network) : Type 0 where
    station : Station
    there : station_at n (x.pair).lower ≡ Some station
    end : ℕ
    answers : AnswersBy x.group x.source end station.state
    soon : end + x.started (x.pair).lower ≤ x.sent by + x.within + x.interval

  -- it is on its way
  record Coming (up by : ℕ) (n : Network) : Type 0 where
    number : ℕ
    later : by < number
    ahead : up < number
    is : IsOverride x n number
    soon : x.sent number ≤ x.sent by + x.within + x.interval + x.late

  abbrev Answered : (up by : ℕ) → Network → Type 0
  Answered up by n = Due by n ⊎ Coming up by n

  -- each Prune that the lower router saw, and since which no Join(S,G,rpt) came to the upper one, is answered
  abbrev AllAnswered : (up low : ℕ) → Network → Type 0
  AllAnswered up low n = (by : ℕ) → by ≤ low → x.prunes by ≡ true → ((k : ℕ) → by < k → k ≤ up → IsOverride x n k → ⊥) → Answered up by n

  record Holds (up low : ℕ) (n : Network) : Type 0 where
    up_there : up ≤ length n.frames
    low_there : low ≤ length n.frames
    above : Station
    above_is : station_at n (x.pair).upper ≡ Some above
    ready : IsReady (x.pair).upper n
    row : Row up n above.state
    below : Station
    below_is : station_at n (x.pair).lower ≡ Some below
    wants : Wants below.state
    answered : AllAnswered up low n
    on_time : AreOnTime x up low n

  is_unpruned : (up low : ℕ) (n : Network) → Holds up low n → IsUnpruned x n
  unfolding prunes
  is_unpruned up low n f = record { station = f.above; there = f.above_is; unpruned = go f.row }
    where
      go : Row up n (f.above).state → prunes (f.above).state x.group x.source (x.pair).down ≡ false
      go (inl none) = ap (λ (o : Option DownstreamRow). option_map_or (λ (r : DownstreamRow). is_none r.pending) o false) none
      go (inr p) =
          ap (λ (o : Option DownstreamRow). option_map_or (λ (r : DownstreamRow). is_none r.pending) o false) (p.waits).found
          ∙ ap (λ (o : Option ℕ). is_none o) (p.waits).pending

  -- ---- a move

  module _ (apart : ((x.pair).lower == (x.pair).upper) ≡ false) (isg : IsOverridable x) (few : 2 * x.within + x.late < x.propagation) (some : 1 ≤ x.interval)
      (up low : ℕ) (n : Network) (m : Move) (f : Holds up low n) (goes : GoesOn x n m) where
    abbrev after : Network
    after = (moved n m).1

    steps_so : (r : ℕ) (e : Event) (st : Station) → event_of n m ≡ Some (r, e) → station_at n r ≡ Some st → IsStepped n r st e after
    steps_so r e st is there =
        subst (λ (y : Network). IsStepped n r st e y) (sym (moved_so n m r e st is there)) (is_stepped n r st e there)

    grown : (k : ℕ) → k ≤ length n.frames → k ≤ length (after).frames
    grown k le = le_trans le (frames_grow n m)

    -- ---- the lower router

    abbrev QuietBelow : Type 0
    QuietBelow = (e : Event) (st : Station) → event_of n m ≡ Some (lower, e) → station_at n lower ≡ Some st
        → sees_join x.group x.source (x.pair).hop st.state (done_as (happens st.state e)) ≡ false

    record Below : Type 0 where
      station : Station
      is : station_at after (x.pair).lower ≡ Some station
      wants : Wants station.state

    below_then : Below
    below_then = go (one_router n m lower f.below f.below_is)
      where
        go : (station_at after lower ≡ Some f.below) ⊎ Steps n m lower f.below → Below
        go (inl same) = record { station = f.below; is = same; wants = f.wants }
        go (inr w) = record {
          station = record f.below { state = (step (f.below).state w.event).state };
          is = (w.stepped).here;
          wants = wants_at_end Wants (f.below).state w.event (done_as (happens (f.below).state w.event)) (goes.wants w.event f.below w.is f.below_is);
        }

    module _ (by up' : ℕ) (up_le : up' ≤ length n.frames) (by_le : by ≤ length n.frames) (due : Due by n) where
      abbrev here : Station
      here = due.station

      here_wants : Wants (here).state
      here_wants = subst (λ (z : Station). Wants z.state) (same_station f.below_is due.there) f.wants

      -- what is sent by the end of the timer is sent soon
      sent_soon : (number : ℕ) → ((st : Station) → station_at after lower ≡ Some st → x.sent number ≤ time_at x.started lower st)
          → x.sent number ≤ x.sent by + x.within + x.interval + x.late
      sent_soon number sends =
          soon_so (x.sent number) (time_at x.started lower (below_then).station) ((due.answers).row).end due.end (x.started lower) x.late
          (x.sent by + x.within + x.interval) (sends (below_then).station (below_then).is)
          ((goes.timer here (due.answers).row due.there (due.answers).found).0 (below_then).station (below_then).is)
          (due.answers).by due.soon

      new_comes : (e : Event) → event_of n m ≡ Some (lower, e)
          → IsNewOn n after (x.pair).link (override_packet x.group x.source (x.pair).hop (x.pair).from) → Coming up' by after
      new_comes e is new = record {
        number = (new.on).number;
        later = le_lt by_le new.later;
        ahead = le_lt up_le new.later;
        is = record { from = (x.pair).from; is = (new.on).is };
        soon = sent_soon (new.on).number (λ st at. goes.sends e st (new.on).number is at new.later (there_is after (new.on).number _ (new.on).is));
      }

      -- what is due is due yet, or is on its way
      due_then : QuietBelow → Answered up' by after
      due_then quiet = go (one_router n m lower here due.there)
        where
          by_event : (w : Steps n m lower here) → AnswersBy x.group x.source due.end (step (here).state w.event).state
              ⊎ Contains (step (here).state w.event).emissions (override_to x.group x.source (x.pair).hop (x.pair).from) → Answered up' by after
          by_event w (inl answers) = inl (record {
            station = record here { state = (step (here).state w.event).state };
            there = (w.stepped).here;
            end = due.end;
            answers = answers;
            soon = due.soon;
          })
          by_event w (inr c) =
              inr (new_comes w.event w.is
              ((w.stepped).sent ((x.pair).hop).iface.number (x.pair).link
              (override_packet x.group x.source (x.pair).hop (x.pair).from) (goes.linked here due.there) c))

          go : (station_at after lower ≡ Some here) ⊎ Steps n m lower here → Answered up' by after
          go (inl same) = inl (record { station = here; there = same; end = due.end; answers = due.answers; soon = due.soon })
          go (inr w) =
              by_event w
              (answer_comes (here).state w.event x.group x.source (x.pair).from due.end (x.pair).hop here_wants
              (goes.wants w.event here w.is due.there) (quiet w.event here w.is due.there) due.answers)

    abbrev NoneSince : (up' by : ℕ) → Type 0
    NoneSince up' by = (k : ℕ) → by < k → k ≤ up' → IsOverride x after k → ⊥

    coming_then : (up' by : ℕ) → NoneSince up' by → Coming up by n → Coming up' by after
    coming_then up' by none g = go (nat_lt up' g.number) refl
      where
        go : (b : Bool) → nat_lt up' g.number ≡ b → Coming up' by after
        go true is = record {
          number = g.number;
          later = g.later;
          ahead = lt_so up' g.number is;
          is = override_stays n m g.number g.is;
          soon = g.soon;
        }
        go false is = absurd (none g.number g.later (le_so up' g.number is) (override_stays n m g.number g.is))

    was_answered : (up' by : ℕ) → up ≤ up' → by ≤ low → x.prunes by ≡ true → NoneSince up' by → Answered up by n
    was_answered up' by le by_low prunes none =
        f.answered by by_low prunes (λ k lt k_le o. none k lt (le_trans k_le le) (override_stays n m k o))

    -- each Prune that was seen before is answered
    answered_then : QuietBelow → (up' : ℕ) → up ≤ up' → up' ≤ length n.frames → (by : ℕ) → by ≤ low → x.prunes by ≡ true
        → NoneSince up' by → Answered up' by after
    answered_then quiet up' le up_le by by_low prunes none = go (was_answered up' by le by_low prunes none)
      where
        go : Answered up by n → Answered up' by after
        go (inl due) = due_then by up' up_le (le_trans by_low f.low_there) due quiet
        go (inr g) = inr (coming_then up' by none g)

    -- ---- the upper router

    abbrev s : State
    s = (f.above).state

    settled : IsSettled s
    settled = (subst (λ (z : Station). IsAtRest z.state) (same_station (f.ready).there f.above_is) (f.ready).at_rest).settled

    record Above (up' : ℕ) : Type 0 where
      station : Station
      is : station_at after (x.pair).upper ≡ Some station
      row : Row up' after station.state

    -- the Prune that waits goes on to wait, with the frames so far
    waits_then : (t : State) (up' : ℕ) (p : Pending up n s) → up ≤ up' → up' ≤ length n.frames
        → ((k : ℕ) → up < k → k ≤ up' → IsOverride x n k → ⊥)
        → WaitsOrIsGone p.end (row_at t.downstream (rpt_key (x.pair).down x.group x.source)) → Row up' after t
    waits_then t up' p le up_le none (inl gone) = inl gone
    waits_then t up' p le up_le none (inr waits) = inr (record {
      end = p.end;
      waits = waits;
      by = p.by;
      came = le_trans p.came le;
      prunes = p.prunes;
      long = p.long;
      none_since = since;
    })
      where
        since : (k : ℕ) → p.by < k → k ≤ up' → IsOverride x after k → ⊥
        since k lt k_le o = go (nat_lt up k) refl (override_before n m k (le_trans k_le up_le) o)
          where
            go : (b : Bool) → nat_lt up k ≡ b → IsOverride x n k → ⊥
            go true is h = none k (lt_so up k is) k_le h
            go false is h = p.none_since k lt (le_so up k is) h

    none_yet : (k : ℕ) → up < k → k ≤ up → IsOverride x n k → ⊥
    none_yet k lt le o = not_lt lt le

    same_row : Row up n s → Row up after s
    same_row (inl none) = inl none
    same_row (inr p) = waits_then s up p (le_self up) f.up_there none_yet (inr p.waits)

    -- the time at the upper router is before the Prune takes effect
    module _ (p : Pending up n s) (on : AreOnTime x up low after) where
      early_by : (b : ℕ) → b ≤ x.sent p.by + x.within + x.interval + x.late + x.within → IsBy x.started upper b after
          → (st : Station) → station_at after upper ≡ Some st → (st.state).present < p.end
      early_by b le by st at =
          early_so (st.state).present (x.started upper) b (x.sent p.by) x.within x.interval x.late x.propagation p.end (by st at) le few p.long

      early : (st : Station) → station_at after upper ≡ Some st → (st.state).present < p.end
      early = go (nat_lt low p.by) refl
        where
          by_answer : Answered up p.by n → (st : Station) → station_at after upper ≡ Some st → (st.state).present < p.end
          by_answer (inl due) =
              early_by (((due.answers).row).end + x.started lower + x.late)
              (due_so ((due.answers).row).end due.end (x.started lower) x.late (x.sent p.by + x.within + x.interval) x.within (due.answers).by due.soon)
              (goes.timer due.station (due.answers).row due.there (due.answers).found).1
          by_answer (inr g) =
              early_by (x.sent g.number + x.within) (plus_so (x.sent g.number) _ x.within g.soon)
              (on.joins g.number g.ahead (override_stays n m g.number g.is))

          go : (b : Bool) → nat_lt low p.by ≡ b → (st : Station) → station_at after upper ≡ Some st → (st.state).present < p.end
          go true is =
              early_by (x.sent p.by + x.within) (first_so (x.sent p.by) x.within x.interval x.late)
              (on.prunes p.by (lt_so low p.by is) (grown p.by (le_trans p.came f.up_there)) p.prunes).0
          go false is = by_answer (f.answered p.by (le_so low p.by is) p.prunes p.none_since)

    -- where no Prune comes
    above_then : ((e : Event) (st : Station) → event_of n m ≡ Some (upper, e) → station_at n upper ≡ Some st
        → is_pruned_by (x.pair).down x.group x.source (done_as (happens st.state e)) ≡ false) → AreOnTime x up low after → Above up
    above_then unpruned on = go (one_router n m upper f.above f.above_is)
      where
        no_effect : (e : Event) (p : Pending up n s) → (((step s e).state).present < p.end)
            → is_pruned_by (x.pair).down x.group x.source (done_as (happens s e)) ≡ false
            → (o : Option Accepted) → done_as (happens s e) ≡ o → may_take_effect (x.pair).down x.group x.source p.end s o ≡ false
        no_effect e p soon off None is = refl
        no_effect e p soon off (Some (Accepted.Advance moment)) is =
            before p.end moment (subst (λ (y : ℕ). y < p.end) (moves_on s e moment is) soon)
        no_effect e p soon off (Some (Accepted.JoinPruneToMe j message)) is =
            right_false _ _ (subst (λ (o : Option Accepted). is_pruned_by (x.pair).down x.group x.source o ≡ false) is off)
        no_effect e p soon off (Some a) is = refl

        row_so : (w : Steps n m upper f.above) → Row up n s → Row up after (step s w.event).state
        row_so w (inl none) =
            inl (unpruned_stays s w.event (x.pair).down x.group x.source settled none (unpruned w.event f.above w.is f.above_is))
        row_so w (inr p) =
            waits_then (step s w.event).state up p (le_self up) f.up_there none_yet
            (prune_waits_on s w.event (x.pair).down x.group x.source p.end settled p.waits
            (no_effect w.event p (early p on _ (w.stepped).here) (unpruned w.event f.above w.is f.above_is) (done_as (happens s w.event)) refl))

        go : (station_at after upper ≡ Some f.above) ⊎ Steps n m upper f.above → Above up
        go (inl same) = record { station = f.above; is = same; row = same_row f.row }
        go (inr w) = record { station = record f.above { state = (step s w.event).state }; is = (w.stepped).here; row = row_so w f.row }

    -- ---- what holds after the move

    holds_then : (up' low' : ℕ) → up' ≤ length n.frames → low' ≤ length n.frames → Above up' → AllAnswered up' low' after
        → AreOnTime x up' low' after → Holds up' low' after
    holds_then up' low' up_le low_le above answered on = record {
      up_there = grown up' up_le;
      low_there = grown low' low_le;
      above = above.station;
      above_is = above.is;
      ready = ready_then upper n m f.ready;
      row = above.row;
      below = (below_then).station;
      below_is = (below_then).is;
      wants = (below_then).wants;
      answered = answered;
      on_time = on;
    }

    -- a delivery to one of them is no event at the other
    to_upper : (number draw : ℕ) → m ≡ Deliver upper (x.pair).down number draw → QuietBelow
    to_upper number draw is e st at there =
        absurd (both_ways (lower == upper) apart (eq-eqb lower upper
        (delivered_there n upper (x.pair).down number draw lower e (subst (λ (y : Move). event_of n y ≡ Some (lower, e)) is at))))

    to_lower : (number draw : ℕ) → m ≡ Deliver lower ((x.pair).hop).iface.number number draw → (e : Event) → event_of n m ≡ Some (upper, e) → ⊥
    to_lower number draw is e at =
        both_ways (lower == upper) apart (eq-eqb lower upper
        (sym (delivered_there n lower ((x.pair).hop).iface.number number draw upper e (subst (λ (y : Move). event_of n y ≡ Some (upper, e)) is at))))

    above_still : ((e : Event) → event_of n m ≡ Some (upper, e) → ⊥) → Above up
    above_still none = go (one_router n m upper f.above f.above_is)
      where
        go : (station_at after upper ≡ Some f.above) ⊎ Steps n m upper f.above → Above up
        go (inl same) = record { station = f.above; is = same; row = same_row f.row }
        go (inr w) = absurd (none w.event w.is)

    -- ---- a Prune comes to the upper router

    module _ (up' : ℕ) (b : PruneComes x up up' n m) where
      same_above : b.station ≡ f.above
      same_above = same_station b.at f.above_is

      abbrev t : State
      t = (step (b.station).state b.event).state

      prune_row : Row up n (b.station).state → Row up' after t
      prune_row (inl none) = inr (record {
        end = ((b.station).state).present + override_wait (b.station).state (x.pair).down;
        waits = record {
          row = record { expiry = holdtime_end (b.station).state (b.message).holdtime; pending = Some (((b.station).state).present + override_wait (b.station).state (x.pair).down) };
          found = prune_waits (b.station).state b.event (record { number = (x.pair).down }) b.message x.group x.source b.taken b.named b.lasts b.many none;
          pending = refl;
        };
        by = up';
        came = le_self up';
        prunes = b.prunes;
        long = long_so (x.sent up') ((b.station).state).present (x.started upper) x.propagation x.interval
            (override_wait (b.station).state (x.pair).down) b.after b.waits;
        none_since = λ k lt le o. not_lt lt le;
      })
      prune_row (inr p) = go (subst (λ (z : Station). Pending up n z.state) same_above p)
        where
          go : Pending up n s → Row up' after t
          go q =
              waits_then t up' q (lt_le b.later) b.there b.none_between
              (subst (λ (z : Station). WaitsOrIsGone q.end (row_at (step z.state b.event).state.downstream (rpt_key (x.pair).down x.group x.source))) (sym same_above)
              (prune_waits_on s b.event (x.pair).down x.group x.source q.end settled q.waits
              (ap (may_take_effect (x.pair).down x.group x.source q.end s)
              (subst (λ (z : Station). done_as (happens z.state b.event) ≡ Some (Accepted.JoinPruneToMe (record { number = (x.pair).down }) b.message)) same_above b.taken)
              ∙ left_false _ _ (subst (λ (z : Station). joins_source z.state (x.pair).down x.group x.source b.message ≡ false) same_above b.unjoined))))

      prune_comes : AreOnTime x up' low after → Holds up' low after
      prune_comes on =
          holds_then up' low b.there f.low_there
          (record {
            station = record b.station { state = t };
            is = (steps_so upper b.event b.station b.brought b.at).here;
            row = prune_row (subst (λ (z : Station). Row up n z.state) (sym same_above) f.row);
          })
          (answered_then (to_upper up' b.draw b.is) up' (lt_le b.later) b.there) on

    -- ---- a Join(S,G,rpt) comes to the upper router

    module _ (up' : ℕ) (b : JoinComes x up up' n m) where
      abbrev at_down : IfaceId
      at_down = record { number = (x.pair).down }

      abbrev value : JoinPrune
      value = join_value ((x.pair).hop).address.bits x.group (entry EntryKind.SourceRpt x.source) []

      abbrev bytes : List ℕ
      bytes = override_packet x.group x.source (x.pair).hop (b.override).from

      abbrev comes : Event
      comes = record { draw = b.draw; kind = EventKind.Frame at_down bytes }

      writable : IsWritable (b.override).from ((x.pair).hop).address.bits x.group (entry EntryKind.SourceRpt x.source) []
      writable = record {
        from_host = b.of_host;
        to_fits = isg.to_fits;
        to_group = isg.of_group;
        of_host = isg.of_host;
        of_hosts = All-nil _;
        few = omega arith;
      }

      judged_so : judged (b.station).state (comes).kind ≡ Ok (Accepted.JoinPruneToMe at_down value)
      judged_so = grind (arith, join_is_read, b.own, writable, b.hears)

      taken_so : done_as (happens (b.station).state comes) ≡ Some (Accepted.JoinPruneToMe at_down value)
      taken_so = done_if (b.station).state comes (Accepted.JoinPruneToMe at_down value) judged_so b.room

      joined_so : joined_keys (b.station).state (x.pair).down value ≡ rpt_key (x.pair).down x.group x.source ∷ []
      unfolding joined_keys accepted_joins is_accepted
      joined_so = rw (isg.goes_far, isg.general) refl

      is_joined : is_named (joined_keys (b.station).state (x.pair).down value) (rpt_key (x.pair).down x.group x.source) ≡ true
      unfolding is_named
      is_joined = grind (arith, joined_so, same_key_same)

      isnt_pruned : is_named (pruned_keys (x.pair).down value) (rpt_key (x.pair).down x.group x.source) ≡ false
      unfolding pruned_keys accepted_prunes is_named
      isnt_pruned = refl

      join_gone : row_at (step (b.station).state comes).state.downstream (rpt_key (x.pair).down x.group x.source) ≡ None
      join_gone = join_overrides (b.station).state comes at_down value x.group x.source taken_so is_joined isnt_pruned

      join_steps : IsStepped n upper b.station comes after
      join_steps =
          subst (λ (y : Move). IsStepped n upper b.station comes (moved n y).1) (sym b.is)
          (is_delivered n upper b.station (x.pair).down up' b.draw (x.pair).link bytes b.at b.linked (b.override).is)

      join_comes : AreOnTime x up' low after → Holds up' low after
      join_comes on =
          holds_then up' low b.there f.low_there
          (record {
            station = record b.station { state = (step (b.station).state comes).state };
            is = (join_steps).here;
            row = inl join_gone;
          })
          (answered_then (to_upper up' b.draw b.is) up' (lt_le b.later) b.there) on

    -- ---- a Prune comes to the lower router

    module _ (low' : ℕ) (b : PruneIsSeen x low low' n m) where
      same_below : b.station ≡ f.below
      same_below = same_station b.at f.below_is

      quiet_prune : QuietBelow
      quiet_prune e st at there =
          subst (λ (y : Event). sees_join x.group x.source (x.pair).hop st.state (done_as (happens st.state y)) ≡ false) (same_event lower b.event e (sym b.brought ∙ at))
          (subst (λ (z : Station). sees_join x.group x.source (x.pair).hop z.state (done_as (happens z.state b.event)) ≡ false) (same_station b.at there)
          (ap (sees_join x.group x.source (x.pair).hop (b.station).state) b.taken ∙ right_false _ _ b.unjoined))

      abbrev limit : ℕ
      limit = ((b.station).state).present + max 1 (effective_override_interval (b.station).state ((x.pair).hop).iface.number)

      prune_answered : AnswersBy x.group x.source limit (step (b.station).state b.event).state
      prune_answered =
          seen_prune_is_answered (b.station).state b.event b.message x.group x.source (x.pair).from (x.pair).hop b.taken b.to b.named
          (subst (λ (z : Station). Wants z.state) (sym same_below) f.wants)
          (wants_at_end Wants (b.station).state b.event (done_as (happens (b.station).state b.event)) (goes.wants b.event b.station b.brought b.at))

      now_due : Due low' after
      now_due = record {
        station = record b.station { state = (step (b.station).state b.event).state };
        there = (steps_so lower b.event b.station b.brought b.at).here;
        end = limit;
        answers = prune_answered;
        soon = limit_so ((b.station).state).present (x.started lower) (x.sent low') x.within
            (effective_override_interval (b.station).state ((x.pair).hop).iface.number) x.interval
            (((f.on_time).prunes low' b.later b.there b.prunes).1 b.station b.at) b.interval some;
      }

      all_answered : AllAnswered up low' after
      all_answered by le prunes none = go (nat_lt low by) refl (nat_lt by low') refl
        where
          go : (p : Bool) → nat_lt low by ≡ p → (q : Bool) → nat_lt by low' ≡ q → Answered up by after
          go false old q is =
              answered_then quiet_prune up (le_self up) f.up_there by (le_so low by old) prunes none
          go true new true is = absurd (both_ways (x.prunes by) (b.none_between by (lt_so low by new) (lt_so by low' is)) prunes)
          go true new false is = inl (subst (λ (y : ℕ). Due y after) (le_le low' by (le_so by low' is) le) now_due)

      prune_is_seen : AreOnTime x up low' after → Holds up low' after
      prune_is_seen on = holds_then up low' f.up_there b.there (above_still (to_lower low' b.draw b.is)) all_answered on

    -- ---- a Join(S,G,rpt) of another comes to the lower router

    module _ (low' : ℕ) (b : JoinIsSeen x low low' n m) where
      its_answer : (by : ℕ) → by ≤ low → x.prunes by ≡ true → NoneSince up by → Answered up by after
      its_answer by le prunes none = go (was_answered up by (le_self up) le prunes none)
        where
          due : Due by n → (q : Bool) → nat_lt up low' ≡ q → Answered up by after
          due d true is = inr (record {
            number = low';
            later = le_lt le b.later;
            ahead = lt_so up low' is;
            is = override_stays n m low' b.override;
            soon = sent_soon by up f.up_there (le_trans le f.low_there) d low' b.after;
          })
          due d false is = absurd (none low' (le_lt le b.later) (le_so up low' is) (override_stays n m low' b.override))

          go : Answered up by n → Answered up by after
          go (inl d) = due d (nat_lt up low') refl
          go (inr g) = inr (coming_then up by none g)

      still_answered : AllAnswered up low' after
      still_answered by le prunes none = go (nat_lt low by) refl
        where
          go : (p : Bool) → nat_lt low by ≡ p → Answered up by after
          go false old = its_answer by (le_so low by old) prunes none
          go true new = absurd (both_ways (x.prunes by) (b.none_between by (lt_so low by new) le) prunes)

      join_is_seen : AreOnTime x up low' after → Holds up low' after
      join_is_seen on = holds_then up low' f.up_there b.there (above_still (to_lower low' b.draw b.is)) still_answered on

    -- ---- nothing of these

    none_comes : NoneComes x n m → AreOnTime x up low after → Holds up low after
    none_comes b on =
        holds_then up low f.up_there f.low_there (above_then b.unpruned on)
        (answered_then b.unjoined up (le_self up) f.up_there) on

    move_holds : (up' low' : ℕ) → Brings x up low up' low' n m → AreOnTime x up' low' after → Holds up' low' after
    move_holds up' low' (inl (b, same)) on =
        subst (λ (l : ℕ). Holds up' l after) (sym same) (prune_comes up' b (subst (λ (l : ℕ). AreOnTime x up' l after) same on))
    move_holds up' low' (inr (inl (b, same))) on =
        subst (λ (l : ℕ). Holds up' l after) (sym same) (join_comes up' b (subst (λ (l : ℕ). AreOnTime x up' l after) same on))
    move_holds up' low' (inr (inr (inl (b, same)))) on =
        subst (λ (u : ℕ). Holds u low' after) (sym same) (prune_is_seen low' b (subst (λ (u : ℕ). AreOnTime x u low' after) same on))
    move_holds up' low' (inr (inr (inr (inl (b, same))))) on =
        subst (λ (u : ℕ). Holds u low' after) (sym same) (join_is_seen low' b (subst (λ (u : ℕ). AreOnTime x u low' after) same on))
    move_holds up' low' (inr (inr (inr (inr (b, same_up, same_low))))) on =
        subst (λ (u : ℕ). Holds u low' after) (sym same_up)
        (subst (λ (l : ℕ). Holds up l after) (sym same_low)
        (none_comes b (subst (λ (l : ℕ). AreOnTime x up l after) same_low (subst (λ (u : ℕ). AreOnTime x u low' after) same_up on))))

  -- ---- all moves

  module _ (apart : ((x.pair).lower == (x.pair).upper) ≡ false) (isg : IsOverridable x) (few : 2 * x.within + x.late < x.propagation) (some : 1 ≤ x.interval) where
    all_unpruned : (ms : List Move) (up low : ℕ) (n : Network) → Holds up low n → AreInOrder x up low n ms → Always (IsUnpruned x) n ms
    all_unpruned [] up low n f order = is_unpruned up low n f
    all_unpruned (m ∷ ms) up low n f order = (
      is_unpruned up low n f,
      all_unpruned ms (order.0).up_then (order.0).low_then (moved n m).1
          (move_holds apart isg few some up low n m f (order.0).goes_on (order.0).up_then (order.0).low_then (order.0).brings (order.0).on_time)
          order.1,
    )

  begin : (n : Network) → Begins x n → Holds (length n.frames) (length n.frames) n
  begin n b = record {
    up_there = le_self (length n.frames);
    low_there = le_self (length n.frames);
    above = b.above;
    above_is = b.above_is;
    ready = b.ready;
    row = inl b.no_info;
    below = b.below;
    below_is = b.below_is;
    wants = b.wants;
    answered = λ by le prunes none. absurd (both_ways (x.prunes by) (b.none by le) prunes);
    on_time = record {
      joins = λ k lt o. absurd (none_behind n k _ lt o.is);
      prunes = λ k lt le prunes. absurd (not_lt lt le);
    };
  }

pub overridden_prune_has_no_effect : OverriddenPruneHasNoEffect
overridden_prune_has_no_effect x n ms isg few some b order =
    all_unpruned x b.apart isg few some ms (length n.frames) (length n.frames) n (begin x n b) order
