-- While its Joins come in time a stream goes on.
use Rattle.std.{proofs.{Common.{◌≡◌, ℕ, ◌<◌, ◌==◌, nat_le, ◌&&◌, ◌||◌, not, Bool, true, false, List, [], ◌∷◌, ◌⊎◌, inl, inr, Option, Some, None, is_some, refl, ap, subst, arith}, lemmas.Bool.Decides.nat_tests}}
use Rattle.pim_types.{specs.{Keys.{rpt_key, source_key, star_key}, declared.event.Event.Event}}
use Rattle.pim_model.{specs.{declared.accepted.Accepted.Accepted, Cause.done_as, Network.{Move, Network, Station, event_of, moved, station_at}, Sets.prunes, State.State, Step.step, Tables.has_row}}
use Rattle.law_streams.{specs.{Copies.happens, Joins.HoldsTree, Passing.{Passes, Receiver, Tree, ends_passing, has_expired, lacks_room, leaves_tree, takes_effect, takes_from, takes_link}, InTimeJoins.{Always, HoldsTo, IsJoin, Join, Pair, Source, Star, join_key}, InTimeStreams.{IsFor, IsPassing, JoinsKeepStream, NoneEndsOtherwise, asker, ends_otherwise, is_pruned_off, prunes_source}}, proofs.{InTime.unexpired, Passing.event_keeps_passing, Tests.{Four, none_of_four}, Pairs.{By, Holds, Outlasts, Steps, Timer, held_ever, next, one_router, same_station}, Refresh.{Ever, Held, ever_first}, Upper.moves_on}}

-- ---- who is served

neither_false : (x y : Bool) → x ≡ false → y ≡ false → (x || y) ≡ false
neither_false x y e f = grind arith

none_false : (x y z : Bool) → y ≡ true → (x && z) ≡ false → (x && (not y || z)) ≡ false
none_false x y z e f = grind arith

held_false : (x y : Bool) → y ≡ true → (x && not y) ≡ false
held_false x y e = grind arith

-- the Join goes on to be held, and its end isn't reached
module _ (s t : State) (g src down : ℕ) where
  star_stays : (o : Option Accepted) → has_row t.downstream (star_key down g) ≡ true
      → ((m : ℕ) → o ≡ Some (Accepted.Advance m) → has_expired s (star_key down g) m ≡ false)
      → prunes_source s t g src down o ≡ false → takes_from Receiver.Router s t g src down o ≡ false
  star_stays None held lasts off = refl
  star_stays (Some (Accepted.Advance m)) held lasts off =
      neither_false (has_expired s (star_key down g) m) (takes_effect s (rpt_key down g src) m) (lasts m refl) off
  star_stays (Some (Accepted.JoinPruneToMe j m)) held lasts off =
      none_false (j.number == down) (has_row t.downstream (star_key down g)) (prunes t g src down) held off
  star_stays (Some a) held lasts off = refl

  source_stays : (o : Option Accepted) → has_row t.downstream (source_key down g src) ≡ true
      → ((m : ℕ) → o ≡ Some (Accepted.Advance m) → has_expired s (source_key down g src) m ≡ false)
      → takes_from Receiver.SourceRouter s t g src down o ≡ false
  source_stays None held lasts = refl
  source_stays (Some (Accepted.Advance m)) held lasts = lasts m refl
  source_stays (Some (Accepted.JoinPruneToMe j m)) held lasts =
      held_false (j.number == down) (has_row t.downstream (source_key down g src)) held
  source_stays (Some a) held lasts = refl

isnt_taken : (join : Join) (s t : State) (g src down : ℕ) → IsFor join src → (o : Option Accepted)
    → has_row t.downstream (join_key join down g) ≡ true
    → ((m : ℕ) → o ≡ Some (Accepted.Advance m) → has_expired s (join_key join down g) m ≡ false)
    → is_pruned_off join s t g src down o ≡ false → takes_from (asker join) s t g src down o ≡ false
isnt_taken (Star rp) s t g src down is o held lasts off = star_stays s t g src down o held lasts off
isnt_taken (Source joined) s t g src down is o held lasts off =
    source_stays s t g src down o (subst (λ (a : ℕ). has_row t.downstream (source_key down g a) ≡ true) is held)
    (subst (λ (a : ℕ). (m : ℕ) → o ≡ Some (Accepted.Advance m) → has_expired s (source_key down g a) m ≡ false) is lasts)

-- ---- one event

module _ (join : Join) (tree : Tree) (s : State) (e : Event) (g src up down end : ℕ) (is : IsFor join src)
    (holds : HoldsTree s (join_key join down g) (Some end)) (early : ((step s e).state).present < end)
    (held : has_row ((step s e).state).downstream (join_key join down g) ≡ true) where
  abbrev t : State
  t = (step s e).state

  before : (a b : ℕ) → b < a → nat_le a b ≡ false
  before a b lt = grind (arith, nat_tests, lt)

  lasts : (m : ℕ) → done_as (happens s e) ≡ Some (Accepted.Advance m) → has_expired s (join_key join down g) m ≡ false
  lasts m now =
      unexpired s (join_key join down g) end holds m (before end m (subst (λ (n : ℕ). n < end) (moves_on s e m now) early))

  passes_on : Passes tree (asker join) s g src up down → ends_otherwise join tree s e g src up down ≡ false
      → Passes tree (asker join) t g src up down
  unfolding ends_otherwise ends_passing
  passes_on passes off =
      let done : Option Accepted = done_as (happens s e) in
      let h : Four (takes_link t g src up down done) (leaves_tree tree (asker join) t g src up done)
      (is_pruned_off join s t g src down done) (lacks_room tree t g src) =
      none_of_four _ _ _ _ off in
      event_keeps_passing tree (asker join) s e g src up down passes
      (rw (h.first, h.second, isnt_taken join s t g src down is done held lasts h.third, h.fourth) refl)

-- ---- move after move

module _ (join : Join) (tree : Tree) (g d src up : ℕ) (started : ℕ → ℕ) (c : Pair) (isg : IsJoin join g) (is_for : IsFor join src) (few : d < 75000)
    (apart : (c.lower == c.upper) ≡ false) where
  abbrev IsEver : Network → List Move → Type 0
  IsEver = Ever (next join g d started c isg few apart) 210000 d (By join g d started c isg few apart) (Timer join g d started c isg few apart)
      (Holds join g d started c isg few apart) (Outlasts join g d started c isg few apart)

  module _ (n : Network) (m : Move) (ms : List Move) (now : IsEver n (m ∷ ms)) (f : IsPassing join tree g src up c n)
      (off : (e : Event) (st : Station) → event_of n m ≡ Some (c.upper, e) → station_at n c.upper ≡ Some st
      → ends_otherwise join tree st.state e g src up c.down ≡ false) where
    abbrev held : HoldsTo join g started c ((now.0).held).limit n
    held = ((now.0).held).holds

    holds_now : HoldsTree (f.station).state (join_key join c.down g) (Some (held).end)
    holds_now =
        subst (λ (x : Station). HoldsTree x.state (join_key join c.down g) (Some (held).end)) (same_station (held).there f.there) (held).holds

    held_at : (st : Station) → station_at (moved n m).1 c.upper ≡ Some st
        → has_row (st.state).downstream (join_key join c.down g) ≡ true
    unfolding has_row
    held_at st at = go (ever_first _ 210000 d _ _ _ _ ms (moved n m).1 now.1)
      where
        go : Held (next join g d started c isg few apart) 210000 d (By join g d started c isg few apart) (Timer join g d started c isg few apart)
            (Holds join g d started c isg few apart) (Outlasts join g d started c isg few apart) (moved n m).1
            → has_row (st.state).downstream (join_key join c.down g) ≡ true
        go h =
            subst (λ (x : Station). has_row (x.state).downstream (join_key join c.down g) ≡ true) (same_station (h.holds).there at)
            (ap is_some ((h.holds).holds).found)

    passing_then : IsPassing join tree g src up c (moved n m).1
    passing_then = go (one_router n m c.upper f.station f.there)
      where
        go : (station_at (moved n m).1 c.upper ≡ Some f.station) ⊎ Steps n m c.upper f.station → IsPassing join tree g src up c (moved n m).1
        go (inl same) = record { station = f.station; there = same; passes = f.passes }
        go (inr w) = record {
          station = record f.station { state = (step (f.station).state w.event).state };
          there = (w.stepped).here;
          passes =
              passes_on join tree (f.station).state w.event g src up c.down (held).end is_for holds_now
              ((now.0).outlasts held _ (w.stepped).here) (held_at _ (w.stepped).here) f.passes (off w.event f.station w.is f.there);
        }

  all_passing : (ms : List Move) (n : Network) → IsEver n ms → IsPassing join tree g src up c n → NoneEndsOtherwise join tree g src up c n ms
      → Always (IsPassing join tree g src up c) n ms
  all_passing [] n now f off = f
  all_passing (m ∷ ms) n now f off = (f, all_passing ms (moved n m).1 now.1 (passing_then n m ms now f off.0) off.1)

pub joins_keep_stream : JoinsKeepStream
joins_keep_stream join tree g d src up started c n ms isg is_for few f wants passing off =
    all_passing join tree g d src up started c isg is_for few f.apart ms n (held_ever join g d started c isg few f.apart n ms f wants)
    passing off
