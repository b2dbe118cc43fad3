-- While Joins come in time a stream goes on.
use Rattle.std.{proofs.{Common.{◌≡◌, ℕ, ◌+◌, ◌*◌, ◌==◌, nat_le, true, false, [], ◌∷◌, Option, Some, None, is_some, refl, ap, subst, arith}, lemmas.Grind.common_steps}}
use Rattle.pim_types.{specs.{Keys.{rpt_key, star_key}, declared.{config.IfaceId.IfaceId, event.Event.Event, fact.Key.Key}}}
use Rattle.pim_wire.{specs.Values.JoinPrune}
use Rattle.pim_model.{specs.{declared.accepted.Accepted.Accepted, Cause.done_as, Downstream.{holdtime_end, holdtime_end_from, holdtime_forever}, State.State, Step.{ran, state_after, step}, Tables.{has_row, later_end}}}
use Rattle.law_streams.{specs.{Copies.happens, Joins.{HoldsStar, HoldsTree, JoinsStar}, Lasts.takes_back, InTime.{EventKeepsPassingUntil, JoinsInTimeKeepPassing, ends_in_time, is_late, joined_until, joins_group, next_end}, Passing.{Receiver, ends_by, ends_passing, has_expired, lacks_room, leaves_tree, takes_effect, takes_from, takes_link}}, proofs.{Keeps.event_keeps_star, Taken.star_join_is_taken, Passing.event_keeps_passing, Tests.{Four, is_false, neither, none_of_four}}}

-- a tree that is held until an end hasn't expired before it
module _ (s : State) (k : Key) (end : ℕ) (h : HoldsTree s k (Some end)) where
  later_than : (o : Option ℕ) (m : ℕ) → later_end o (Some end) ≡ o → nat_le end m ≡ false → ends_by m o ≡ false
  later_than o m e off = grind arith

  pub unexpired : (m : ℕ) → nat_le end m ≡ false → has_expired s k m ≡ false
  unfolding has_expired
  unexpired m off = grind (arith, later_than)

module _ (s : State) (g src up down end : ℕ) (h : HoldsStar s down g (Some end)) where
  -- ---- the old end

  isnt_back : (t : State) (o : Option Accepted) → takes_link t g src up down o ≡ false
      → is_late s t g src down end o ≡ false → takes_back (star_key down g) end o ≡ false
  isnt_back t o a b = grind (arith, neither)

  -- ---- the test of the row

  isnt_ended : (t : State) (o : Option Accepted) → has_row t.downstream (star_key down g) ≡ true
      → is_late s t g src down end o ≡ false → takes_from Receiver.Router s t g src down o ≡ false
  isnt_ended t None there b = refl
  isnt_ended t (Some (Accepted.Advance m)) there b =
      rw (unexpired s (star_key down g) end h m (neither _ _ b).first, (neither (nat_le end m) (takes_effect s (rpt_key down g src) m) b).second) refl
  isnt_ended t (Some (Accepted.JoinPruneToMe j m)) there b = grind arith
  isnt_ended t (Some a) there b = refl

-- ---- a new end

holdtime_is : (s : State) (h : ℕ) → (h == holdtime_forever) ≡ false → holdtime_end s h ≡ Some (s.present + 1000 * h)
unfolding holdtime_end_from
holdtime_is s h e = rw e refl

record Joins (s : State) (g down : ℕ) (j : IfaceId) (m : JoinPrune) : Type 0 where
  at : (j.number == down) ≡ true
  joins : JoinsStar s j.number g m
  ends : (m.holdtime == holdtime_forever) ≡ false

joins_so : (s : State) (g down : ℕ) (j : IfaceId) (m : JoinPrune)
    → joins_group s g down (Some (Accepted.JoinPruneToMe j m)) ≡ true → Joins s g down j m
joins_so s g down j m e = grind (arith, is_false)

module _ (s : State) (e : Event) (g down end : ℕ) where
  abbrev t : State
  t = (step s e).state

  taken_anew : (o : Option Accepted) → done_as (happens s e) ≡ o → joins_group s g down o ≡ true
      → HoldsStar t down g (Some (joined_until s o end))
  taken_anew None is f = cc f
  taken_anew (Some (Accepted.JoinPruneToMe j m)) is f =
      let x : Joins s g down j m = joins_so s g down j m f in
      let same : j.number ≡ down = grind (arith, common_steps, x.at) in
      subst (λ (i : ℕ). HoldsStar t i g (Some (s.present + 1000 * m.holdtime))) same
      (subst (λ (o : Option ℕ). HoldsStar t j.number g o) (holdtime_is s m.holdtime x.ends)
      (star_join_is_taken s e j m g is x.joins).holds)
  taken_anew (Some a) is f = cc f

  holds_next : HoldsStar t down g (Some end) → HoldsStar t down g (Some (next_end s e g down end))
  unfolding next_end
  holds_next old = grind (arith, taken_anew)

pub event_keeps_passing_until : EventKeepsPassingUntil
unfolding ends_in_time ends_passing has_row
event_keeps_passing_until tree s e g src up down end f off =
    let t : State = (step s e).state in
    let done : Option Accepted = done_as (happens s e) in
    let h : Four (takes_link t g src up down done) (leaves_tree tree Receiver.Router t g src up done) (is_late s t g src down end done)
    (lacks_room tree t g src) =
    none_of_four _ _ _ _ off in
    let held : HoldsStar t down g (Some end) =
    event_keeps_star s e down g end (f.passes).settled f.holds (isnt_back s g src up down end f.holds t done h.first h.third) in
    record {
      passes =
          event_keeps_passing tree Receiver.Router s e g src up down f.passes
          (rw (h.first, h.second, isnt_ended s g src up down end f.holds t done (ap is_some held.found) h.third, h.fourth) refl);
      holds = holds_next s e g down end held;
    }

pub joins_in_time_keep_passing : JoinsInTimeKeepPassing
unfolding state_after ran
joins_in_time_keep_passing tree s [] g src up down end f all = f.passes
joins_in_time_keep_passing tree s (e ∷ es) g src up down end f all =
    joins_in_time_keep_passing tree (step s e).state es g src up down (next_end s e g down end)
    (event_keeps_passing_until tree s e g src up down end f all.0) all.1
