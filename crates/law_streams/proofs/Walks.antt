-- What time keeps, and every event: the way through a step, once for whatever is kept.
use Rattle.std.{proofs.{Common.{◌≡◌, ℕ, ◌+◌, ◌-◌, ◌≤◌, nat_lt, Bool, false, List, Ok, length, refl, subst, arith}, lemmas.Bool.Decides.nat_tests}}
use Rattle.pim_ip.{specs.declared.refusal.Refusal.Refusal}
use Rattle.pim_types.{specs.declared.{event.{Event.Event, EventKind.EventKind}, fact.Key.Key, timer.TimerKind.TimerKind}}
use Rattle.pim_model.{specs.{declared.accepted.Accepted.Accepted, Firing.{fire_all, fire_instant, fire_once, fired, settled}, Judging.{Judged, advance_judged, judged, refuse_if, ◌>>◌}, Messages.Message, State.{State, is_up}, Step.{advanced, change, concluded, done, step, taken, taken_unless_full}, Timers.{Ending, next_due, timers}}}
use Rattle.law_settled.{proofs.{FiringLaws.next_is_due, TurnLaws.kept_to_the_end, UnchangedLaws.full_or_taken, Judgements.{IsHere, IsJudged, kind_is_judged}}, specs.Ready.IsTimeless}

-- P holds between two events, and between two firings; Mid of the opening and of a change, before what follows from it
module _ (P : State → Type 0) (Mid : State → State → Type 0) where
  -- time that passes no further than a timestamp
  module _ (last : ℕ) (moves : (s : State) (m : ℕ) → m ≤ last → P s → P (record s { present = m }))
      (fires : (s : State) (m : ℕ) (kind : TimerKind) (k : Key) → m ≤ last → P s → Mid s (fired (record s { present = m }) kind k).0)
      (follows : (o : State) (change : State × List Message) (w : ℕ) → P o → Mid o change.0 → P (settled o change w).0) where
    once_walks : (w : ℕ) (s : State) (e : Ending) → e.end ≤ last → P s → P (fire_once w s e).0
    unfolding fire_once
    once_walks w s e le f = grind arith

    in_time : (a b c : ℕ) → a ≤ b → b ≤ c → a ≤ c
    in_time a b c x y = omega (arith, x, y)

    instant_walks : (w : ℕ) (s : State) (e : Ending) → e.end ≤ last → P s → P (fire_instant w s e).0
    unfolding fire_instant
    instant_walks w s e le f =
        kept_to_the_end (next_due e.end) (fire_once w) P
        (λ t d g there. once_walks w t d (in_time d.end e.end last (next_is_due e.end t d there) le) g) (length (timers s) + 1) s f

    pub time_walks : (s : State) (w moment : ℕ) → moment ≤ last → P s → P (advanced s w moment).state
    unfolding advanced fire_all
    time_walks s w moment le f =
        moves (fire_all w moment s).0 moment le
        (kept_to_the_end (next_due moment) (fire_instant w) P
        (λ t d g there. instant_walks w t d (in_time d.end moment last (next_is_due moment t d there) le) g)
        (moment + 2 - s.present) s f)

-- time doesn't go back
not_back : (a b : ℕ) → nat_lt b a ≡ false → a ≤ b
not_back a b e = grind (arith, nat_tests, e)

module _ (s : State) where
  moment_timely : (moment m : ℕ) (back far : Bool) → nat_lt moment s.present ≡ back
      → (refuse_if back Refusal.MomentBack >> refuse_if far Refusal.MomentFar >> Ok (Accepted.Advance moment))
      ≡ Ok (Accepted.Advance m) → s.present ≤ m
  moment_timely moment m back far e is = grind (arith, not_back)

  timeless : (kind : EventKind) → IsTimeless kind → (m : ℕ) → judged s kind ≡ Ok (Accepted.Advance m) → s.present ≤ m
  timeless kind none m is = absurd (subst (IsJudged (IsHere (is_up s))) is (kind_is_judged s kind none)).accepts

  pub timely : (kind : EventKind) (m : ℕ) → judged s kind ≡ Ok (Accepted.Advance m) → s.present ≤ m
  unfolding judged advance_judged
  timely kind m is = grind (arith, moment_timely, timeless)

module _ (P : State → Type 0) (Mid : State → State → Type 0) (s : State) (e : Event) (stays : P s)
    (passes : (moment : ℕ) → s.present ≤ moment → P (advanced s e.draw moment).state)
    (changes : (a : Accepted) → judged s e.kind ≡ Ok a → Mid s (change s e.draw a).state)
    (follows : (o : State) (change : State × List Message) (w : ℕ) → P o → Mid o change.0 → P (settled o change w).0) where
  done_walks : (a : Accepted) → judged s e.kind ≡ Ok a → P (done s e.draw (change s e.draw a)).state
  unfolding done
  done_walks a is = follows s _ e.draw stays (changes a is)

  taken_walks : (a : Accepted) → judged s e.kind ≡ Ok a → P (taken s e.draw a).state
  unfolding taken
  taken_walks a is = grind (arith, timely, done_walks)

  full_walks : (a : Accepted) (b : Bool) → judged s e.kind ≡ Ok a → P (full_or_taken s e.draw a b).state
  full_walks a b is = grind (arith, taken_walks)

  concluded_walks : (j : Judged) → judged s e.kind ≡ j → P (concluded s (taken_unless_full s e.draw) j).state
  unfolding taken_unless_full
  concluded_walks j is = grind (arith, full_walks)

  -- any event, where what time keeps is known, and each change
  pub event_walks : P (step s e).state
  unfolding step
  event_walks = concluded_walks (judged s e.kind) refl
