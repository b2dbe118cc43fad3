-- Time that passes with nothing due moves the present alone, and no row.
use Rattle.std.{proofs.{Common.{◌≡◌, ◌≤◌, ◌<◌, ℕ, Bool, true, false, cond, List, Ok, Option, Some, None, nat_lt, refl, sym, ap, ◌∙◌, arith}, lemmas.Bool.Decides.nat_tests}}
use Rattle.pim_ip.{specs.declared.refusal.Refusal.Refusal}
use Rattle.pim_types.{specs.{declared.{event.EventKind.EventKind, outcome.{Emission.Emission, Verdict.Verdict}}, Keys.source_key}}
use Rattle.pim_model.{specs.{Cache.{answers, cached}, declared.accepted.Accepted.Accepted, Full.is_full, Judging.{Judged, advance_judged, judged, last_moment, refuse_if, ◌>>◌}, Sets.{is_kept_alive, spt_bit}, State.State, Step.{advanced, concluded, step, taken, taken_unless_full}, Tables.has_row, Timers.{Ending, next_due}}}
use Rattle.law_settled.{specs.Laws.ends_after, proofs.{FiringLaws.firing_stops, TimerLaws.{IsNext, is_next}, ShownEnds.shown_is_later}}
use Rattle.law_events.{specs.Sees.SeesSource, proofs.{SameMacros.join_desired_same, SameSights.source_at, SameAnswers.answers_same}}
use Rattle.law_plane.{specs.Offload.dropped}

pub none_due : (m : ℕ) (s : State) → ends_after m s ≡ true → next_due m s ≡ None
none_due m s ahead = go (next_due m s) refl
  where
    go : (o : Option Ending) → next_due m s ≡ o → o ≡ None
    go None e = refl
    go (Some d) e =
        let next : IsNext m s d = is_next m s d e in
        let later : m < d.end = shown_is_later m s ahead d.timer.kind d.timer.key d.end next.shown in
        let due : d.end ≤ m = next.due in
        absurd (omega arith)

pub not_lt : (a b : ℕ) → a ≤ b → nat_lt b a ≡ false
not_lt a b le = grind (arith, nat_tests, le)

module _ (s : State) (w m : ℕ) (on : s.present ≤ m) (early : m ≤ last_moment) (ahead : ends_after m s ≡ true) where
  abbrev later : State
  later = record s { present = m }

  accepted : (b c : Bool) → b ≡ false → c ≡ false
      → (refuse_if b Refusal.MomentBack >> refuse_if c Refusal.MomentFar >> Ok (Accepted.Advance m)) ≡ Ok (Accepted.Advance m)
  accepted b c e f = grind arith

  judged_so : judged s (EventKind.Advance m) ≡ Ok (Accepted.Advance m)
  unfolding judged advance_judged
  judged_so = grind (arith, accepted, not_lt)

  pub passes : step s (record { draw = w; kind = EventKind.Advance m }) ≡ dropped later
  unfolding step taken_unless_full is_full taken advanced
  passes =
      ap (λ (j : Judged). concluded s (taken_unless_full s w) j) judged_so
      ∙ ap (λ (fires : State × List Emission). record {
        answer = Ok Verdict.Done;
        emissions = fires.1;
        copies = 0;
        state = record (fires.0) { present = m };
      }) (firing_stops w m s (none_due m s ahead))

-- ---- rows

module _ (s : State) (m : ℕ) where
  sees_later : (h x : ℕ) → SeesSource h x s (record s { present = m })
  unfolding spt_bit
  sees_later h x = source_at s m s.sources h x refl

  alive_later : (h x : ℕ) → is_kept_alive s h x ≡ is_kept_alive (record s { present = m }) h x
  unfolding is_kept_alive
  alive_later h x = refl

  pub answers_later : (g src : ℕ) → answers s g src ≡ answers (record s { present = m }) g src
  answers_later g src = grind (arith, answers_same, sees_later, join_desired_same, alive_later)

  pub rows_later : (g src : ℕ) → cached (record s { present = m }) g src ≡ cached s g src
  unfolding cached
  rows_later g src = λ j. cond (has_row s.sources (source_key 0 g src)) (Some (sym (answers_later g src) j)) None
