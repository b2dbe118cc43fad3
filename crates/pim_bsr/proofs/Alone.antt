-- The router is given candidates alone, or RP ranges alone, but for those that come.
use Rattle.std.{proofs.Common.{◌≡◌, ℕ, zero, suc, Bool, true, false, List, [], ◌∷◌, ◌++◌, length, take, Option, Some, refl, sym, ap, subst, ◌∙◌}, specs.Prelude.{if◌then◌else◌, unwrap_or}}
use Rattle.pim_types.{specs.declared.{config.RpRange.RpRange, event.{Event.Event, EventKind.EventKind}}}
use Rattle.pim_model.{specs.{State.State, Step.{outcome_of, ran, step}}}
use Rattle.pim_bsr.{specs.{Hearing.{around_of, heard_frame}, Joined.{FrontedRouter, Told, candidates_told, event, event_given, events_given, first_end, frame_given, frame_joined, given_with, is_done, is_due, is_other_type, is_refused_moment, joined_step, joined_with, kind_given, kind_joined, loses, passed, ran_with, ranges_given, ranges_joined, rps_by, rps_if, rps_told, time_given, time_joined}, Laws.{CandidatesAlone, RangesAlone, brings_candidates, brings_ranges, events_of}, Table.{Known, at_time, configured, given, moves, ranges_by, room_beside}, declared.choice.Choice.Choice}, proofs.{Choosing.frame_choice, JoinedLaws.{beside, ranges_event, ranges_if}, Lists.filter_both}}

-- what is known after an event, and that an RP is chosen for the same
record Goes (k : Known) (told : Told × FrontedRouter) : Type 0 where
  left : Known
  known : told.1.known ≡ Some left
  choice : left.choice ≡ k.choice

passed_goes : (k : Known) (s : State) (e : Event) → Goes k (passed (Some k) s e)
passed_goes k s e = record { left = k; known = refl; choice = refl }

-- what is known after a packet that the router ignored for its type
abbrev known_after : Known → State → Event → ℕ → List ℕ → Known
known_after k s e i bytes = (heard_frame (around_of (step s e).state) k i bytes).known

frame_goes : (k : Known) (s : State) (e : Event) (i : ℕ) (bytes : List ℕ) → Goes k (frame_joined k s e i bytes)
unfolding frame_joined
frame_goes k s e i bytes = go (is_other_type (step s e).answer)
  where
    go : (b : Bool) → Goes k
        (if b then ran_with (heard_frame (around_of (step s e).state) k i bytes).sent (Some (known_after k s e i bytes)) (
          outcome_of (step s e) ∷ (ran (step s e).state (rps_told e.draw k (known_after k s e i bytes))).0,
          (ran (step s e).state (rps_told e.draw k (known_after k s e i bytes))).1,
        )
        else ran_with [] (Some k) (outcome_of (step s e) ∷ [], (step s e).state))
    go true = record { left = known_after k s e i bytes; known = refl; choice = frame_choice (around_of (step s e).state) k i bytes }
    go false = record { left = k; known = refl; choice = refl }

same_choice : (limit : ℕ) (static : List RpRange) (k : Known) → (configured limit static k).choice ≡ k.choice
unfolding configured
same_choice limit static k = refl

ranges_go : (k : Known) (s : State) (e : Event) (static : List RpRange) → Goes k (ranges_joined k s e static)
unfolding ranges_joined
ranges_go k s e static = go (is_done (step s (ranges_event k e static)).answer)
  where
    go : (b : Bool) → Goes k (ranges_if b k s e static)
    go true = record { left = beside k static; known = refl; choice = same_choice k.limit static k }
    go false = record { left = k; known = refl; choice = refl }

time_choice : (now : ℕ) (k : Known) → (at_time now k).choice ≡ k.choice
unfolding at_time
time_choice now k = refl

time_goes : (k : Known) (s : State) (e : Event) (moment : ℕ) → Goes k (time_joined k s e moment)
unfolding time_joined
time_goes k s e moment = go (is_refused_moment s moment)
  where
    go : (b : Bool) → Goes k
        (if b then passed (Some k) s e
        else ran_with [] (Some (at_time moment k)) (ran s (time_given e.draw (length k.table.rps) k moment)))
    go true = passed_goes k s e
    go false = record { left = at_time moment k; known = refl; choice = time_choice moment k }

kind_goes : (k : Known) (s : State) (e : Event) (kind : EventKind) → Goes k (kind_joined k s e kind)
kind_goes k s e (EventKind.Frame i bytes) = frame_goes k s e i.number bytes
kind_goes k s e (EventKind.Rps static) = ranges_go k s e static
kind_goes k s e (EventKind.Advance moment) = time_goes k s e moment
kind_goes k s e (EventKind.Unicast bytes) = passed_goes k s e
kind_goes k s e (EventKind.Up i) = passed_goes k s e
kind_goes k s e (EventKind.Down i) = passed_goes k s e
kind_goes k s e (EventKind.Routes routes) = passed_goes k s e
kind_goes k s e (EventKind.RpCandidates candidates) = passed_goes k s e

-- ---- events of some kinds

module _ (test : EventKind → Bool) (choice : Choice)
    (none : (after : Known) → test (rps_by choice after) ≡ false)
    (times : (moment : ℕ) → test (EventKind.Advance moment) ≡ false)
    (ranges : (k : Known) (static : List RpRange) → k.choice ≡ choice
    → (n : ℕ) → events_of test (event n (EventKind.Rps (given (configured k.limit static k))) ∷ []) ≡ events_of test (event n (EventKind.Rps static) ∷ [])) where
  told_none : (b : Bool) (draw : ℕ) (after : Known) → after.choice ≡ choice → events_of test (rps_if b draw after) ≡ []
  told_none true draw after is = rw (ap (λ (c : Choice). test (rps_by c after)) is ∙ none after) refl
  told_none false draw after is = refl

  -- an event, and others that aren't of these kinds
  alone_first : (e : Event) (es : List Event) → events_of test es ≡ [] → events_of test (e ∷ es) ≡ events_of test (e ∷ [])
  alone_first e es without =
      filter_both (λ (x : Event). test x.kind) (e ∷ []) es
      ∙ ap (λ (xs : List Event). events_of test (e ∷ []) ++ xs) without
      ∙ end (events_of test (e ∷ []))
    where
      end : (xs : List Event) → xs ++ [] ≡ xs
      end [] = refl
      end (x ∷ xs) = ap (λ (ys : List Event). x ∷ ys) (end xs)

  frame_alone : (k : Known) (s : State) (e : Event) (i : ℕ) (bytes : List ℕ) → k.choice ≡ choice
      → events_of test (frame_given k s e i bytes) ≡ events_of test (e ∷ [])
  unfolding frame_given
  frame_alone k s e i bytes is = alone_first e _ (go (is_other_type (step s e).answer))
    where
      go : (b : Bool) → events_of test (if b then rps_told e.draw k (known_after k s e i bytes) else []) ≡ []
      go true = told_none (moves k (known_after k s e i bytes)) e.draw (known_after k s e i bytes) (frame_choice (around_of (step s e).state) k i bytes ∙ is)
      go false = refl

  ranges_alone_of : (k : Known) (s : State) (e : Event) (static : List RpRange) → k.choice ≡ choice → e.kind ≡ EventKind.Rps static
      → events_of test (ranges_given k s e static) ≡ events_of test (e ∷ [])
  unfolding ranges_given
  ranges_alone_of k s e static is kind =
      alone_first (ranges_event k e static) _ (go (is_done (step s (ranges_event k e static)).answer))
      ∙ ranges k static is e.draw
      ∙ ap (λ (x : EventKind). events_of test (event e.draw x ∷ [])) (sym kind)
    where
      go : (b : Bool) → events_of test (if b then candidates_told e.draw k (beside k static) else []) ≡ []
      go true = told_none (loses k (beside k static)) e.draw (beside k static) (same_choice k.limit static k ∙ is)
      go false = refl

  none_in_time : (n draw : ℕ) (k : Known) (moment : ℕ) → k.choice ≡ choice → events_of test (time_given draw n k moment) ≡ []
  unfolding time_given
  none_in_time zero draw k moment is = rw (times moment) refl
  none_in_time (suc n) draw k moment is =
      go (is_due (first_end k.table.rps) moment) (unwrap_or (first_end k.table.rps) 0)
      (none_in_time n draw (at_time (unwrap_or (first_end k.table.rps) 0) k) moment (time_choice (unwrap_or (first_end k.table.rps) 0) k ∙ is))
    where
      go : (b : Bool) (end : ℕ) → events_of test (time_given draw n (at_time end k) moment) ≡ []
          → events_of test
          (if b then event draw (EventKind.Advance end) ∷ (rps_told draw k (at_time end k) ++ time_given draw n (at_time end k) moment)
          else event draw (EventKind.Advance moment) ∷ []) ≡ []
      go true end later =
          rw (times end)
          (filter_both (λ (x : Event). test x.kind) (rps_told draw k (at_time end k)) (time_given draw n (at_time end k) moment)
          ∙ ap (λ (xs : List Event). xs ++ events_of test (time_given draw n (at_time end k) moment))
          (told_none (moves k (at_time end k)) draw (at_time end k) (time_choice end k ∙ is)) ∙ later)
      go false end later = rw (times moment) refl

  time_alone : (k : Known) (s : State) (e : Event) (moment : ℕ) → k.choice ≡ choice → e.kind ≡ EventKind.Advance moment
      → events_of test (if is_refused_moment s moment then e ∷ [] else time_given e.draw (length k.table.rps) k moment) ≡ events_of test (e ∷ [])
  time_alone k s e moment is kind = go (is_refused_moment s moment)
    where
      at_time_none : events_of test (e ∷ []) ≡ []
      at_time_none = rw (ap test kind ∙ times moment) refl

      go : (b : Bool) → events_of test (if b then e ∷ [] else time_given e.draw (length k.table.rps) k moment) ≡ events_of test (e ∷ [])
      go true = refl
      go false = none_in_time (length k.table.rps) e.draw k moment is ∙ sym at_time_none

  one_alone : (k : Known) (s : State) (e : Event) (kind : EventKind) → k.choice ≡ choice → e.kind ≡ kind
      → events_of test (kind_given k s e kind) ≡ events_of test (e ∷ [])
  one_alone k s e (EventKind.Frame i bytes) is kind = frame_alone k s e i.number bytes is
  one_alone k s e (EventKind.Rps static) is kind = ranges_alone_of k s e static is kind
  one_alone k s e (EventKind.Advance moment) is kind = time_alone k s e moment is kind
  one_alone k s e (EventKind.Unicast bytes) is kind = refl
  one_alone k s e (EventKind.Up i) is kind = refl
  one_alone k s e (EventKind.Down i) is kind = refl
  one_alone k s e (EventKind.Routes routes) is kind = refl
  one_alone k s e (EventKind.RpCandidates candidates) is kind = refl

  all_alone : (es : List Event) (b : FrontedRouter) (k : Known) → b.known ≡ Some k → k.choice ≡ choice
      → events_of test (events_given b es) ≡ events_of test es
  unfolding events_given event_given joined_step
  all_alone [] b k is same = refl
  all_alone (e ∷ es) b k is same =
      let next : Goes k (joined_with b.known b.state e) =
      subst (λ (o : Option Known). Goes k (joined_with o b.state e)) (sym is) (kind_goes k b.state e e.kind) in
      filter_both (λ (x : Event). test x.kind) (given_with b.known b.state e) (events_given (joined_with b.known b.state e).1 es)
      ∙ ap (λ (xs : List Event). xs ++ events_of test (events_given (joined_with b.known b.state e).1 es))
      (ap (λ (o : Option Known). events_of test (given_with o b.state e)) is ∙ one_alone k b.state e e.kind same refl)
      ∙ ap (λ (xs : List Event). events_of test (e ∷ []) ++ xs)
      (all_alone es (joined_with b.known b.state e).1 next.left next.known (next.choice ∙ same))
      ∙ sym (filter_both (λ (x : Event). test x.kind) (e ∷ []) es)

-- ---- laws

pub ranges_alone : RangesAlone
ranges_alone s k es is =
    all_alone brings_candidates Choice.Range (λ after. refl) (λ moment. refl) (λ k static is n. refl) es
    (record { known = Some k; state = s }) k refl is

-- the configured ranges as they come
as_they_come : (k : Known) (static : List RpRange) → k.choice ≡ Choice.Group → given (configured k.limit static k) ≡ static
unfolding configured
as_they_come k static is = ap (λ (c : Choice). ranges_by c static (take (room_beside k.limit static) k.table.rps)) is

pub candidates_alone : CandidatesAlone
candidates_alone s k es is =
    all_alone brings_ranges Choice.Group (λ after. refl) (λ moment. refl)
    (λ k static is n. ap (λ (rs : List RpRange). event n (EventKind.Rps rs) ∷ []) (as_they_come k static is)) es
    (record { known = Some k; state = s }) k refl is
