-- A split data plane is sound: each step leaves it such that its core, once it has heard of what is owed, is in the
-- state of a router that hears of every packet.
use Rattle.std.{proofs.{Common.{◌≡◌, ◌+◌, ◌≤◌, ◌<◌, ℕ, zero, suc, Bool, true, false, ◌&&◌, ◌||◌, cond, List, [], ◌∷◌, map, Ok, Option, Some, None, nat_le, nat_lt, length, refl, sym, ap, subst, ◌∙◌, arith}, lemmas.Bool.Decides.nat_tests}, specs.List.{AllByRecursion, filter, range_with_len}}
use Rattle.pim_ip.{specs.{Ipv4.Packet, declared.refusal.Refusal.Refusal}}
use Rattle.pim_types.{specs.declared.{config.{Config.Config, IfaceId.IfaceId}, event.{Event.Event, EventKind.EventKind}, fact.SourceRow.SourceRow, outcome.{Outcome.Outcome, Verdict.Verdict}}}
use Rattle.pim_model.{specs.{Cache.{Answers, Plain, answers}, declared.accepted.Accepted.Accepted, Forwarding.no_interface, Full.{counted, is_full}, Judging.{Judged, advance_judged, judged, last_moment, refuse_if, ◌>>◌}, Limits.most_ifaces, Plain.fact_key, Registers.keepalive_period, Sets.{Set, members}, State.{State, opening}, Step.{Answered, advanced, concluded, outcome_of, ran, run, state_after, step, taken, taken_unless_full}, Tables.{Table, has_row}, Writing.copies_of}}
use Rattle.law_settled.{specs.Laws.ends_after, proofs.Steps.step_stays_ahead}
use Rattle.law_events.{specs.{Rest.IsAtRest, Named.event_named, Decided.{IsDecided, plainly_taken}, Kept.SameDecision}, proofs.{Rest.{opening_is_at_rest, step_is_at_rest}, RowsOfSteps.step_stays_configured, RowsOfRuns.few_opening}}
use Rattle.law_plane.{specs.{Offload.{Handling, Row, decision, dropped, handled, handling, handling_of, handling_unknown, offload, taken_by_plane, unknown_of}, Split.{Notice, Split, by_core, by_judgement, by_kind, by_plane, caught_up, handled_at, handled_by, nothing_sent, passes_quietly, sent, split_ran, split_step, time_goes, whole, with_notice}, SplitLaws.SplitRouterIsSound, ToldLaws.{AreTold, PlaneRows, told_anew}}, proofs.{Ends.{Ends, as_it_is, ended, no_ends, set_end, still_there}, Hears.data_alike, Notes.{late_by, none_late, noted_each, noted_ends, noted_fresh, noted_rises, rises_later}, Passes.{IsOwed, Passed, RisesTo, are_fresh, ended_by, packet_passes, replays, stepped, time_passes, time_stepped}, Planes.{is_decided, none_leave}, UnknownSources.{never_alive, unknown_is_stepped, unknown_needs_room}, ToldRows.{opening_is_told, step_keeps_told}}}

-- ---- lists that are the same of some numbers

pub filters_same : (a b : Set) (low n : ℕ) → ((i : ℕ) → low ≤ i → i < low + n → a i ≡ b i)
    → filter a (range_with_len low n) ≡ filter b (range_with_len low n)
filters_same a b low zero same = refl
filters_same a b low (suc n) same = λ j.
    let later : List ℕ = filters_same a b (low + 1) n (λ i from to. same i (omega arith) (omega arith)) j in
    cond (same low (omega arith) (omega arith) j) (low ∷ later) later

pub as_many : (f : Ends) (t : Table SourceRow) → length (map (ended f) t) ≡ length t
as_many f [] = refl
as_many f (e ∷ es) = ap (λ (n : ℕ). suc n) (as_many f es)

-- ---- the present stays a moment that an event may have

module _ (s : State) (w m : ℕ) (early : s.present ≤ last_moment) where
  advance_early : (b c : Bool) → nat_lt last_moment m ≡ c
      → (concluded s (taken_unless_full s w)
      (refuse_if b Refusal.MomentBack >> refuse_if c Refusal.MomentFar >> Ok (Accepted.Advance m))).state.present
      ≤ last_moment
  unfolding taken_unless_full is_full taken advanced
  advance_early b c e = grind (arith, nat_tests)

module _ (s : State) (e : Event) (rests : IsAtRest s) (early : s.present ≤ last_moment) where
  stays_early : (kind : EventKind) → e.kind ≡ kind → (step s (record e { kind = kind })).state.present ≤ last_moment
  unfolding step judged advance_judged
  stays_early (EventKind.Advance m) f = advance_early s e.draw m early (nat_lt m s.present) (nat_lt last_moment m) refl
  stays_early kind f =
      subst (λ (n : ℕ). n ≤ last_moment)
      (sym (step_stays_ahead s (record e { kind = kind }) tt rests.settled).present) early

  pub step_stays_early : (step s e).state.present ≤ last_moment
  step_stays_early = stays_early e.kind refl

-- ---- a core and what it would be

pub record Follows (x : Split) (r : State) : Type 0 where
  pub quiet : IsAtRest x.core
  pub is : Passed x.core quiet (ended_by no_ends x.owed) x.now r
  pub owed : AllByRecursion (IsOwed x.core quiet) x.owed
  pub rises : RisesTo (x.core).present x.now x.owed
  pub ahead : ends_after x.now x.core ≡ true
  pub fresh : are_fresh x.now x.owed ≡ true
  pub early : x.now ≤ last_moment
  pub told : AreTold x.rows x.core
  pub few : length (x.core).configured.interfaces ≤ most_ifaces

pub at_first : (s : State) (quiet : IsAtRest s) → Passed s quiet no_ends s.present s
at_first s quiet = record { rests = quiet; same = sym (as_it_is s); rows = λ g src. refl; alike = λ g src. refl }

pub whole_follows : (s : State) (rows : PlaneRows) → IsAtRest s → s.present ≤ last_moment → length s.configured.interfaces ≤ most_ifaces
    → AreTold rows s → Follows (whole s rows) s
unfolding ended_by
whole_follows s rows quiet early few told = record {
  quiet = quiet;
  is = at_first s quiet;
  owed = tt;
  rises = omega arith;
  ahead = quiet.settled.ahead.ends;
  fresh = refl;
  early = early;
  told = told;
  few = few;
}

-- the split has gone on as the router has
abbrev pub Goes : State → Event → Split × Outcome → Type 0
Goes r e u = Follows u.0 (step r e).state × (u.1 ≡ outcome_of (step r e))

module _ (x : Split) (r : State) (f : Follows x r) where
  pub caught : caught_up x ≡ r
  caught =
      (replays x.core f.quiet x.now f.early f.ahead x.owed no_ends (x.core).present x.core (at_first x.core f.quiet) f.owed
      f.rises (none_late x.now) f.fresh).same
      ∙ sym (f.is).same

  moment_is : r.present ≡ x.now
  moment_is = ap (λ (t : State). t.present) (f.is).same

  r_early : r.present ≤ last_moment
  r_early = subst (λ (n : ℕ). n ≤ last_moment) (sym moment_is) f.early

  r_few : length r.configured.interfaces ≤ most_ifaces
  r_few = subst (λ (t : State). length t.configured.interfaces ≤ most_ifaces) (sym (f.is).same) f.few

  r_told : AreTold x.rows r
  r_told g src = grind arith

  module _ (e : Event) where
    abbrev gone : State → Split × Outcome
    gone t = (whole (step t e).state (told_anew (event_named t e) (step t e).state x.rows), outcome_of (step t e))

    core_goes : Goes r e (by_core x e)
    unfolding by_core
    core_goes =
        grind (arith, caught, whole_follows, step_is_at_rest, step_stays_early, r_early, step_stays_configured, r_few, step_keeps_told, r_told)

    -- ---- a packet

    module _ (i : IfaceId) (p : Packet) (heard : judged (x.core) e.kind ≡ Ok (Accepted.Data i p)) where
      abbrev ends : Ends
      ends = ended_by no_ends x.owed

      module _ (alive : Bool) (list : Set) (decides : IsDecided x.core e p (record { keeps = alive; list = list })) where
        abbrev how : Plain
        how = record { keeps = alive; list = list }

        goes_on : Passed x.core f.quiet (cond alive (set_end ends (fact_key p) (x.now + keepalive_period)) ends) x.now
            (step r e).state
        goes_on = packet_passes x.core f.quiet ends x.now r f.is e p how decides

        same_sent : sent r p list ≡ sent x.core p list
        unfolding copies_of members
        same_sent = ap (λ (t : State). sent t p list) (f.is).same

        sends : sent x.core p list ≡ outcome_of (step r e)
        unfolding plainly_taken
        sends =
            sym same_sent
            ∙ ap (λ (a : Answered). outcome_of a) (sym (stepped x.core f.quiet ends x.now r f.is e p how decides))

      notice_follows : (alive : Bool) (list : Set) → IsDecided x.core e p (record { keeps = alive; list = list })
          → Follows (with_notice x e p alive) (step r e).state
      unfolding with_notice
      notice_follows false list decides = record {
        quiet = f.quiet;
        is = goes_on false list decides;
        owed = f.owed;
        rises = f.rises;
        ahead = f.ahead;
        fresh = f.fresh;
        early = f.early;
        told = f.told;
        few = f.few;
      }
      notice_follows true list decides =
          let n : Notice = record { moment = x.now; source = fact_key p; packet = e } in
          record {
            quiet = f.quiet;
            is = subst (λ (q : Ends). Passed x.core f.quiet q x.now (step r e).state) (sym (noted_ends n x.owed no_ends))
                (goes_on true list decides);
            owed = noted_each (IsOwed x.core f.quiet) n x.owed
                (record { packet = p; list = list; decides = decides; source = refl }) f.owed;
            rises = noted_rises (x.core).present n x.owed f.rises;
            ahead = f.ahead;
            fresh = noted_fresh n x.owed f.fresh;
            early = f.early;
            told = f.told;
            few = f.few;
          }

      -- a list that is the same of the interfaces that can be configured
      alike_sent : (a b : Set) → ((n : ℕ) → nat_lt n most_ifaces ≡ true → a n ≡ b n) → sent x.core p a ≡ sent x.core p b
      unfolding copies_of members
      alike_sent a b same = grind (arith, filters_same, nat_tests)

      decided_goes : (alive : Bool) (list : Set) (o : Option Plain) → decision (handling_of x.core i p) ≡ o
          → SameDecision (Some (record { keeps = alive; list = list })) o → Goes r e (with_notice x e p alive, sent x.core p list)
      decided_goes alive list None is same = absurd same
      decided_goes alive list (Some how) is same =
          let decides : IsDecided x.core e p how = is_decided x.core i p e heard how is in (
            subst (λ (b : Bool). Follows (with_notice x e p b) (step r e).state) (sym same.keeps)
                (notice_follows how.keeps how.list decides),
            alike_sent list how.list same.list ∙ sends how.keeps how.list decides,
          )

      plane_goes : (h : Handling) → SameDecision (decision h) (decision (handling_of x.core i p)) → Goes r e (by_plane x e p h)
      unfolding with_notice
      plane_goes (Handling.Forward alive list) same =
          decided_goes alive list (decision (handling_of x.core i p)) refl same
      plane_goes Handling.Drop same =
          let goes : Goes r e (x, sent x.core p no_interface) =
          decided_goes false no_interface (decision (handling_of x.core i p)) refl same in
          (goes.0, nothing_leaves ∙ goes.1)
        where
          nothing_leaves : nothing_sent ≡ sent x.core p no_interface
          nothing_leaves = λ j. record {
            answer = Ok Verdict.Done;
            emissions = sym (none_leave x.core p) j;
            copies = length (sym (none_leave x.core p) j);
          }
      plane_goes Handling.ToCore same = core_goes

      -- ---- of a source without a fact

      abbrev its_row : State → Row
      its_row t = offload (answers t p.destination p.source)

      same_row : its_row r ≡ its_row x.core
      same_row = ap (λ (a : Answers). offload a) ((f.is).alike p.destination p.source)

      counted_same : counted r ≡ counted x.core
      unfolding counted
      counted_same = grind (arith, as_many)

      module _ (none : has_row (x.core).sources (fact_key p) ≡ false)
          (room : is_full x.core (Accepted.Data i p) ≡ false) where
        none_now : has_row r.sources (fact_key p) ≡ false
        none_now = grind (arith, still_there)

        room_now : is_full r (Accepted.Data i p) ≡ false
        room_now = grind (arith, unknown_needs_room, none_now, counted_same)

        heard_now : judged r e.kind ≡ Ok (Accepted.Data i p)
        heard_now = ap (λ (t : State). judged t e.kind) (f.is).same ∙ data_alike ends x.core x.now e.kind i p heard

        unknown_as : (h : Handling) (a : Answered) → handling_unknown (its_row x.core) i.number ≡ h
            → taken_by_plane r p h ≡ Some a → (step r e ≡ a) × (a.state ≡ r)
        unknown_as h a is taken =
            unknown_is_stepped r e i p a (f.is).rests heard_now none_now room_now
            (ap (λ (row : Row). taken_by_plane r p (handling_unknown row i.number)) same_row
            ∙ (ap (λ (g : Handling). taken_by_plane r p g) is ∙ taken))

        stays_as : (a : Answered) → (step r e ≡ a) × (a.state ≡ r) → Follows x (step r e).state
        stays_as a both = grind arith

        unknown_goes : (h : Handling) → handling_unknown (its_row x.core) i.number ≡ h → Goes r e (by_plane x e p h)
        unfolding with_notice plainly_taken copies_of members
        unknown_goes (Handling.Forward alive list) is =
            let how : Plain = record { keeps = alive; list = list } in
            let silent : alive ≡ false = never_alive (its_row x.core) i.number alive list is in
            let both : _ = unknown_as (Handling.Forward alive list) (plainly_taken r p how) is refl in (
              subst (λ (b : Bool). Follows (with_notice x e p b) (step r e).state) (sym silent)
                  (stays_as (plainly_taken r p how) both),
              sym (ap (λ (t : State). sent t p list) (f.is).same) ∙ ap (λ (a : Answered). outcome_of a) (sym both.0),
            )
        unknown_goes Handling.Drop is =
            let both : _ = unknown_as Handling.Drop (dropped r) is refl in
            (stays_as (dropped r) both, ap (λ (a : Answered). outcome_of a) (sym both.0))
        unknown_goes Handling.ToCore is = core_goes

      unknown_cases : (a b : Bool) → has_row (x.core).sources (fact_key p) ≡ a → is_full x.core (Accepted.Data i p) ≡ b
          → Goes r e (by_plane x e p (cond (a || b) Handling.ToCore (handling_unknown (its_row x.core) i.number)))
      unknown_cases true b none room = core_goes
      unknown_cases false true none room = core_goes
      unknown_cases false false none room = unknown_goes none room (handling_unknown (its_row x.core) i.number) refl

      guest_goes : Goes r e (by_plane x e p (unknown_of x.core i p))
      unfolding unknown_of
      guest_goes = unknown_cases (has_row (x.core).sources (fact_key p)) (is_full x.core (Accepted.Data i p)) refl refl

      -- ---- by whichever

      row_goes : nat_lt i.number most_ifaces ≡ true → (o : Option Row) → x.rows p.destination p.source ≡ o
          → Goes r e (by_plane x e p (handled_at o (unknown_of x.core i p) i.number))
      row_goes low None is = guest_goes
      row_goes low (Some row) is =
          plane_goes (handling row i.number)
          (subst (λ (o : Option Row). SameDecision (decision (handled o i.number)) (decision (handling_of x.core i p))) is
          (f.told p.destination p.source i.number low))

      low_goes : (b : Bool) → nat_lt i.number most_ifaces ≡ b
          → Goes r e (by_plane x e p (cond b
          (handled_at (x.rows p.destination p.source) (unknown_of x.core i p) i.number) Handling.ToCore))
      low_goes true low = row_goes low (x.rows p.destination p.source) refl
      low_goes false low = core_goes

      rows_go : Goes r e (by_plane x e p (handled_by x i p))
      unfolding handled_by
      rows_go = low_goes (nat_lt i.number most_ifaces) refl

    judged_goes : (j : Judged) → judged x.core e.kind ≡ j → Goes r e (by_judgement x e j)
    judged_goes (Ok (Accepted.Data i p)) h = rows_go i p h
    judged_goes j h = core_goes

    -- ---- time

    module _ (m : ℕ) (timed : e.kind ≡ EventKind.Advance m) where
      abbrev passing : Event
      passing = record { draw = e.draw; kind = EventKind.Advance m }

      same_event : passing ≡ e
      same_event = λ j. record { draw = e.draw; kind = sym timed j }

      quietly : (on : x.now ≤ m) → m ≤ last_moment → ends_after m x.core ≡ true → are_fresh m x.owed ≡ true
          → Goes r e (record x { now = m }, nothing_sent)
      quietly on early ahead fresh =
          let late : _ = late_by m no_ends x.owed (none_late m) fresh in
          subst (λ (v : Event). Goes r v (record x { now = m }, nothing_sent)) same_event (
            record {
              quiet = f.quiet;
              is = time_passes x.core f.quiet (ended_by no_ends x.owed) x.now r f.is e.draw m on early ahead late;
              owed = f.owed;
              rises = rises_later (x.core).present x.now m x.owed on f.rises;
              ahead = ahead;
              fresh = fresh;
              early = early;
              told = f.told;
              few = f.few;
            },
            ap (λ (a : Answered). outcome_of a)
                (sym (time_stepped x.core f.quiet (ended_by no_ends x.owed) x.now r f.is e.draw m on early ahead late)),
          )

      by_parts : (a b c d : Bool) → nat_le x.now m ≡ a → nat_le m last_moment ≡ b → ends_after m x.core ≡ c
          → are_fresh m x.owed ≡ d
          → Goes r e (cond (a && b && c && d) (record x { now = m }, nothing_sent) (by_core x e))
      by_parts true true true true is early ahead fresh =
          quietly (grind (arith, nat_tests, is)) (grind (arith, nat_tests, early)) ahead fresh
      by_parts false b c d is early ahead fresh = core_goes
      by_parts true false c d is early ahead fresh = core_goes
      by_parts true true false d is early ahead fresh = core_goes
      by_parts true true true false is early ahead fresh = core_goes

      time_goes_on : Goes r e (time_goes x e m)
      unfolding time_goes passes_quietly
      time_goes_on =
          by_parts (nat_le x.now m) (nat_le m last_moment) (ends_after m x.core) (are_fresh m x.owed) refl refl refl refl

    kind_goes : (kind : EventKind) → e.kind ≡ kind → Goes r e (by_kind x e kind)
    kind_goes (EventKind.Advance m) h = time_goes_on m h
    kind_goes kind h = judged_goes (judged x.core kind) (ap (λ (k : EventKind). judged x.core k) h)

    pub step_goes : Goes r e (split_step x e)
    unfolding split_step
    step_goes = kind_goes e.kind refl

-- ---- events

pub run_goes : (events : List Event) (x : Split) (r : State) → Follows x r
    → ((split_ran x events).0 ≡ run r events) × Follows (split_ran x events).1 (state_after r events)
unfolding run state_after ran split_ran
run_goes [] x r f = (refl, f)
run_goes (e ∷ es) x r f =
    let first : Goes r e (split_step x e) = step_goes x r f e in
    let later : _ = run_goes es (split_step x e).0 (step r e).state first.0 in
    ((λ j. first.1 j ∷ later.0 j), later.1)

module _ (s : State) (rows : PlaneRows) (events : List Event) (rests : IsAtRest s) (early : s.present ≤ last_moment)
    (few : length s.configured.interfaces ≤ most_ifaces) (told : AreTold rows s) where
  abbrev pub ran_so : ((split_ran (whole s rows) events).0 ≡ run s events)
      × Follows (split_ran (whole s rows) events).1 (state_after s events)
  ran_so = run_goes events (whole s rows) s (whole_follows s rows rests early few told)

  pub split_sends : (split_ran (whole s rows) events).0 ≡ run s events
  split_sends = ran_so.0

  pub split_catches_up : caught_up (split_ran (whole s rows) events).1 ≡ state_after s events
  split_catches_up = caught (split_ran (whole s rows) events).1 (state_after s events) ran_so.1

  pub split_is_told : AreTold ((split_ran (whole s rows) events).1).rows (state_after s events)
  split_is_told = r_told (split_ran (whole s rows) events).1 (state_after s events) ran_so.1

pub opening_is_early : (c : Config) → (opening c).present ≤ last_moment
unfolding opening
opening_is_early c = omega arith

pub split_router_is_sound : SplitRouterIsSound
split_router_is_sound c events e =
    grind (arith, opening_is_at_rest, few_opening, split_sends, opening_is_early, opening_is_told, split_catches_up)
