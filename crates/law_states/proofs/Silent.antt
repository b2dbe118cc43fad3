-- While its notes are told the router sends nothing.
use Rattle.std.{proofs.Common.{◌≡◌, ◌≤◌, ◌+◌, ℕ, true, false, cond, List, [], ◌∷◌, nat_lt, Some, refl, sym, ap, subst, ◌∙◌, arith}, specs.{Cmp.{first_so, second_so}, List.AllByRecursion}}
use Rattle.pim_ip.{specs.Ipv4.Packet}
use Rattle.pim_types.{specs.{declared.{config.IfaceId.IfaceId, event.{Event.Event, EventKind.EventKind}, fact.Key.Key, outcome.Outcome.Outcome}, Keys.{group_in, source_in}}}
use Rattle.pim_model.{specs.{Cache.{Answers, Plain, answers, plain}, Judging.last_moment, Registers.keepalive_period, Sets.Set, State.{State, opening}, Step.{Answered, outcome_of, ran, run, state_after, step}, Writing.copies_of}}
use Rattle.law_settled.{specs.Laws.ends_after, proofs.ListLaws.each_append}
use Rattle.law_events.{specs.{Rest.IsAtRest, Decided.{IsDecided, plainly_taken}}, proofs.{Rest.opening_is_at_rest, RowsOfRuns.few_opening}}
use Rattle.law_plane.{specs.{Seen.seen_event, Split.{Notice, Split, advance_to, nothing_sent, split_ran, whole}, ToldLaws.no_plane_rows}, proofs.{Decides.{row_decides, row_decides_any}, Ends.{AreLate, Ends, no_ends, set_end}, Notes.none_late, Passes.{IsOwed, Passed, RisesTo, ahead_before, are_fresh, late_before, late_set, rises_to, stepped, time_passes, time_stepped}, SeenPackets.{bare, heard}, Splits.{Follows, at_first, opening_is_early, run_goes, whole_follows}, ToldRows.opening_is_told}}
use Rattle.law_states.{specs.{Kept.{Way, iface_of, is_kept, told_note}, Silent.{CatchesUpSilently, IsSilent, told_outcomes}}, proofs.{Frames.{ByFrame, by_frame}, KeptSplits.ran_near, KeptUp.{AreBy, bounded, by_more, cond_most, near_then, none_by, note_passes, set_by}, NearEnds.{EndBy, EndsNear, opening_near}}}

-- ---- what decides a packet decides one whose TTL has run out

spent_same : (r : Answers) (i ttl : ℕ) → nat_lt 1 ttl ≡ false → plain r i ttl ≡ plain r i 1
unfolding plain
spent_same r i ttl e = rw e refl

decides_spent : (r : Answers) (i ttl : ℕ) (how : Plain) → plain r i ttl ≡ Some how → plain r i 1 ≡ Some how
decides_spent r i ttl how e = grind (arith, row_decides_any, row_decides, spent_same)

-- ---- one note

module _ (core : State) (quiet : IsAtRest core) (now : ℕ) (w : Way) (early : now ≤ last_moment) (ahead : ends_after now core ≡ true)
    (near : EndBy core.present core.sources) where
  module _ (n : Notice) (its : IsOwed core quiet n) (f : Ends) (m : ℕ) (t : State) (is : Passed core quiet f m t)
      (on : m ≤ n.moment) (until : n.moment ≤ now) (late : AreLate now f) where
    abbrev p : Packet
    p = its.packet

    abbrev how : Plain
    how = record { keeps = true; list = its.list }

    abbrev then : State
    then = (step t (advance_to n.moment)).state

    at_it : Passed core quiet f n.moment then
    at_it =
        time_passes core quiet f m t is 0 n.moment on (omega (arith, until, early)) (ahead_before core n.moment now until ahead)
        (late_before f n.moment now until late)

    came : ByFrame core (n.packet).kind its.decides.iif p
    came = by_frame core (n.packet).kind its.decides.iif p its.decides.heard

    abbrev seen_on : IfaceId → Event
    seen_on i = seen_event w.draw i p.destination p.source

    seen_decides : IsDecided core (seen_on its.decides.iif) (bare p.destination p.source) how
    seen_decides = record {
      iif = its.decides.iif;
      heard = heard core w.draw its.decides.iif came.bytes p came.data_is;
      known = its.decides.known;
      answered =
          decides_spent (answers core p.destination p.source) (its.decides.iif).number p.time_to_live how its.decides.answered;
    }

    none_left : (s : State) (list : Set) → copies_of s (bare p.destination p.source) list ≡ []
    unfolding copies_of
    none_left s list = refl

    seen_sends : (a : Answered) → a ≡ plainly_taken then (bare p.destination p.source) how → outcome_of a ≡ nothing_sent
    unfolding plainly_taken
    seen_sends a e = grind (arith, none_left)

    seen_silent : outcome_of (step then (seen_on (iface_of (n.packet).kind))) ≡ nothing_sent
    seen_silent =
        ap (λ (kind : EventKind). outcome_of (step then (seen_on (iface_of kind)))) came.kind_is
        ∙ seen_sends (step then (seen_on its.decides.iif))
        (stepped core quiet f n.moment then at_it (seen_on its.decides.iif) (bare p.destination p.source) how seen_decides)

    time_silent : outcome_of (step t (advance_to n.moment)) ≡ nothing_sent
    time_silent =
        ap (λ (a : Answered). outcome_of a)
        (time_stepped core quiet f m t is 0 n.moment on (omega (arith, until, early)) (ahead_before core n.moment now until ahead)
        (late_before f n.moment now until late))

    abbrev at_key : Key → List Outcome
    at_key q =
        run t (advance_to n.moment ∷ seen_event w.draw (iface_of (n.packet).kind) (group_in q) (source_in q) ∷ [])

    both_silent : AllByRecursion IsSilent (at_key n.source)
    unfolding run ran
    both_silent = subst (λ (q : Key). AllByRecursion IsSilent (at_key q)) (sym its.source) (time_silent, (seen_silent, tt))

    note_silent : AllByRecursion IsSilent (cond (is_kept w t n) [] (at_key n.source))
    note_silent = grind (arith, both_silent)

  -- ---- all of them, and the present

  present_silent : (f : Ends) (m : ℕ) (t : State) → Passed core quiet f m t → m ≤ now → AreLate now f
      → AllByRecursion IsSilent (run t (advance_to now ∷ []))
  unfolding run ran
  present_silent f m t is on late =
      (ap (λ (a : Answered). outcome_of a) (time_stepped core quiet f m t is 0 now on early ahead late), tt)

  notes_silent : (ns : List Notice) (f : Ends) (m last : ℕ) (t : State) → Passed core quiet f m t → m ≤ last
      → core.present ≤ last → AreBy last f → AllByRecursion (IsOwed core quiet) ns → RisesTo last now ns → AreLate now f
      → are_fresh now ns ≡ true → AllByRecursion IsSilent (told_outcomes w now t ns)
  unfolding told_outcomes
  notes_silent [] f m last t is on from by owed rises late fresh =
      present_silent f m t is (omega (arith, on, rises)) late
  notes_silent (n ∷ ns) f m last t is on from by owed rises late fresh =
      let until : n.moment ≤ now = rises_to n.moment now ns rises.1 in
      let later : last ≤ n.moment = rises.0 in
      let here : m ≤ n.moment = omega (arith, on, later) in
      let since : core.present ≤ n.moment = omega (arith, from, later) in
      let bound : AreBy n.moment f = by_more last n.moment f later by in
      let one : Passed core quiet (set_end f n.source (n.moment + keepalive_period)) (cond (is_kept w t n) m n.moment)
      (told_note w t n) =
      note_passes core quiet now w early ahead near n owed.0 f m t is until late
      (bounded t (group_in n.source) (source_in n.source) n.moment
      (near_then core quiet now w early ahead near f m t is n.moment since bound)) (λ out. here) in
      each_append IsSilent _ (told_outcomes w now (told_note w t n) ns)
      (note_silent n owed.0 f m t is here until late)
      (notes_silent ns (set_end f n.source (n.moment + keepalive_period)) (cond (is_kept w t n) m n.moment) n.moment
      (told_note w t n) one (cond_most core quiet now w early ahead near (is_kept w t n) m n.moment here) since
      (set_by n.moment f n.source bound) owed.1 rises.1
      (late_set now f n.source (n.moment + keepalive_period) late (first_so (nat_lt now (n.moment + keepalive_period)) (are_fresh now ns) fresh))
      (second_so (nat_lt now (n.moment + keepalive_period)) (are_fresh now ns) fresh))

pub catches_up_silently : CatchesUpSilently
catches_up_silently c events w e =
    let x : Split = whole (opening c) no_plane_rows in
    let f : Follows x (opening c) =
    whole_follows (opening c) no_plane_rows (opening_is_at_rest c e) (opening_is_early c) (few_opening c e) (opening_is_told c) in
    let end : Split = (split_ran x events).1 in
    let g : Follows end (state_after (opening c) events) = (run_goes events x (opening c) f).1 in
    let near : EndsNear end.core = ran_near events x (opening_near c) in
    notes_silent end.core g.quiet end.now w g.early g.ahead near.ends end.owed no_ends (end.core).present (end.core).present
    end.core (at_first end.core g.quiet) (omega arith) (omega arith) (none_by (end.core).present) g.owed g.rises
    (none_late end.now) g.fresh
