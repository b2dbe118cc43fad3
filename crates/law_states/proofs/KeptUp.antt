-- A core that is told of sources by the moments of their last packets is in the state of one that hears of these
-- packets.
use Rattle.std.{proofs.{Common.{◌≡◌, ◌+◌, ◌≤◌, ℕ, Bool, true, false, ◌&&◌, cond, List, [], ◌∷◌, map, Option, Some, None, nat_lt, refl, sym, ap, subst, ◌∙◌, arith}, lemmas.Bool.Decides.nat_tests}, specs.{Cmp.{first_so, second_so}, List.{AllByRecursion, Sorted.IsStrictlySortedBy}, Option.option_or}}
use Rattle.pim_ip.{specs.Ipv4.Packet}
use Rattle.pim_types.{specs.{declared.{config.IfaceId.IfaceId, event.{Event.Event, EventKind.EventKind}, fact.{Key.Key, SourceRow.SourceRow}}, Keys.{group_in, key_cmp, source_in, source_key}}}
use Rattle.pim_model.{specs.{Cache.Plain, Judging.last_moment, Plain.fact_key, Registers.{keepalive_period, with_keepalive}, Sets.{is_kept_alive, spt_bit}, State.State, Step.{ran, state_after, step}, Tables.{Table, has_row, keys_in}}}
use Rattle.law_settled.{specs.Laws.ends_after, proofs.{ListLaws.{each_map, each_more}, TableLaws.row_of_each}}
use Rattle.law_events.{specs.{Rest.IsAtRest, Decided.IsDecided}, proofs.{KeptAlive.with_its_row, Puts.put_same}}
use Rattle.law_plane.{specs.{Keeping.{keep, keepalive_end, kept_until}, Seen.seen_event, Split.{Notice, Split, advance_to}}, proofs.{Ends.{AreLate, Ends, ended, kept_ended, no_ends, set_end, with_ends}, Hears.data_alike, Keeps.{keep_changes_no_answer, keep_changes_no_row, keep_is_at_rest}, Notes.none_late, Passes.{IsOwed, Passed, RisesTo, ahead_before, are_fresh, ended_by, late_before, late_set, packet_passes, rises_to, time_passes}, SeenPackets.seen_is_stepped, Splits.{Follows, at_first}}}
use Rattle.law_states.{specs.Kept.{iface_of, kept_up, Way, is_kept, told_note, told_notes}, proofs.{Frames.{ByFrame, by_frame}, NearEnds.{EndBy, EndsNear, IsBy, by_later}}}

module _ (t : State) (g src : ℕ) where
  -- a timer that runs ends
  ends_then : is_kept_alive t g src ≡ true → keepalive_end t g src ≡ None → ⊥
  unfolding is_kept_alive keepalive_end
  ends_then runs none = grind arith

  pub bounded : (last : ℕ) → EndBy last t.sources → (end : ℕ) → keepalive_end t g src ≡ Some end → end ≤ last + keepalive_period
  unfolding keepalive_end
  bounded last near end e = grind (arith, row_of_each)

  -- set where it ends anyway
  as_it_was : IsStrictlySortedBy key_cmp (keys_in t.sources) → (end : ℕ) → keepalive_end t g src ≡ Some end
      → kept_until t g src end ≡ t
  unfolding keepalive_end kept_until spt_bit
  as_it_was rises end e = grind (arith, put_same)

abbrev pub AreBy : ℕ → Ends → Type 0
AreBy last f = (k : Key) (end : ℕ) → f k ≡ Some end → end ≤ last + keepalive_period

pub none_by : (last : ℕ) → AreBy last no_ends
none_by last k end e = let none : ⊥ = cc in absurd none

pub set_by : (last : ℕ) (f : Ends) (k : Key) → AreBy last f → AreBy last (set_end f k (last + keepalive_period))
set_by last f k by q x e = grind arith

pub by_more : (a b : ℕ) (f : Ends) → a ≤ b → AreBy a f → AreBy b f
by_more a b f le by k end e = let x : end ≤ a + keepalive_period = by k end e in omega (arith, le, x)

ended_near : (last : ℕ) (f : Ends) (t : Table SourceRow) → AreBy last f → EndBy last t → EndBy last (map (ended f) t)
ended_near last f t by near =
    each_map (λ e. IsBy last (e.1).keepalive) (λ e. IsBy last (e.1).keepalive) (ended f) (λ e h. go (f e.0) (e.1).keepalive (λ end is. by e.0 end is) h) t near
  where
    go : (new old : Option ℕ) → ((end : ℕ) → new ≡ Some end → end ≤ last + keepalive_period) → IsBy last old
        → IsBy last (option_or new old)
    go None old set h = h
    go (Some end) old set h = set end refl

module _ (core : State) (quiet : IsAtRest core) where
  -- ---- one note, by its moment

  module _ (f : Ends) (m : ℕ) (t : State) (is : Passed core quiet f m t) (g src moment : ℕ)
      (known : has_row core.sources (source_key 0 g src) ≡ true) where
    abbrev k : Key
    k = source_key 0 g src

    abbrev its_ends : Ends
    its_ends = set_end f k (moment + keepalive_period)

    set_to : kept_until t g src (moment + keepalive_period) ≡ with_ends its_ends core m
    unfolding kept_until with_keepalive spt_bit
    set_to =
        ap (λ (u : State). kept_until u g src (moment + keepalive_period)) is.same
        ∙ with_its_row k core.sources known
        (λ r found. ap (λ (u : State). record u { present = m }) (kept_ended f core moment g src r quiet.settled.ordered.sources found))

    kept_so : is_kept_alive t g src ≡ true
        → ((end : ℕ) → keepalive_end t g src ≡ Some end → end ≤ moment + keepalive_period)
        → keep t g src moment ≡ with_ends its_ends core m
    unfolding keep
    kept_so runs near = grind (arith, with_ends, set_to, nat_tests, as_it_was, ends_then)

    pub keep_passes : is_kept_alive t g src ≡ true
        → ((end : ℕ) → keepalive_end t g src ≡ Some end → end ≤ moment + keepalive_period)
        → Passed core quiet its_ends m (keep t g src moment)
    keep_passes runs near = record {
      rests = keep_is_at_rest t g src moment is.rests;
      same = kept_so runs near;
      rows = λ h x. keep_changes_no_row t g src moment h x ∙ is.rows h x;
      alike = λ h x. keep_changes_no_answer t g src moment h x ∙ is.alike h x;
    }

  -- ---- a note, by its moment or as a packet that was seen

  module _ (now : ℕ) (w : Way) (early : now ≤ last_moment) (ahead : ends_after now core ≡ true) (near : EndBy core.present core.sources)
    where
      module _ (n : Notice) (its : IsOwed core quiet n) (f : Ends) (m : ℕ) (t : State) (is : Passed core quiet f m t)
          (on : m ≤ n.moment) (until : n.moment ≤ now) (late : AreLate now f) where
        abbrev p : Packet
        p = its.packet

        abbrev how : Plain
        how = record { keeps = true; list = its.list }

        abbrev new_ends : Key → Ends
        new_ends q = set_end f q (n.moment + keepalive_period)

        -- seen
        abbrev then : State
        then = (step t (advance_to n.moment)).state

        abbrev shown : Event
        shown = record { draw = w.draw; kind = (n.packet).kind }

        shown_decides : IsDecided core shown p how
        shown_decides = grind arith

        at_it : Passed core quiet f n.moment then
        at_it =
            time_passes core quiet f m t is 0 n.moment on (omega (arith, until, early)) (ahead_before core n.moment now until ahead)
            (late_before f n.moment now until late)

        came : ByFrame then (n.packet).kind its.decides.iif p
        came = grind (arith, by_frame, at_it, data_alike)

        abbrev seen_then : IfaceId → State
        seen_then i = (step then (seen_event w.draw i p.destination p.source)).state

        seen_same : seen_then (iface_of (n.packet).kind) ≡ (step then shown).state
        seen_same =
            ap (λ (kind : EventKind). seen_then (iface_of kind)) came.kind_is
            ∙ (seen_is_stepped then shown its.decides.iif came.bytes p came.kind_is came.data_is).state_is

        seen_passes : Passed core quiet (new_ends (fact_key p)) n.moment (seen_then (iface_of (n.packet).kind))
        seen_passes =
            subst (λ (u : State). Passed core quiet (new_ends (fact_key p)) n.moment u) (sym seen_same)
            (packet_passes core quiet f n.moment then at_it shown p how shown_decides)

      -- by its moment where its timer runs, else seen
      module _ (n : Notice) (its : IsOwed core quiet n) (f : Ends) (m : ℕ) (t : State) (is : Passed core quiet f m t)
          (until : n.moment ≤ now) (late : AreLate now f)
          (by : (end : ℕ) → keepalive_end t (group_in n.source) (source_in n.source) ≡ Some end → end ≤ n.moment + keepalive_period)
        where
          abbrev ends_of : Key → Ends
          ends_of q = set_end f q (n.moment + keepalive_period)

          abbrev told_as : Bool → Key → State
          told_as b q =
              cond b (keep t (group_in q) (source_in q) n.moment)
              (state_after t (advance_to n.moment ∷ seen_event w.draw (iface_of (n.packet).kind) (group_in q) (source_in q) ∷ []))

          abbrev LaterIf : Bool → ℕ
          LaterIf b = cond b m n.moment

          abbrev BoundOf : Key → Type 0
          BoundOf q = (end : ℕ) → keepalive_end t (group_in q) (source_in q) ≡ Some end → end ≤ n.moment + keepalive_period

          told_so : (b : Bool) → (w.keeps n && is_kept_alive t its.packet.destination its.packet.source) ≡ b → (b ≡ false → m ≤ n.moment)
              → BoundOf (fact_key its.packet)
              → Passed core quiet (ends_of (fact_key its.packet)) (LaterIf b) (told_as b (fact_key its.packet))
          unfolding state_after ran
          told_so true runs on bound =
              keep_passes f m t is (its.packet).destination (its.packet).source n.moment its.decides.known
              (second_so (w.keeps n) (is_kept_alive t its.packet.destination its.packet.source) runs) bound
          told_so false runs on bound = seen_passes n its f m t is (on refl) until late

          told_at : (b : Bool) → (w.keeps n && is_kept_alive t (group_in n.source) (source_in n.source)) ≡ b → (b ≡ false → m ≤ n.moment)
              → Passed core quiet (ends_of n.source) (LaterIf b) (told_as b n.source)
          told_at b runs on =
              subst (λ (q : Key). (w.keeps n && is_kept_alive t (group_in q) (source_in q)) ≡ b → BoundOf q
              → Passed core quiet (ends_of q) (LaterIf b) (told_as b q)) (sym its.source)
              (λ r bound. told_so b r on bound) runs by

          pub note_passes : (is_kept w t n ≡ false → m ≤ n.moment)
              → Passed core quiet (ends_of n.source) (LaterIf (is_kept w t n)) (told_note w t n)
          unfolding told_note
          note_passes on = told_at (is_kept w t n) refl on

      pub cond_most : (b : Bool) (m k : ℕ) → m ≤ k → cond b m k ≤ k
      cond_most b m k le = grind arith

      pub near_then : (f : Ends) (m : ℕ) (t : State) → Passed core quiet f m t → (last : ℕ) → core.present ≤ last → AreBy last f
          → EndBy last t.sources
      near_then f m t is last from by = grind (arith, ended_near, each_more, by_later)

      pub tells : (ns : List Notice) (f : Ends) (m last : ℕ) (t : State) → Passed core quiet f m t → m ≤ last
          → core.present ≤ last → AreBy last f → AllByRecursion (IsOwed core quiet) ns → RisesTo last now ns → AreLate now f
          → are_fresh now ns ≡ true
          → Passed core quiet (ended_by f ns) now (state_after (told_notes w t ns) (advance_to now ∷ []))
      unfolding state_after ran told_notes ended_by
      tells [] f m last t is on from by owed rises late fresh =
          time_passes core quiet f m t is 0 now (omega (arith, on, rises)) early ahead late
      tells (n ∷ ns) f m last t is on from by owed rises late fresh =
          let until : n.moment ≤ now = rises_to n.moment now ns rises.1 in
          let later : last ≤ n.moment = rises.0 in
          let here : m ≤ n.moment = omega (arith, on, later) in
          let since : core.present ≤ n.moment = omega (arith, from, later) in
          let bound : AreBy n.moment f = by_more last n.moment f later by in
          let one : Passed core quiet (set_end f n.source (n.moment + keepalive_period)) (cond (is_kept w t n) m n.moment)
          (told_note w t n) =
          note_passes n owed.0 f m t is until late
          (bounded t (group_in n.source) (source_in n.source) n.moment (near_then f m t is n.moment since bound)) (λ out. here) in
          tells ns (set_end f n.source (n.moment + keepalive_period)) (cond (is_kept w t n) m n.moment) n.moment (told_note w t n) one
          (cond_most (is_kept w t n) m n.moment here) since
          (set_by n.moment f n.source bound) owed.1 rises.1
          (late_set now f n.source (n.moment + keepalive_period) late (first_so (nat_lt now (n.moment + keepalive_period)) _ fresh))
          (second_so (nat_lt now (n.moment + keepalive_period)) _ fresh)

      -- before the present
      pub record ToldBy (f : Ends) (last : ℕ) (t : State) : Type 0 where
        pub at : ℕ
        pub within : at ≤ last
        pub late : AreLate now f
        pub is : Passed core quiet f at t

      pub told_all : (ns : List Notice) (f : Ends) (m last : ℕ) (t : State) → Passed core quiet f m t → m ≤ last
          → core.present ≤ last → AreBy last f → AllByRecursion (IsOwed core quiet) ns → RisesTo last now ns → AreLate now f
          → are_fresh now ns ≡ true → ToldBy (ended_by f ns) now (told_notes w t ns)
      unfolding told_notes ended_by
      told_all [] f m last t is on from by owed rises late fresh =
          record { at = m; within = omega (arith, on, rises); late = late; is = is }
      told_all (n ∷ ns) f m last t is on from by owed rises late fresh =
          let until : n.moment ≤ now = rises_to n.moment now ns rises.1 in
          let later : last ≤ n.moment = rises.0 in
          let here : m ≤ n.moment = omega (arith, on, later) in
          let since : core.present ≤ n.moment = omega (arith, from, later) in
          let bound : AreBy n.moment f = by_more last n.moment f later by in
          let one : Passed core quiet (set_end f n.source (n.moment + keepalive_period)) (cond (is_kept w t n) m n.moment)
          (told_note w t n) =
          note_passes n owed.0 f m t is until late
          (bounded t (group_in n.source) (source_in n.source) n.moment (near_then f m t is n.moment since bound)) (λ out. here) in
          told_all ns (set_end f n.source (n.moment + keepalive_period)) (cond (is_kept w t n) m n.moment) n.moment (told_note w t n) one
          (cond_most (is_kept w t n) m n.moment here) since
          (set_by n.moment f n.source bound) owed.1 rises.1
          (late_set now f n.source (n.moment + keepalive_period) late (first_so (nat_lt now (n.moment + keepalive_period)) _ fresh))
          (second_so (nat_lt now (n.moment + keepalive_period)) _ fresh)

-- ---- a split router

pub told_follows : (x : Split) (r : State) (w : Way) → (f : Follows x r) → (near : EndsNear x.core)
    → ToldBy x.core f.quiet x.now w f.early f.ahead near.ends (ended_by no_ends x.owed) x.now (told_notes w x.core x.owed)
told_follows x r w f near =
    told_all x.core f.quiet x.now w f.early f.ahead near.ends x.owed no_ends (x.core).present (x.core).present x.core
    (at_first x.core f.quiet) (omega arith) (omega arith) (none_by (x.core).present) f.owed f.rises (none_late x.now) f.fresh

pub kept_follows : (x : Split) (r : State) (w : Way) → Follows x r → EndsNear x.core → kept_up w x ≡ r
kept_follows x r w f near =
    (tells x.core f.quiet x.now w f.early f.ahead near.ends x.owed no_ends (x.core).present (x.core).present x.core
    (at_first x.core f.quiet) (omega arith) (omega arith) (none_by (x.core).present) f.owed f.rises (none_late x.now) f.fresh).same
    ∙ sym (f.is).same
