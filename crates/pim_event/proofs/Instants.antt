-- Time that passes: how far a loop over timers has come.
use Rattle.std.{proofs.{Common.{◌≡◌, ◌≤◌, ◌<◌, ℕ, nat_le, Bool, true, false, cond, List, [], ◌++◌, Ok, Err, Result, OnOk, append_assoc, append-nil, le-leb, Option, Some, None, option_map, refl, ap, subst, sym, ◌∙◌, arith}, lemmas.Bool.Decides.nat_tests}, specs.Option.option_map_or}
use Rattle.pim_types.{specs.declared.{fact.{Key.Key, SourceRow.SourceRow}, outcome.Emission.Emission, timer.{Timer.Timer, TimerKind.TimerKind}}}
use Rattle.pim_model.{specs.{Firing.{fire_all, fire_instant, fire_once, fire_row, fired, keepalive_due, silent}, Messages.Message, Reach.own_firing, Repeat.and_then, State.State, Tables.row_at, Timers.{Ending, next_due, next_ending}}}
use Rattle.law_settled.{specs.{Laws.{IsReady, due_by, ends_from}, Ready.IsLawful}, proofs.{FiringLaws.{InInstant, ahead_is_ready, begins, fewer_due, fewer_instants, firing_goes_on, firing_stops, instant_goes_on, instant_is_complete, instant_stops, instants_left, ready_at_present, sound_of, still_due, still_inside}, TimerLaws.{from_shown, next_due_is_next, shown_from}, LawfulFiring.{instant_is_lawful, one_firing_is_lawful}}}
use Rattle.law_events.{specs.Locality.IsQuiet, proofs.Rest.{instant_is_quiet, one_firing_quiets}}
use Rattle.pim_state.{specs.{Turns.{Taking, saying}, declared.touched.Touched.Touched}}
use Rattle.pim_views.{specs.{Openings.opening_of, declared.opening.GroupOpening.GroupOpening}}
use Rattle.pim_store.{specs.PimTables.{AreKeyed, pim_tables}}
use Rattle.pim_fanout.{specs.Contains.Contains}
use Rattle.pim_settling.{proofs.Settling.settled_as_opened, specs.Settling.settled_by}
use Rattle.pim_event.{proofs.Expiring.end_covered, specs.Ends.{ending_of, touched_by_end}}
use Rattle.pim_tables.{specs.Ends.due_of}

-- ---- what a result says where it is Ok

pub on_ok : {A E : Type 0} {P : Type 0} (r : Result A E) → P → OnOk r P
on_ok (Ok x) p = p
on_ok (Err e) p = tt

-- ---- the expiry of a keepalive timer, in silence

keepalive_silent : (s : State) (k : Key) → (fired s TimerKind.Keepalive k).1 ≡ []
unfolding fired fire_row
keepalive_silent s k = go (row_at s.sources k)
  where
    go : (o : Option SourceRow) → (option_map_or (λ r. silent (keepalive_due s k r)) o (s, [])).1 ≡ []
    go None = refl
    go (Some r) = refl

pub says_nothing : (s : State) (k : Key) (t : Taking) → t ≡ saying t (fired s TimerKind.Keepalive k).1
says_nothing s k t =
    ap (λ (ms : List Message). let u : Taking = record { draw = t.draw; messages = ms } in u)
    (sym (append-nil t.messages) ∙ ap (λ (ms : List Message). t.messages ++ ms) (sym (keepalive_silent s k)))

-- ---- what is due, as it is told

pub ending_told : (o : Option Ending) (due : ℕ × Timer) → option_map due_of o ≡ Some due → o ≡ Some (ending_of due)
ending_told None due e = cc
ending_told (Some d) due e = cc

pub none_told : (o : Option Ending) → option_map due_of o ≡ None → o ≡ None
none_told None e = refl
none_told (Some d) e = cc

module _ (m : ℕ) (s : State) where
  due_told : (o : Option Ending) → next_ending s ≡ o → option_map due_of (due_by m o) ≡ option_map due_of (next_due m s)
  due_told o is = ap (option_map due_of) (ap (due_by m) (sym is) ∙ sym (next_due_is_next m s))

  not_yet : (n : ℕ) → m < n → nat_le n m ≡ false
  not_yet n late = grind (arith, nat_tests, late)

  chosen : (b : Bool) (d : Ending) → nat_le d.end m ≡ b → cond b (Some d) None ≡ due_by m (Some d)
  chosen b d e = ap (λ (c : Bool). cond c (Some d) None) (sym e)

  pub is_due : (due : ℕ × Timer) → Some due ≡ option_map due_of (next_ending s) → due.0 ≤ m
      → Some due ≡ option_map due_of (next_due m s)
  is_due due first early = go (next_ending s) refl first
    where
      go : (o : Option Ending) → next_ending s ≡ o → Some due ≡ option_map due_of o
          → Some due ≡ option_map due_of (next_due m s)
      go None is e = cc
      go (Some d) is e =
          let same : due.0 ≡ d.end = cc in
          e ∙ ap (option_map due_of) (chosen true d (ap (λ (n : ℕ). nat_le n m) (sym same) ∙ le-leb due.0 m early))
          ∙ due_told (Some d) is

  pub isnt_due : (due : ℕ × Timer) → Some due ≡ option_map due_of (next_ending s) → m < due.0
      → None ≡ option_map due_of (next_due m s)
  isnt_due due first late = go (next_ending s) refl first
    where
      go : (o : Option Ending) → next_ending s ≡ o → Some due ≡ option_map due_of o
          → None ≡ option_map due_of (next_due m s)
      go None is e = cc
      go (Some d) is e =
          let same : due.0 ≡ d.end = cc in
          ap (option_map due_of) (chosen false d (ap (λ (n : ℕ). nat_le n m) (sym same) ∙ not_yet due.0 late))
          ∙ due_told (Some d) is

  pub none_due : None ≡ option_map due_of (next_ending s) → None ≡ option_map due_of (next_due m s)
  none_due first = go (next_ending s) refl first
    where
      go : (o : Option Ending) → next_ending s ≡ o → None ≡ option_map due_of o
          → None ≡ option_map due_of (next_due m s)
      go None is e = due_told None is
      go (Some d) is e = cc

-- ---- what was sent, and what is still to be sent

abbrev behind : List Emission → State × List Emission → State × List Emission
behind es p = (p.0, es ++ p.1)

goes_on : (es fs : List Emission) (p : State × List Emission) → behind es (behind fs p) ≡ behind (es ++ fs) p
goes_on es fs p = ap (λ (gs : List Emission). let r : State × List Emission = (p.0, gs) in r) (sym (append_assoc es fs p.1))

-- of all that is to happen `whole`, from what was sent at the beginning, `left` is still to come
abbrev Comes : List Emission → State × List Emission → List Emission → State × List Emission → Type 0
Comes first whole sent left = behind first whole ≡ behind sent left

at_the_end : (first : List Emission) (whole : State × List Emission) (sent : List Emission) (s : State)
    → Comes first whole sent (s, []) → (s ≡ whole.0) × (sent ≡ first ++ whole.1)
at_the_end first whole sent s e = (
  sym (ap (λ (p : State × List Emission). p.0) e),
  sym (append-nil sent) ∙ sym (ap (λ (p : State × List Emission). p.1) e),
)

-- ---- the expiry of a timer in its turn

module _ (s : State) (due : ℕ × Timer) where
  abbrev at_end : State
  at_end = record s { present = due.0 }

  abbrev after_end : State × List Message
  after_end = fired at_end due.1.kind due.1.key

  pub fired_in_turn : (moved t : State) (touched : Touched) (opening : List GroupOpening) (first opened ended : Taking)
      → IsLawful s → IsQuiet s → AreKeyed (pim_tables s) → AreKeyed (pim_tables t) → touched ≡ touched_by_end s due.1.kind due.1.key
      → opening ≡ opening_of s touched → first.messages ≡ [] → opened ≡ first → moved ≡ at_end
      → t ≡ (fired moved due.1.kind due.1.key).0 → ended ≡ saying opened (fired moved due.1.kind due.1.key).1
      → settled_by opening t ended.messages ended.draw ≡ fire_once first.draw s (ending_of due)
  unfolding fire_once
  fired_in_turn moved t touched opening first opened ended lawful quiet keyed_before keyed touches opens none silent moves is said =
      let those : Touched = touched_by_end s due.1.kind due.1.key in
      let state : t ≡ after_end.0 = is ∙ ap (λ (x : State). (fired x due.1.kind due.1.key).0) moves in
      let told : ended ≡ saying first after_end.1 =
      said ∙ ap (λ (x : Taking). saying x (fired moved due.1.kind due.1.key).1) silent
      ∙ ap (λ (x : State). saying first (fired x due.1.kind due.1.key).1) moves in
      let drawn : ended.draw ≡ first.draw = ap (λ (x : Taking). x.draw) told in
      let sent : ended.messages ≡ after_end.1 =
      ap (λ (x : Taking). x.messages) told ∙ ap (λ (ms : List Message). ms ++ after_end.1) none in
      ap (λ (vs : List GroupOpening). settled_by vs t ended.messages ended.draw)
      (opens ∙ ap (opening_of s) touches)
      ∙ ap (λ (x : State). settled_by (opening_of s those) x ended.messages ended.draw) state
      ∙ ap (λ (ms : List Message). settled_by (opening_of s those) after_end.0 ms ended.draw) sent
      ∙ ap (λ (w : ℕ). settled_by (opening_of s those) after_end.0 after_end.1 w) drawn
      ∙ sym (settled_as_opened s after_end.0 quiet (subst (λ (x : State). AreKeyed (pim_tables x)) state keyed)
      after_end.1 first.draw those (end_covered s lawful keyed_before (ending_of due)))

  pub end_touched : (touched : Touched) → IsLawful s → AreKeyed (pim_tables s) → touched ≡ touched_by_end s due.1.kind due.1.key
      → Contains touched s (own_firing s (ending_of due))
  unfolding own_firing
  end_touched touched lawful keyed touches =
      subst (λ (t : Touched). Contains t s after_end.0) (sym touches) (end_covered s lawful keyed (ending_of due))

  pub end_fired : (moved t : State) → moved ≡ at_end → t ≡ (fired moved due.1.kind due.1.key).0
      → t ≡ own_firing s (ending_of due)
  unfolding own_firing
  end_fired moved t moves is = is ∙ ap (λ (x : State). (fired x due.1.kind due.1.key).0) moves

-- ---- within an instant

module _ (w : ℕ) (o : State) (e : Ending) (first : List Emission) where
  pub record WithinInstant (s : State) (sent : List Emission) : Type 0 where
    pub lawful : IsLawful s
    pub quiet : IsQuiet s
    pub inside : InInstant e.end o s
    pub comes : Comes first (fire_instant w o e) sent (fire_instant w s e)

  pub instant_begins : IsLawful o → IsQuiet o → ends_from e.end o ≡ true → WithinInstant o first
  instant_begins lawful quiet from = record {
    lawful = lawful;
    quiet = quiet;
    inside = begins w o e (sound_of o lawful.firable) (from_shown e.end o from);
    comes = refl;
  }

  module _ (s : State) (sent : List Emission) (within : WithinInstant s sent) where
    module _ (d : Ending) (there : next_due e.end s ≡ Some d) where
      pub firing_follows : (t : State) (more : List Emission) → t ≡ (fire_once w s d).0
          → more ≡ sent ++ (fire_once w s d).1 → WithinInstant t more
      unfolding and_then
      firing_follows t more is said =
          let fires : State × List Emission = fire_once w s d in
          let after : WithinInstant fires.0 (sent ++ fires.1) = record {
            lawful = one_firing_is_lawful w s d within.lawful;
            quiet = one_firing_quiets w s d within.lawful;
            inside = still_inside w e.end o s d within.inside there;
            comes =
                within.comes
                ∙ ap (behind sent) (instant_goes_on w s e d within.lawful.firable
                (shown_from e.end s within.inside.from) there)
                ∙ goes_on sent fires.1 (fire_instant w fires.0 e);
          } in
          subst (λ (es : List Emission). WithinInstant t es) (sym said)
          (subst (λ (u : State). WithinInstant u (sent ++ fires.1)) (sym is) after)

      pub fewer_after : (t : State) → t ≡ (fire_once w s d).0 → still_due e.end o t < still_due e.end o s
      fewer_after t is =
          subst (λ (u : State). still_due e.end o u < still_due e.end o s) (sym is)
          (fewer_due w e.end o s d within.inside there)

    pub instant_ends : next_due e.end s ≡ None → (s ≡ (fire_instant w o e).0) × (sent ≡ first ++ (fire_instant w o e).1)
    instant_ends none =
        at_the_end first (fire_instant w o e) sent s
        (within.comes ∙ ap (behind sent) (instant_stops w s e none))

-- ---- instant after instant

module _ (w m : ℕ) (o : State) (first : List Emission) where
  pub record ByMoment (s : State) (sent : List Emission) : Type 0 where
    pub lawful : IsLawful s
    pub quiet : IsQuiet s
    pub ready : IsReady s.present s
    pub comes : Comes first (fire_all w m o) sent (fire_all w m s)

  pub firing_begins : IsLawful o → IsQuiet o → IsReady o.present o → ByMoment o first
  firing_begins lawful quiet ready = record { lawful = lawful; quiet = quiet; ready = ready; comes = refl }

  module _ (s : State) (sent : List Emission) (by : ByMoment s sent) where
    module _ (e : Ending) (there : next_due m s ≡ Some e) where
      pub instant_follows : (t : State) (more : List Emission) → t ≡ (fire_instant w s e).0
          → more ≡ sent ++ (fire_instant w s e).1 → ByMoment t more
      unfolding and_then
      instant_follows t more is said =
          let fires : State × List Emission = fire_instant w s e in
          let after : ByMoment fires.0 (sent ++ fires.1) = record {
            lawful = instant_is_lawful w s e by.lawful;
            quiet = instant_is_quiet w s e by.lawful by.quiet;
            ready =
                ready_at_present e.end fires.0
                (ahead_is_ready e.end fires.0 (instant_is_complete w m s e by.lawful.firable there));
            comes =
                by.comes
                ∙ ap (behind sent) (firing_goes_on w m s e by.ready there)
                ∙ goes_on sent fires.1 (fire_all w m fires.0);
          } in
          subst (λ (es : List Emission). ByMoment t es) (sym said)
          (subst (λ (u : State). ByMoment u (sent ++ fires.1)) (sym is) after)

      pub sooner_after : (t : State) → t ≡ (fire_instant w s e).0
          → instants_left m (next_due m t) < instants_left m (next_due m s)
      sooner_after t is =
          subst (λ (u : State). instants_left m (next_due m u) < instants_left m (next_due m s)) (sym is)
          (fewer_instants w m s e (sound_of s by.lawful.firable) there)

    pub firing_ends : next_due m s ≡ None → (s ≡ (fire_all w m o).0) × (sent ≡ first ++ (fire_all w m o).1)
    firing_ends none =
        at_the_end first (fire_all w m o) sent s (by.comes ∙ ap (behind sent) (firing_stops w m s none))
