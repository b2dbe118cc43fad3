-- At most one notice of a source is owed; and nothing ends before the core's next moment.
use Rattle.std.{proofs.{Common.{◌≡◌, ℕ, Bool, true, false, not, ◌||◌, cond, List, [], ◌∷◌, ◌++◌, Option, None, nat_le, nat_lt, option_map, refl, ◌∙◌, arith}, lemmas.{Bool.{or_parts, Decides.nat_tests}, List.Folds.list_any-append}}, specs.{List.{filter, list_all, list_any}, Option.option_map_or}}
use Rattle.pim_ip.{specs.Ipv4.Packet}
use Rattle.pim_types.{specs.{declared.{event.{Event.Event, EventKind.EventKind}, fact.Key.Key, outcome.Outcome.Outcome}, Keys.same_key}}
use Rattle.pim_model.{specs.{Judging.Judged, State.State, Timers.{Ending, is_ending_first, next_due, next_ending, next_moment, timers}}}
use Rattle.law_settled.{specs.Laws.ends_after, proofs.{ListLaws.{any_of_filter, nothing_first}, RowLaws.same_key_swap, TimerLaws.next_due_is_next}}
use Rattle.law_plane.{specs.{Offload.Handling, Split.{Notice, Split, by_core, by_judgement, by_kind, by_plane, noted, nothing_sent, split_ran, split_step, time_goes, whole, with_notice}, SplitLaws.{NamesEachOnce, QuietBeforeNext, SplitOwesOneEach}}, proofs.Times.none_due}

-- ---- one notice a source

abbrev among : Key → List Notice → Bool
among k ns = list_any (λ (o : Notice). same_key k o.source) ns

module _ (n : Notice) where
  abbrev others : Notice → Bool
  others o = not (same_key n.source o.source)

  fewer : (k : Key) (ns : List Notice) (b : Bool) → among k (filter others ns) ≡ b → among k ns ≡ false → b ≡ false
  fewer k ns b e out = grind (arith, any_of_filter)

  none_of_it : (ns : List Notice) → among n.source (filter others ns) ≡ false
  none_of_it [] = refl
  none_of_it (o ∷ ns) = grind (arith, none_of_it ns)

  still_apart : (ns : List Notice) → NamesEachOnce ns → NamesEachOnce (filter others ns)
  still_apart [] apart = tt
  still_apart (o ∷ ns) apart = go (same_key n.source o.source) (still_apart ns apart.1)
    where
      go : (b : Bool) → NamesEachOnce (filter others ns) → NamesEachOnce (cond (not b) (o ∷ filter others ns) (filter others ns))
      go true ih = ih
      go false ih = (fewer o.source ns (among o.source (filter others ns)) refl apart.0, ih)

  last_apart : (ns : List Notice) → among n.source ns ≡ false → NamesEachOnce ns → NamesEachOnce (ns ++ n ∷ [])
  last_apart [] out apart = (refl, tt)
  last_apart (o ∷ ns) out apart =
      let parts : _ = or_parts (same_key n.source o.source) (among n.source ns) out in (
        list_any-append (λ (p : Notice). same_key o.source p.source) ns (n ∷ [])
            ∙ (λ j. apart.0 j || ((same_key_swap o.source n.source ∙ parts.0) j || false)),
        last_apart ns parts.1 apart.1,
      )

  pub noted_apart : (ns : List Notice) → NamesEachOnce ns → NamesEachOnce (noted n ns)
  unfolding noted
  noted_apart ns apart = last_apart (filter others ns) (none_of_it ns) (still_apart ns apart)

module _ (x : Split) (e : Event) (apart : NamesEachOnce x.owed) where
  abbrev OwesApart : Split × Outcome → Type 0
  OwesApart u = NamesEachOnce (u.0).owed

  core_apart : OwesApart (by_core x e)
  unfolding by_core
  core_apart = tt

  notice_apart : (p : Packet) (alive : Bool) → NamesEachOnce (with_notice x e p alive).owed
  unfolding with_notice
  notice_apart p alive = grind (arith, noted_apart)

  plane_apart : (p : Packet) (h : Handling) → OwesApart (by_plane x e p h)
  plane_apart p h = grind (arith, notice_apart, core_apart)

  judged_apart : (j : Judged) → OwesApart (by_judgement x e j)
  judged_apart j = grind (arith, plane_apart, core_apart)

  time_apart : (m : ℕ) (b : Bool) → OwesApart (cond b (record x { now = m }, nothing_sent) (by_core x e))
  time_apart m b = grind (arith, core_apart)

  kind_apart : (kind : EventKind) → OwesApart (by_kind x e kind)
  unfolding time_goes
  kind_apart kind = grind (arith, time_apart, judged_apart)

  step_apart : OwesApart (split_step x e)
  unfolding split_step
  step_apart = kind_apart e.kind

run_apart : (events : List Event) (x : Split) → NamesEachOnce x.owed → NamesEachOnce ((split_ran x events).1).owed
unfolding split_ran
run_apart [] x apart = apart
run_apart (e ∷ es) x apart = run_apart es (split_step x e).0 (step_apart x e apart)

pub split_owes_one_each : SplitOwesOneEach
split_owes_one_each s rows events = run_apart events (whole s rows) tt

-- ---- the next moment

module _ (m : ℕ) (s : State) where
  abbrev is_due : Ending → Bool
  is_due d = nat_le d.end m

  none_filtered : (ds : List Ending) → filter is_due ds ≡ [] → list_all (λ (d : Ending). nat_lt m d.end) ds ≡ true
  none_filtered [] e = refl
  none_filtered (d ∷ ds) e = grind (arith, none_filtered ds, nat_tests)

  ahead_where_none : next_due m s ≡ None → ends_after m s ≡ true
  unfolding next_due
  ahead_where_none e = none_filtered (timers s) (nothing_first is_ending_first (filter is_due (timers s)) e)

  by_next : (o : Option Ending) → next_ending s ≡ o → (b : Bool) → ends_after m s ≡ b
      → b ≡ option_map_or (nat_lt m) (option_map (λ (d : Ending). d.end) o) true
  by_next o f b e = grind (arith, ahead_where_none, next_due_is_next, none_due, nat_tests)

pub quiet_before_next : QuietBeforeNext
unfolding next_moment
quiet_before_next m s = by_next m s (next_ending s) refl (ends_after m s) refl
