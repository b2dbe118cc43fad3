-- What is told by `keep` may be told in any order.
use Rattle.std.{proofs.{Common.{◌≡◌, ◌+◌, ◌≤◌, ℕ, Bool, true, false, ◌&&◌, cond, List, [], ◌∷◌, map, Option, Some, None, nat_lt, refl, sym, ap, subst, ◌∙◌, arith}, lemmas.{Bool.or_parts, List.{Elements.recursion_from_All, Sorted.{All-permutation, IsPermutation-sym, list_any-IsPermutation}}}}, specs.{Cmp.{first_so, second_so}, List.{AllByRecursion, list_any, Sorted.IsPermutation}, Ordering.is_eq}}
use Rattle.pim_types.{specs.{declared.fact.{Key.Key, SourceRow.SourceRow}, Keys.{group_in, key_cmp, same_key, source_in, source_key}}, proofs.Keys.equal_keys}
use Rattle.pim_model.{specs.{Judging.last_moment, Registers.keepalive_period, Sets.is_kept_alive, State.{State, opening}, Step.{ran, state_after}, Tables.{Table, row_at}}}
use Rattle.law_settled.{specs.Laws.ends_after, proofs.{RowLaws.same_key_swap, ListLaws.{any_among_all, each_of_list, list_of_each}}}
use Rattle.law_events.{specs.Rest.IsAtRest, proofs.{Rest.opening_is_at_rest, RowsOfRuns.few_opening}}
use Rattle.law_streams.{proofs.Links.to_all}
use Rattle.law_plane.{specs.{Keeping.keepalive_end, Split.{Notice, Split, advance_to, split_ran, whole}, SplitLaws.NamesEachOnce, ToldLaws.no_plane_rows}, proofs.{Ends.{AreLate, Ends, ended, no_ends, set_end, with_ends}, Notes.none_late, Owing.split_owes_one_each, Passes.{IsOwed, Passed, RisesTo, are_fresh, ended_by, late_set, rises_to, time_passes}, Splits.{Follows, at_first, caught, opening_is_early, run_goes, whole_follows}, ToldRows.opening_is_told}}
use Rattle.law_states.{specs.Kept.{KeptInAnyOrder, SeenRise, Way, is_kept, runs_for, told_note, told_notes}, proofs.{KeptSplits.ran_near, KeptUp.{ToldBy, bounded, note_passes}, NearEnds.{EndBy, EndsNear, opening_near}}}

-- ---- a source whose end isn't new

module _ (f : Ends) (k : Key) (none : f k ≡ None) where
  untouched_step : (x : Key × SourceRow) (xs : Table SourceRow) (b : Bool) → is_eq (key_cmp k x.0) ≡ b
      → row_at (map (ended f) xs) k ≡ row_at xs k
      → cond b (Some (ended f x).1) (row_at (map (ended f) xs) k) ≡ cond b (Some x.1) (row_at xs k)
  untouched_step x xs b e ih = grind (arith, equal_keys)

  row_untouched : (t : Table SourceRow) → row_at (map (ended f) t) k ≡ row_at t k
  unfolding row_at
  row_untouched [] = refl
  row_untouched (x ∷ xs) = untouched_step x xs (is_eq (key_cmp k x.0)) refl (row_untouched xs)

module _ (f : Ends) (core : State) (m g src : ℕ) (none : f (source_key 0 g src) ≡ None) where
  alive_same : is_kept_alive (with_ends f core m) g src ≡ is_kept_alive core g src
  unfolding is_kept_alive
  alive_same = grind (arith, row_untouched)

  end_same : keepalive_end (with_ends f core m) g src ≡ keepalive_end core g src
  unfolding keepalive_end
  end_same = grind (arith, row_untouched)

-- ---- the others are still not new

abbrev pub Untouched : Ends → List Notice → Type 0
Untouched f ns = AllByRecursion (λ (n : Notice). f n.source ≡ None) ns

others_untouched : (f : Ends) (k : Key) (end : ℕ) (ns : List Notice) → list_any (λ (o : Notice). same_key k o.source) ns ≡ false
    → Untouched f ns → Untouched (set_end f k end) ns
others_untouched f k end [] out un = tt
others_untouched f k end (o ∷ ns) out un =
    let parts : _ = or_parts (same_key k o.source) (list_any (λ (o : Notice). same_key k o.source) ns) out in (
      ap (λ (b : Bool). cond b (Some end) (f o.source)) parts.0 ∙ un.0,
      others_untouched f k end ns parts.1 un.1,
    )

module _ (core : State) (quiet : IsAtRest core) (now : ℕ) (w : Way) (early : now ≤ last_moment) (ahead : ends_after now core ≡ true)
    (near : EndBy core.present core.sources) where
  abbrev pub InTime : Notice → Type 0
  InTime n = (core.present ≤ n.moment) × (n.moment ≤ now)

  key_is : (n : Notice) → IsOwed core quiet n → source_key 0 (group_in n.source) (source_in n.source) ≡ n.source
  key_is n its = subst (λ (q : Key). source_key 0 (group_in q) (source_in q) ≡ q) (sym its.source) refl

  at_most : (b : Bool) (m k now : ℕ) → m ≤ now → k ≤ now → cond b m k ≤ now
  at_most b m k now x y = grind arith

  -- the states before each note that is reported as a seen packet, and the one after all
  abbrev pub ToldEach : Ends → State → List Notice → Type 0
  ToldEach f t [] = ToldBy core quiet now w early ahead near f now t
  ToldEach f t (n ∷ ns) =
      (is_kept w t n ≡ false → ToldBy core quiet now w early ahead near f n.moment t × (n.moment ≤ now))
      × ToldEach (set_end f n.source (n.moment + keepalive_period)) (told_note w t n) ns

  -- notes before the present time are reported in order
  pub each_in_order : (ns : List Notice) (f : Ends) (m : ℕ) (t : State) → Passed core quiet f m t → m ≤ now → Untouched f ns
      → NamesEachOnce ns → AllByRecursion (IsOwed core quiet) ns → AllByRecursion InTime ns → SeenRise w core m ns
      → AreLate now f → are_fresh now ns ≡ true → ToldEach f t ns
  each_in_order [] f m t is on un once owed timely rises late fresh = record { at = m; within = on; late = late; is = is }
  each_in_order (n ∷ ns) f m t is on un once owed timely rises late fresh =
      let none : f (source_key 0 (group_in n.source) (source_in n.source)) ≡ None = ap f (key_is n owed.0) ∙ un.0 in
      let runs_same : is_kept w t n ≡ is_kept w core n =
      ap (λ (b : Bool). w.keeps n && b)
      (ap (λ (u : State). runs_for u n) is.same ∙ alive_same f core m (group_in n.source) (source_in n.source) none) in
      let end_is : keepalive_end t (group_in n.source) (source_in n.source)
      ≡ keepalive_end core (group_in n.source) (source_in n.source) =
      ap (λ (u : State). keepalive_end u (group_in n.source) (source_in n.source)) is.same
      ∙ end_same f core m (group_in n.source) (source_in n.source) none in
      let one : Passed core quiet (set_end f n.source (n.moment + keepalive_period)) (cond (is_kept w t n) m n.moment)
      (told_note w t n) =
      note_passes core quiet now w early ahead near n owed.0 f m t is timely.0.1 late
      (λ end e.
      let soon : end ≤ core.present + keepalive_period =
      bounded core (group_in n.source) (source_in n.source) core.present near end (sym end_is ∙ e) in
      let since : core.present ≤ n.moment = timely.0.0 in
      omega (arith, soon, since))
      (λ out. rises.0 (sym runs_same ∙ out)) in (
        (λ out. (record { at = m; within = rises.0 (sym runs_same ∙ out); late = late; is = is }, timely.0.1)),
        each_in_order ns (set_end f n.source (n.moment + keepalive_period)) (cond (is_kept w core n) m n.moment) (told_note w t n)
            (subst (λ (b : Bool). Passed core quiet (set_end f n.source (n.moment + keepalive_period)) (cond b m n.moment)
            (told_note w t n)) runs_same one)
            (at_most (is_kept w core n) m n.moment now on timely.0.1)
            (others_untouched f n.source (n.moment + keepalive_period) ns once.0 un.1) once.1 owed.1 timely.1 rises.1
            (late_set now f n.source (n.moment + keepalive_period) late (first_so (nat_lt now (n.moment + keepalive_period)) (are_fresh now ns) fresh))
            (second_so (nat_lt now (n.moment + keepalive_period)) (are_fresh now ns) fresh),
      )

  told_by_each : (ns : List Notice) (f : Ends) (t : State) → ToldEach f t ns
      → ToldBy core quiet now w early ahead near (ended_by f ns) now (told_notes w t ns)
  unfolding told_notes ended_by
  told_by_each [] f t each = each
  told_by_each (n ∷ ns) f t each = told_by_each ns (set_end f n.source (n.moment + keepalive_period)) (told_note w t n) each.1

  -- and time that goes on then
  in_order : (ns : List Notice) (f : Ends) (m : ℕ) (t : State) → Passed core quiet f m t → m ≤ now → Untouched f ns
      → NamesEachOnce ns → AllByRecursion (IsOwed core quiet) ns → AllByRecursion InTime ns → SeenRise w core m ns
      → AreLate now f → are_fresh now ns ≡ true
      → Passed core quiet (ended_by f ns) now (state_after (told_notes w t ns) (advance_to now ∷ []))
  unfolding state_after ran
  in_order ns f m t is on un once owed timely rises late fresh =
      let by = told_by_each ns f t (each_in_order ns f m t is on un once owed timely rises late fresh) in
      time_passes core quiet (ended_by f ns) by.at (told_notes w t ns) by.is 0 now by.within early ahead by.late

-- ---- the ends are the same in any order

abbrev end_of : Notice → Option ℕ
end_of n = Some (n.moment + keepalive_period)

abbrev named : Key → List Notice → Bool
named q ns = list_any (λ (o : Notice). same_key o.source q) ns

unnamed_end : (q : Key) (ns : List Notice) (f : Ends) → named q ns ≡ false → ended_by f ns q ≡ f q
unfolding ended_by
unnamed_end q [] f out = refl
unnamed_end q (n ∷ ns) f out =
    let parts : _ = or_parts (same_key n.source q) (named q ns) out in
    unnamed_end q ns (set_end f n.source (n.moment + keepalive_period)) parts.1
    ∙ ap (λ (b : Bool). cond b (end_of n) (f q)) parts.0

-- one that the first names isn't named later
not_again : (k q : Key) (ns : List Notice) → same_key k q ≡ true → list_any (λ (o : Notice). same_key k o.source) ns ≡ false
    → named q ns ≡ false
not_again k q ns e out = grind (arith, or_parts, same_key_swap, equal_keys)

named_end : (q : Key) (ns : List Notice) (f : Ends) → NamesEachOnce ns
    → AllByRecursion (λ (n : Notice). same_key n.source q ≡ true → ended_by f ns q ≡ end_of n) ns
unfolding ended_by
named_end q [] f once = tt
named_end q (n ∷ ns) f once = (
  λ e. unnamed_end q ns (set_end f n.source (n.moment + keepalive_period)) (not_again n.source q ns e once.0)
      ∙ ap (λ (b : Bool). cond b (end_of n) (f q)) e,
  named_end q ns (set_end f n.source (n.moment + keepalive_period)) once.1,
)

pub permuted : (P : Notice → Type 0) (xs ys : List Notice) → IsPermutation xs ys → AllByRecursion P xs → AllByRecursion P ys
permuted P xs ys perm h = recursion_from_All P ys (All-permutation P xs ys perm (to_all P xs h))

module _ (owed told : List Notice) (perm : IsPermutation owed told) (back : IsPermutation told owed) (once : NamesEachOnce owed)
    (apart : NamesEachOnce told) where
  at_key : (q : Key) (b : Bool) → named q owed ≡ b → ended_by no_ends told q ≡ ended_by no_ends owed q
  at_key q false e =
      unnamed_end q told no_ends (sym (list_any-IsPermutation (λ (o : Notice). same_key o.source q) owed told perm) ∙ e)
      ∙ sym (unnamed_end q owed no_ends e)
  at_key q true e =
      any_among_all
      (λ (n : Notice). (same_key n.source q ≡ true → ended_by no_ends owed q ≡ end_of n)
      × (same_key n.source q ≡ true → ended_by no_ends told q ≡ end_of n))
      (λ (o : Notice). same_key o.source q) (λ n both is. both.1 is ∙ sym (both.0 is)) owed
      (each_pair owed (named_end q owed no_ends once)
      (permuted (λ (n : Notice). same_key n.source q ≡ true → ended_by no_ends told q ≡ end_of n) told owed back
      (named_end q told no_ends apart)))
      e
    where
      each_pair : (ns : List Notice) → AllByRecursion (λ (n : Notice). same_key n.source q ≡ true → ended_by no_ends owed q ≡ end_of n) ns
          → AllByRecursion (λ (n : Notice). same_key n.source q ≡ true → ended_by no_ends told q ≡ end_of n) ns
          → AllByRecursion (λ (n : Notice). (same_key n.source q ≡ true → ended_by no_ends owed q ≡ end_of n)
          × (same_key n.source q ≡ true → ended_by no_ends told q ≡ end_of n)) ns
      each_pair [] a b = tt
      each_pair (n ∷ ns) a b = ((a.0, b.0), each_pair ns a.1 b.1)

  pub same_ends : ended_by no_ends told ≡ ended_by no_ends owed
  same_ends = λ j q. at_key q (named q owed) refl j

-- ---- a split router

pub in_time : (m now : ℕ) (core : ℕ) (ns : List Notice) → core ≤ m → RisesTo m now ns
    → AllByRecursion (λ (n : Notice). (core ≤ n.moment) × (n.moment ≤ now)) ns
in_time m now core [] le e = tt
in_time m now core (n ∷ ns) le e =
    let here : core ≤ n.moment = omega (arith, le, e.0) in
    ((here, rises_to n.moment now ns e.1), in_time n.moment now core ns here e.1)

pub all_untouched : (ns : List Notice) → Untouched no_ends ns
all_untouched [] = tt
all_untouched (n ∷ ns) = (refl, all_untouched ns)

pub follows_in_order : (x : Split) (r : State) (w : Way) (told : List Notice) → Follows x r → EndsNear x.core → NamesEachOnce x.owed
    → IsPermutation x.owed told → IsPermutation told x.owed → NamesEachOnce told → SeenRise w x.core (x.core).present told
    → state_after (told_notes w x.core told) (advance_to x.now ∷ []) ≡ r
follows_in_order x r w told f near once perm back apart rises =
    let fresh : are_fresh x.now told ≡ true =
    list_of_each (λ (n : Notice). nat_lt x.now (n.moment + keepalive_period)) told
    (permuted (λ (n : Notice). nat_lt x.now (n.moment + keepalive_period) ≡ true) x.owed told perm
    (each_of_list (λ (n : Notice). nat_lt x.now (n.moment + keepalive_period)) x.owed f.fresh)) in
    (in_order x.core f.quiet x.now w f.early f.ahead near.ends told no_ends (x.core).present x.core (at_first x.core f.quiet)
    (rises_to (x.core).present x.now x.owed f.rises) (all_untouched told) apart
    (permuted (IsOwed x.core f.quiet) x.owed told perm f.owed)
    (permuted (λ (n : Notice). ((x.core).present ≤ n.moment) × (n.moment ≤ x.now)) x.owed told perm
    (in_time (x.core).present x.now (x.core).present x.owed (omega arith) f.rises))
    rises (none_late x.now) fresh).same
    ∙ (ap (λ (h : Ends). with_ends h x.core x.now) (same_ends x.owed told perm back once apart) ∙ sym (f.is).same)

pub each_so_far : (x : Split) (r : State) (w : Way) (told : List Notice) → (f : Follows x r) → (near : EndsNear x.core)
    → IsPermutation x.owed told → NamesEachOnce told → SeenRise w x.core (x.core).present told
    → ToldEach x.core f.quiet x.now w f.early f.ahead near.ends no_ends x.core told
each_so_far x r w told f near perm apart rises =
    let fresh : are_fresh x.now told ≡ true =
    list_of_each (λ (n : Notice). nat_lt x.now (n.moment + keepalive_period)) told
    (permuted (λ (n : Notice). nat_lt x.now (n.moment + keepalive_period) ≡ true) x.owed told perm
    (each_of_list (λ (n : Notice). nat_lt x.now (n.moment + keepalive_period)) x.owed f.fresh)) in
    each_in_order x.core f.quiet x.now w f.early f.ahead near.ends told no_ends (x.core).present x.core (at_first x.core f.quiet)
    (rises_to (x.core).present x.now x.owed f.rises) (all_untouched told) apart
    (permuted (IsOwed x.core f.quiet) x.owed told perm f.owed)
    (permuted (λ (n : Notice). ((x.core).present ≤ n.moment) × (n.moment ≤ x.now)) x.owed told perm
    (in_time (x.core).present x.now (x.core).present x.owed (omega arith) f.rises))
    rises (none_late x.now) fresh

pub told_so_far : (x : Split) (r : State) (w : Way) (told : List Notice) → (f : Follows x r) → (near : EndsNear x.core)
    → IsPermutation x.owed told → NamesEachOnce told → SeenRise w x.core (x.core).present told
    → ToldBy x.core f.quiet x.now w f.early f.ahead near.ends (ended_by no_ends told) x.now (told_notes w x.core told)
told_so_far x r w told f near perm apart rises =
    told_by_each x.core f.quiet x.now w f.early f.ahead near.ends told no_ends x.core (each_so_far x r w told f near perm apart rises)

pub kept_in_any_order : KeptInAnyOrder
kept_in_any_order c events w told e perm apart rises =
    let x : Split = whole (opening c) no_plane_rows in
    let f : Follows x (opening c) =
    whole_follows (opening c) no_plane_rows (opening_is_at_rest c e) (opening_is_early c) (few_opening c e) (opening_is_told c) in
    let g : _ = (run_goes events x (opening c) f).1 in
    let end : Split = (split_ran x events).1 in
    follows_in_order end (state_after (opening c) events) w told g (ran_near events x (opening_near c))
    (split_owes_one_each (opening c) no_plane_rows events) perm (IsPermutation-sym end.owed told perm) apart rises
    ∙ sym (caught end (state_after (opening c) events) g)
