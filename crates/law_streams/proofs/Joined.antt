-- A Join timer runs exactly where its tree is wanted.
use Rattle.std.{proofs.{Common.{◌≡◌, ◌∙◌, ℕ, ◌==◌, ◌⊎◌, inl, inr, Bool, true, false, cond, List, [], ◌∷◌, ◌++◌, Option, is_some, option_map, refl, sym, ap, subst, eq-eqb, eqb-true, arith}, lemmas.{Bool.{both_ways, false_from_ne_true, or_parts}, List.Folds.list_any-append}}, specs.List.list_any}
use Rattle.pim_types.{specs.{Keys.{is_of_group, names_source, same_key, source_key, star_key}, declared.{fact.{JoinTimerRow.JoinTimerRow, Key.Key}, upstream.{SourceView.SourceView, StarView.StarView}}}, proofs.Keys.{equal_keys, same_key_same}}
use Rattle.pim_model.{specs.{Desires.join_desired, Messages.Message, Querier.each_in_turn, State.State, Tables.{has_row, row_at}, Upstream.{Cancel, Keep, LowerTo, SetTo, TimerChange, Told, changed_end, fact_keys, group_upstream, groups_of, moved_join_timer, moved_override_timer, nothing_told, source_stays, source_told, source_upstream, source_view, sources_of, star_stays, star_told, star_view, upstream, with_join_timer, with_override_timer}}}
use Rattle.law_settled.{proofs.{ListLaws.by_cond, TurnLaws.kept_in_turn}}
use Rattle.law_streams.{proofs.{Leaves.{group_is_listed, wanted_is_fact}, Sources.{its_group_is_listed, source_is_listed, wanted_is_named}, Timers.{SameTimers, has_row_set}}}

-- ---- one timer

-- whether a timer runs after a change, by whether it ran before
abbrev runs_after : TimerChange → Bool → Bool
runs_after Keep b = b
runs_after Cancel b = false
runs_after (SetTo e) b = true
runs_after (LowerTo e) b = true

module _ (s : State) (k : Key) where
  moved_is : (change : TimerChange) → is_some (changed_end change (option_map (λ (r : JoinTimerRow). r.end) (row_at s.join_timers k)))
      ≡ runs_after change (has_row s.join_timers k)
  unfolding has_row
  moved_is change = grind arith

  some_mapped : (o : Option ℕ) → is_some (option_map (λ (e : ℕ). let r : JoinTimerRow = record { end = e } in r) o) ≡ is_some o
  some_mapped o = grind arith

  moved_row : (change : TimerChange) (q : Key) → has_row (moved_join_timer s k change).join_timers q
      ≡ cond (same_key q k) (runs_after change (has_row s.join_timers k)) (has_row s.join_timers q)
  unfolding moved_join_timer
  moved_row change q =
      has_row_set s.join_timers k q _
      ∙ ap (λ (b : Bool). cond (same_key q k) b (has_row s.join_timers q)) (some_mapped _ ∙ moved_is change)

  timer_row : (change : TimerChange) (q : Key) → has_row (with_join_timer s k change).join_timers q
      ≡ cond (same_key q k) (runs_after change (has_row s.join_timers k)) (has_row s.join_timers q)
  unfolding with_join_timer
  timer_row change q = grind (arith, equal_keys, moved_row)

-- override timers are others
override_keeps : (s : State) (k : Key) (change : TimerChange) → SameTimers s (with_override_timer s k change)
unfolding with_override_timer moved_override_timer
override_keeps s k change q = grind arith

-- ---- what is told sets it so, from what it was at the opening or from what it is to be

abbrev Either : Bool → Bool → Bool → Type 0
Either old new b = (b ≡ old) ⊎ (b ≡ new)

-- where it goes on to be wanted, the timer runs on
record RunsOn (t : Told) : Type 0 where
  runs : runs_after t.timer true ≡ true

either_runs : (b : Bool) (t u : Told) → RunsOn t → RunsOn u → RunsOn (cond b t u)
either_runs b t u f g = by_cond RunsOn b t u f g

unmoved : (messages : List Message) → RunsOn (record { timer = Keep; messages = messages })
unmoved messages = record { runs = refl }

sets : (end : ℕ) (messages : List Message) → RunsOn (record { timer = SetTo end; messages = messages })
sets end messages = record { runs = refl }

lowers : (end : ℕ) (messages : List Message) → RunsOn (record { timer = LowerTo end; messages = messages })
lowers end messages = record { runs = refl }

module _ (a : State) (w g : ℕ) where
  star_runs_on : (old new : StarView) → RunsOn (star_stays a w g old new)
  unfolding star_stays
  star_runs_on old new = grind (arith, either_runs, lowers, sets, unmoved)

  source_runs_on : (src : ℕ) (old new : SourceView) → RunsOn (source_stays a w g src old new)
  unfolding source_stays
  source_runs_on src old new = either_runs _ _ _ (unmoved _) (either_runs _ _ _ (lowers _ _) (sets _ _))

  -- the four cases
  told_so : (old new : Bool) (stays joins prunes : Told) → RunsOn stays → ((b : Bool) → runs_after joins.timer b ≡ true)
      → ((b : Bool) → runs_after prunes.timer b ≡ false) → (b : Bool) → Either old new b
      → runs_after (cond new (cond old stays joins) (cond old prunes nothing_told)).timer b ≡ new
  told_so old new stays joins prunes f g h b e = grind arith

  star_so : (old new : StarView) (b : Bool) → Either old.is_desired new.is_desired b
      → runs_after (star_told a w g old new).timer b ≡ new.is_desired
  unfolding star_told
  star_so old new b e = grind (arith, told_so, star_runs_on)

  source_so : (src : ℕ) (old new : SourceView) (b : Bool) → Either old.is_desired new.is_desired b
      → runs_after (source_told a w g src old new).timer b ≡ new.is_desired
  unfolding source_told
  source_so src old new b e = grind (arith, told_so, source_runs_on)

-- ---- one turn after another

module _ {A : Type 0} (turn : State → A → State × List Message) (hits : A → Bool) (k : Key) (old new : Bool)
    (misses : (s : State) (x : A) → hits x ≡ false → has_row ((turn s x).0).join_timers k ≡ has_row s.join_timers k)
    (becomes : (s : State) (x : A) → hits x ≡ true → Either old new (has_row s.join_timers k)
    → has_row ((turn s x).0).join_timers k ≡ new) where
  abbrev runs : State → Bool
  runs s = has_row s.join_timers k

  stays_so : (xs : List A) (s : State) → runs s ≡ new → runs (each_in_turn turn s xs).0 ≡ new
  unfolding each_in_turn
  stays_so xs s e =
      kept_in_turn turn (λ t. runs t ≡ new) (λ t x f. go t x f (hits x) refl) xs s e
    where
      go : (t : State) (x : A) → runs t ≡ new → (b : Bool) → hits x ≡ b → runs (turn t x).0 ≡ new
      go t x f true hit = becomes t x hit (inr f)
      go t x f false miss = misses t x miss ∙ f

  becomes_so : (xs : List A) (s : State) → Either old new (runs s) → list_any hits xs ≡ true
      → runs (each_in_turn turn s xs).0 ≡ new
  unfolding each_in_turn
  becomes_so [] s e there = cc there
  becomes_so (x ∷ xs) s e there = grind (arith, becomes_so xs (turn s x).0, stays_so)

  untold : (xs : List A) (s : State) → list_any hits xs ≡ false → runs (each_in_turn turn s xs).0 ≡ runs s
  unfolding each_in_turn
  untold [] s none = refl
  untold (x ∷ xs) s none = grind (arith, untold xs (turn s x).0)

-- ---- keys apart

keys_apart : (q k : Key) → (q ≡ k → ⊥) → same_key q k ≡ false
keys_apart q k off = false_from_ne_true (same_key q k) (λ e. off (equal_keys q k e))

other_star : (g n : ℕ) → (n == g) ≡ false → same_key (star_key 0 g) (star_key 0 n) ≡ false
other_star g n off = grind (arith, keys_apart, both_ways, eq-eqb)

differ : false ≡ true → ⊥
differ e = cc e

no_source : (g n src : ℕ) → same_key (star_key 0 g) (source_key 0 n src) ≡ false
no_source g n src = keys_apart _ _ (λ e. differ (ap (λ (k : Key). is_some k.source) e))

no_star : (g src n : ℕ) → same_key (source_key 0 g src) (star_key 0 n) ≡ false
no_star g src n = keys_apart _ _ (λ e. differ (sym (ap (λ (k : Key). is_some k.source) e)))

other_group : (g src n x : ℕ) → (n == g) ≡ false → same_key (source_key 0 g src) (source_key 0 n x) ≡ false
other_group g src n x off = grind (arith, keys_apart, both_ways, eq-eqb)

other_source : (g src x : ℕ) → (x == src) ≡ false → same_key (source_key 0 g src) (source_key 0 g x) ≡ false
other_source g src x off = grind (arith, keys_apart, both_ways, eq-eqb)

-- ---- (*,G)

module _ (o a : State) (w : ℕ) where
  abbrev keys : List Key
  keys = fact_keys o ++ fact_keys a

  abbrev turn : State → ℕ → State × List Message
  turn = group_upstream o a w keys

  module _ (g : ℕ) where
    abbrev star_runs : State → Bool
    star_runs s = has_row s.join_timers (star_key 0 g)

    abbrev was : Bool
    was = (star_view o g).is_desired

    abbrev is : Bool
    is = (star_view a g).is_desired

    source_leaves_star : (n : ℕ) (s : State) (src : ℕ) → star_runs (source_upstream o a w n s src).0 ≡ star_runs s
    unfolding source_upstream
    source_leaves_star n s src = grind (arith, override_keeps, timer_row, no_source)

    abbrev first : State → ℕ → State
    first s n = with_join_timer s (star_key 0 n) (star_told a w n (star_view o n) (star_view a n)).timer

    sources_leave_star : (n : ℕ) (s : State) → star_runs (turn s n).0 ≡ star_runs (first s n)
    unfolding group_upstream
    sources_leave_star n s =
        kept_in_turn (source_upstream o a w n) (λ t. star_runs t ≡ star_runs (first s n))
        (λ t src f. source_leaves_star n t src ∙ f) (sources_of n keys) (first s n) refl

    star_misses : (s : State) (n : ℕ) → (n == g) ≡ false → star_runs (turn s n).0 ≡ star_runs s
    star_misses s n off = grind (arith, sources_leave_star, timer_row, other_star)

    star_itself : (s : State) → Either was is (star_runs s) → star_runs (turn s g).0 ≡ is
    star_itself s e = grind (arith, sources_leave_star, timer_row, same_key_same, star_so)

    star_becomes : (s : State) (n : ℕ) → (n == g) ≡ true → Either was is (star_runs s) → star_runs (turn s n).0 ≡ is
    star_becomes s n hit e = subst (λ (x : ℕ). star_runs (turn s x).0 ≡ is) (sym (eqb-true n g hit)) (star_itself s e)

    unwanted : (s : State) → list_any (λ k. is_of_group g k) (fact_keys s) ≡ false → (star_view s g).is_desired ≡ false
    unfolding star_view
    unwanted s none = grind (arith, false_from_ne_true, both_ways, wanted_is_fact)

    absent : list_any (λ n. n == g) (groups_of keys) ≡ false → (was ≡ false) × (is ≡ false)
    absent none = grind (arith, or_parts, list_any-append, group_is_listed, unwanted)

    pub star_told_so : star_runs a ≡ was → star_runs (upstream o a w).0 ≡ is
    unfolding upstream
    star_told_so e = go (list_any (λ n. n == g) (groups_of keys)) refl
      where
        go : (b : Bool) → list_any (λ n. n == g) (groups_of keys) ≡ b → star_runs (each_in_turn turn a (groups_of keys)).0 ≡ is
        go true there =
            becomes_so turn (λ n. n == g) (star_key 0 g) was is star_misses star_becomes (groups_of keys) a (inl e) there
        go false none =
            untold turn (λ n. n == g) (star_key 0 g) was is star_misses star_becomes (groups_of keys) a none
            ∙ (e ∙ ((absent none).0 ∙ sym (absent none).1))

  -- ---- (S,G)

  module _ (g src : ℕ) where
    abbrev source_runs : State → Bool
    source_runs s = has_row s.join_timers (source_key 0 g src)

    abbrev was_wanted : Bool
    was_wanted = (source_view o g src).is_desired

    abbrev is_wanted : Bool
    is_wanted = (source_view a g src).is_desired

    abbrev source_change : ℕ → ℕ → TimerChange
    source_change n x = (source_told a w n x (source_view o n x) (source_view a n x)).timer

    source_turn : (n : ℕ) (s : State) (x : ℕ) → source_runs (source_upstream o a w n s x).0
        ≡ cond (same_key (source_key 0 g src) (source_key 0 n x)) (runs_after (source_change n x) (has_row s.join_timers (source_key 0 n x))) (source_runs s)
    unfolding source_upstream
    source_turn n s x = grind (arith, override_keeps, timer_row)

    first_leaves : (s : State) (n : ℕ) → source_runs (first 0 s n) ≡ source_runs s
    first_leaves s n = timer_row s (star_key 0 n) _ (source_key 0 g src) ∙ rw (no_star g src n) refl

    source_misses : (s : State) (n : ℕ) → (n == g) ≡ false → source_runs (turn s n).0 ≡ source_runs s
    unfolding group_upstream
    source_misses s n off =
        kept_in_turn (source_upstream o a w n) (λ t. source_runs t ≡ source_runs s)
        (λ t x f. source_turn n t x ∙ (rw (other_group g src n x off) refl ∙ f)) (sources_of n keys) (first 0 s n)
        (first_leaves s n)

    turn_misses : (s : State) (x : ℕ) → (x == src) ≡ false → source_runs (source_upstream o a w g s x).0 ≡ source_runs s
    turn_misses s x off = source_turn g s x ∙ rw (other_source g src x off) refl

    turn_itself : (s : State) → Either was_wanted is_wanted (source_runs s) → source_runs (source_upstream o a w g s src).0 ≡ is_wanted
    turn_itself s e = grind (arith, source_turn, same_key_same, source_so)

    turn_becomes : (s : State) (x : ℕ) → (x == src) ≡ true → Either was_wanted is_wanted (source_runs s)
        → source_runs (source_upstream o a w g s x).0 ≡ is_wanted
    turn_becomes s x hit e = grind (arith, eqb-true, turn_itself)

    abbrev is_listed : Bool
    is_listed = list_any (λ x. x == src) (sources_of g keys)

    of_group : is_listed ≡ true → (s : State) → Either was_wanted is_wanted (source_runs s) → source_runs (turn s g).0 ≡ is_wanted
    unfolding group_upstream
    of_group there s e =
        becomes_so (source_upstream o a w g) (λ x. x == src) (source_key 0 g src) was_wanted is_wanted turn_misses turn_becomes
        (sources_of g keys) (first 0 s g) (subst (Either was_wanted is_wanted) (sym (first_leaves s g)) e) there

    group_becomes : is_listed ≡ true → (s : State) (n : ℕ) → (n == g) ≡ true → Either was_wanted is_wanted (source_runs s)
        → source_runs (turn s n).0 ≡ is_wanted
    group_becomes there s n hit e = grind (arith, eqb-true, of_group)

    none_of_group : is_listed ≡ false → (s : State) → source_runs (turn s g).0 ≡ source_runs s
    unfolding group_upstream
    none_of_group none s =
        untold (source_upstream o a w g) (λ x. x == src) (source_key 0 g src) was_wanted is_wanted turn_misses turn_becomes
        (sources_of g keys) (first 0 s g) none ∙ first_leaves s g

    group_leaves : is_listed ≡ false → (s : State) (n : ℕ) → source_runs (turn s n).0 ≡ source_runs s
    group_leaves none s n = grind (arith, eqb-true, none_of_group, source_misses)

    not_wanted : (s : State) → list_any (names_source g src) (fact_keys s) ≡ false → (source_view s g src).is_desired ≡ false
    unfolding source_view
    not_wanted s none =
        false_from_ne_true (join_desired s g src) (λ wanted. both_ways _ none (wanted_is_named g src s wanted))

    source_absent : is_listed ≡ false → (was_wanted ≡ false) × (is_wanted ≡ false)
    source_absent none = grind (arith, or_parts, list_any-append, source_is_listed, not_wanted)

    pub source_told_so : source_runs a ≡ was_wanted → source_runs (upstream o a w).0 ≡ is_wanted
    unfolding upstream
    source_told_so e = go is_listed refl
      where
        go : (b : Bool) → is_listed ≡ b → source_runs (each_in_turn turn a (groups_of keys)).0 ≡ is_wanted
        go true there =
            becomes_so turn (λ n. n == g) (source_key 0 g src) was_wanted is_wanted source_misses (group_becomes there)
            (groups_of keys) a (inl e) (its_group_is_listed g src keys (sym (source_is_listed g src keys) ∙ there))
        go false none =
            kept_in_turn turn (λ t. source_runs t ≡ source_runs a) (λ t n f. group_leaves none t n ∙ f) (groups_of keys) a refl
            ∙ (e ∙ ((source_absent none).0 ∙ sym (source_absent none).1))
