-- The first of the ends of a table's rows is the timer that is next.
use Rattle.std.{proofs.{Common.{◌≡◌, ◌≢◌, ℕ, Bool, true, false, cond, List, [], ◌∷◌, ◌++◌, map as each, Option, Some, None, option_map, refl, sym, ap, subst, ◌∙◌}, lemmas.List.MinMax.ranks_by}, specs.{List.{cons_option, AllByRecursion, Sorted.IsStrictlySortedBy}, Map.lookup, BTreeMap.is_at, Ordering.{is_eq, ordering_reverse}, Cmp.IsStrictWeakOrder, declared.cmp.Ordering.TheVariants.Less}}
use Rattle.pim_types.{specs.{declared.{fact.Key.Key, timer.{Timer.Timer, TimerKind.TimerKind}}, Keys.{key_cmp, same_key}}, proofs.Keys.{equal_keys, key_cmp_total, same_key_same}}
use Rattle.pim_timers.{specs.{Armed.{Entries, holds}, Dues.{Due, IsFirst}, Next.IsNext, Order.due_cmp}, proofs.{Least.next_is_one, Armed.first_is_next, Total.due_cmp_total}}
use Rattle.pim_model.{specs.{Clearing.{first_by, first_of_both}, Tables.{Table, keys_in, row_at}, Timers.{Ending, ending, ending_cmp, endings, is_ending_first}}}
use Rattle.law_settled.{proofs.ListLaws.each_append}
use Rattle.pim_tables.{specs.Ends.{InStep, Kinds, due_of, end_of, is_second, row_endings, same_kind, second_endings}, proofs.Steps.{first_end, kind_exact, same_kind_itself, second_end}}

-- ---- the first of a list

pub order : IsStrictWeakOrder is_ending_first
unfolding ending_cmp due_cmp
order = ranks_by due_cmp_total due_of

abbrev pub NoneBefore : Ending → List Ending → Type 0
NoneBefore d xs = AllByRecursion (λ x. is_ending_first x d ≡ false) xs

itself : (x : Ending) → is_ending_first x x ≡ false
itself x = go (is_ending_first x x) refl
  where
    go : (b : Bool) → is_ending_first x x ≡ b → b ≡ false
    go true e = sym e ∙ order.one_way x x e
    go false e = refl

no_sooner : (x d : Ending) (xs : List Ending) → is_ending_first d x ≡ false → NoneBefore d xs → NoneBefore x xs
no_sooner x d [] e none = tt
no_sooner x d (y ∷ ys) e none = (order.chain y d x none.0 e, no_sooner x d ys e none.1)

module _ (P : Ending → Type 0) where
  -- it is one of the list, of which each is P, and none comes before it; or the list is empty
  abbrev pub FirstOf : List Ending → Option Ending → Type 0
  FirstOf xs None = xs ≡ []
  FirstOf xs (Some d) = P d × NoneBefore d xs

  first_step : (x : Ending) (xs : List Ending) (o : Option Ending) → P x → FirstOf xs o
      → FirstOf (x ∷ xs) (Some (first_of_both is_ending_first x o))
  unfolding first_of_both
  first_step x xs None here empty = (here, (itself x, subst (NoneBefore x) (sym empty) tt))
  first_step x xs (Some d) here first = go (is_ending_first d x) refl
    where
      go : (b : Bool) → is_ending_first d x ≡ b → P (cond b d x) × NoneBefore (cond b d x) (x ∷ xs)
      go true e = (first.0, (order.one_way d x e, first.1))
      go false e = (here, (itself x, no_sooner x d xs e first.1))

  pub first_of : (xs : List Ending) → AllByRecursion P xs → FirstOf xs (first_by is_ending_first xs)
  unfolding first_by
  first_of [] all = refl
  first_of (x ∷ xs) all = first_step x xs (first_by is_ending_first xs) all.0 (first_of xs all.1)

  left_of : (xs ys : List Ending) → AllByRecursion P (xs ++ ys) → AllByRecursion P xs
  left_of [] ys all = tt
  left_of (x ∷ xs) ys all = (all.0, left_of xs ys all.1)

  right_of : (xs ys : List Ending) → AllByRecursion P (xs ++ ys) → AllByRecursion P ys
  right_of [] ys all = all
  right_of (x ∷ xs) ys all = right_of xs ys all.1

-- ---- a row and its ends

module _ {R : Type 0} where
  past : (e : Key × R) (t : Table R) (q : Key) (r : R) → key_cmp e.0 q ≡ Less → row_at t q ≡ Some r
      → row_at (e ∷ t) q ≡ Some r
  unfolding row_at
  past e t q r less found =
      let after : same_key q e.0 ≡ false = ap is_eq (key_cmp_total.antisymm q e.0 ∙ ap ordering_reverse less) in
      rw after found

  all_past : (e : Key × R) (t es : Table R) → AllByRecursion (λ y. key_cmp e.0 y ≡ Less) (each (λ x. x.0) es)
      → AllByRecursion (λ x. row_at t x.0 ≡ Some x.1) es → AllByRecursion (λ x. row_at (e ∷ t) x.0 ≡ Some x.1) es
  all_past e t [] above found = tt
  all_past e t (x ∷ es) above found = (past e t x.0 x.1 above.0 found.0, all_past e t es above.1 found.1)

  here : (e : Key × R) (t : Table R) → row_at (e ∷ t) e.0 ≡ Some e.1
  unfolding row_at
  here e t = rw (same_key_same e.0) refl

  -- where the keys rise, each row is found under its key
  pub all_found : (t : Table R) → IsStrictlySortedBy key_cmp (keys_in t)
      → AllByRecursion (λ x. row_at t x.0 ≡ Some x.1) t
  unfolding IsStrictlySortedBy keys_in
  all_found [] sorted = tt
  all_found (e ∷ t) sorted = (here e t, all_past e t t sorted.0 (all_found t sorted.1))

module _ {R : Type 0} (kind : TimerKind) (f : R → Option ℕ) (P : Ending → Type 0) where
  -- what holds of each end of a row holds of each that is listed
  all_listed : (t : Table R) → AllByRecursion (λ e. (m : ℕ) → f e.1 ≡ Some m → P (ending kind e.0 m)) t
      → AllByRecursion P (endings kind f t)
  unfolding endings
  all_listed [] all = tt
  all_listed (e ∷ t) all = go (f e.1) refl (all_listed t all.1)
    where
      go : (o : Option ℕ) → f e.1 ≡ o → AllByRecursion P (endings kind f t)
          → AllByRecursion P (cons_option (option_map (ending kind e.0) o) (endings kind f t))
      go None is rest = rest
      go (Some m) is rest = (all.0 m is, rest)

  tail : (o : Option Ending) (xs : List Ending) → AllByRecursion P (cons_option o xs) → AllByRecursion P xs
  tail None xs all = all
  tail (Some x) xs all = all.1

  head : (x : Ending) (o : Option Ending) (xs : List Ending) → o ≡ Some x → AllByRecursion P (cons_option o xs) → P x
  head x None xs is all = cc
  head x (Some y) xs is all = let same : y ≡ x = cc in subst P same all.0

  listed_step : (k : Key) (m : ℕ) (r : R) (e : Key × R) (t : Table R) (b : Bool) → same_key k e.0 ≡ b
      → f r ≡ Some m → cond b (Some e.1) (lookup (is_at (key_cmp k)) t) ≡ Some r
      → (lookup (is_at (key_cmp k)) t ≡ Some r → AllByRecursion P (endings kind f t) → P (ending kind k m))
      → AllByRecursion P (cons_option (option_map (ending kind e.0) (f e.1)) (endings kind f t)) → P (ending kind k m)
  listed_step k m r e t true is end found later all =
      let row : e.1 ≡ r = cc in
      head (ending kind k m) _ (endings kind f t)
      (ap (λ (o : Option ℕ). option_map (ending kind e.0) o) (ap f row ∙ end)
      ∙ ap (λ (q : Key). Some (ending kind q m)) (sym (equal_keys k e.0 is))) all
  listed_step k m r e t false is end found later all = later found (tail _ (endings kind f t) all)

  -- what holds of each that is listed holds of each end of a row
  listed : (k : Key) (m : ℕ) (r : R) (t : Table R) → f r ≡ Some m → row_at t k ≡ Some r
      → AllByRecursion P (endings kind f t) → P (ending kind k m)
  unfolding row_at endings
  listed k m r [] end found all = cc
  listed k m r (e ∷ t) end found all =
      listed_step k m r e t (same_key k e.0) refl end found (listed k m r t end) all

-- ---- what is next

module _ {R : Type 0} (kinds : Kinds) (ends : R → Option ℕ × Option ℕ) (rows : Table R) where
  abbrev first_in : R → Option ℕ
  first_in r = (ends r).0

  abbrev second_in : R → Option ℕ
  second_in r = (ends r).1

  abbrev end_at : Timer → Option ℕ
  end_at t = end_of kinds ends (row_at rows t.key) t.kind

  abbrev first_ones : List Ending
  first_ones = endings kinds.0 first_in rows

  -- an end that a row has is listed
  module _ (P : Ending → Type 0) (t : Timer) (m : ℕ) where
    abbrev Here : Type 0
    Here = P (record { end = m; timer = t })

    second_one : (second : Option TimerKind) (r : R) → row_at rows t.key ≡ Some r → is_second second t.kind ≡ true
        → second_in r ≡ Some m → AllByRecursion P (second_endings second second_in rows first_ones) → Here
    second_one None r found is end all = cc
    second_one (Some kind) r found is end all =
        subst (λ (q : TimerKind). P (ending q t.key m)) (sym (kind_exact t.kind kind is))
        (listed kind second_in P t.key m r rows end found (right_of P first_ones (endings kind second_in rows) all))

    first_ones_of : (second : Option TimerKind) → AllByRecursion P (second_endings second second_in rows first_ones)
        → AllByRecursion P first_ones
    first_ones_of None all = all
    first_ones_of (Some kind) all = left_of P first_ones (endings kind second_in rows) all

    one_of_two : (o : Option R) → row_at rows t.key ≡ o → (a b : Bool) → same_kind t.kind kinds.0 ≡ a
        → is_second kinds.1 t.kind ≡ b → end_of kinds ends o t.kind ≡ Some m
        → AllByRecursion P (second_endings kinds.1 second_in rows first_ones) → Here
    one_of_two None found a b e f end all = cc
    one_of_two (Some r) found true b e f end all =
        subst (λ (q : TimerKind). P (ending q t.key m)) (sym (kind_exact t.kind kinds.0 e))
        (listed kinds.0 first_in P t.key m r rows (sym (first_end kinds ends r t.kind e) ∙ end) found
        (first_ones_of kinds.1 all))
    one_of_two (Some r) found false true e f end all =
        second_one kinds.1 r found f (rw (e, f) at end) all
    one_of_two (Some r) found false false e f end all =
        let none : None ≡ Some m = rw (e, f) at end in cc

    each_end : end_at t ≡ Some m → AllByRecursion P (row_endings kinds ends rows) → Here
    unfolding row_endings
    each_end end all = one_of_two (row_at rows t.key) refl _ _ refl refl end all

  module _ (apart : kinds.1 ≢ Some kinds.0) (sorted : IsStrictlySortedBy key_cmp (keys_in rows)) where
    abbrev IsSet : Ending → Type 0
    IsSet d = end_at d.timer ≡ Some d.end

    each_is : (kind : TimerKind) (f : R → Option ℕ) → ((r : R) → end_of kinds ends (Some r) kind ≡ f r)
        → (t : Table R) → AllByRecursion (λ x. row_at rows x.0 ≡ Some x.1) t
        → AllByRecursion (λ x. (m : ℕ) → f x.1 ≡ Some m → IsSet (ending kind x.0 m)) t
    each_is kind f is [] found = tt
    each_is kind f is (x ∷ t) found =
        (λ m end. ap (λ (o : Option R). end_of kinds ends o kind) found.0 ∙ is x.1 ∙ end, each_is kind f is t found.1)

    all_of_kind : (kind : TimerKind) (f : R → Option ℕ) → ((r : R) → end_of kinds ends (Some r) kind ≡ f r)
        → AllByRecursion IsSet (endings kind f rows)
    all_of_kind kind f is = all_listed kind f IsSet rows (each_is kind f is rows (all_found rows sorted))

    first_set : AllByRecursion IsSet first_ones
    first_set = all_of_kind kinds.0 first_in (λ r. first_end kinds ends r kinds.0 (same_kind_itself kinds.0))

    both_set : (second : Option TimerKind) → kinds.1 ≡ second
        → AllByRecursion IsSet (second_endings second second_in rows first_ones)
    both_set None is = first_set
    both_set (Some kind) is =
        each_append IsSet first_ones (endings kind second_in rows) first_set
        (all_of_kind kind second_in (λ r. second_end kinds ends apart r kind kind is (same_kind_itself kind)))

    next_of : (o : Option Ending) → FirstOf IsSet (row_endings kinds ends rows) o
        → IsNext end_at (option_map due_of o)
    unfolding due_cmp ending_cmp
    next_of None empty = λ t. none t (end_at t) refl
      where
        none : (t : Timer) (o : Option ℕ) → end_at t ≡ o → o ≡ None
        none t None is = refl
        none t (Some m) is =
            absurd (each_end (λ d. ⊥) t m is (subst (AllByRecursion (λ d. ⊥)) (sym empty) tt))
    next_of (Some d) first = record {
      is_set = first.0;
      none_before = λ t m is. each_end (λ x. is_ending_first x d ≡ false) t m is first.1;
    }

    all_set : AllByRecursion IsSet (row_endings kinds ends rows)
    unfolding row_endings
    all_set = both_set kinds.1 refl

    -- where the queue is settled, its first is the first of the rows' ends
    pub next_is_first : (queue : Entries) (next : Option Due) → InStep kinds ends queue rows → IsFirst (holds queue) next
        → next ≡ option_map due_of (first_by is_ending_first (row_endings kinds ends rows))
    next_is_first queue next step is =
        next_is_one end_at next _ (first_is_next end_at (holds queue) next step.armed step.real is)
        (next_of _ (first_of IsSet (row_endings kinds ends rows) all_set))
