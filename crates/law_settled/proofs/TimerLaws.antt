-- The timers of a state and its ends are the same; what is due is one of them, the least.
use Rattle.std.{proofs.{Common.{◌≡◌, ℕ, zero, suc, ◌-◌, ◌<◌, ◌≤◌, nat_lt, nat_le, ◌==◌, Bool, true, false, cond, ◌&&◌, List, [], ◌∷◌, ◌++◌, Option, Some, None, option_map, refl, sym, ap, ◌∙◌, subst, arith, leb-true, le-leb, leb-false, lt-ltb, ltb-true, eqb-true}, lemmas.{Option.none-some, List.Folds.list_any-append, Bool.{cases_lt, or_left, or_right}, Grind.common_steps}}, specs.{Cmp.{first_so, second_so}, List.{filter, cons_option, list_any, AllByRecursion, slice_get}, Option.option_map_or, declared.cmp.Ordering.Ordering, Ordering.{nat_cmp, is_lt, ordering_then}}}
use Rattle.pim_types.{specs.{Timers.rank, declared.{fact.Key.Key, timer.TimerKind.TimerKind}, Keys.same_key}, proofs.Keys.{equal_keys, same_key_same}}
use Rattle.pim_model.{specs.{Clearing.{first_by, first_of_both}, State.State, Tables.{Table, same_option}, Timers.{Ending, ending, ending_cmp, endings, is_ending_first, next_due, next_ending, timers}}}
use Rattle.law_settled.{proofs.{Parts.{end_of, is_sound, part_of, timed_rows}, ListLaws.{any_more, each_append, each_filter, each_more, each_of_list, each_passes, list_of_each, any_among_all, first_of_all, nothing_first}, TableLaws.{any_of_filter_map, any_in_filter}, Ends.{Ends, shows_row, shows_in, shows}}, specs.Laws.{due_by, ends_after, ends_from}}

-- ---- the timers kind by kind

abbrev kinds : List TimerKind
kinds =
    TimerKind.Neighbour ∷ TimerKind.PrunePending ∷ TimerKind.DownstreamExpiry ∷ TimerKind.GroupRecord
    ∷ TimerKind.SourceRecord ∷ TimerKind.Assert ∷ TimerKind.Keepalive ∷ TimerKind.Register ∷ TimerKind.Override
    ∷ TimerKind.Join ∷ TimerKind.OtherQuerier ∷ TimerKind.GroupRepeat ∷ TimerKind.SourceRepeat ∷ TimerKind.GeneralQuery
    ∷ TimerKind.Hello ∷ []

abbrev kind_ends : TimerKind → State → List Ending
kind_ends kind s = endings kind (end_of kind) (timed_rows kind s)

abbrev gathered : State → List Ending → List TimerKind → List Ending
gathered s ds [] = ds
gathered s ds (kind ∷ ks) = gathered s (ds ++ kind_ends kind s) ks

timers_by_kind : (s : State) → timers s ≡ gathered s [] kinds
unfolding timers
timers_by_kind s = refl

at_rank : (kind : TimerKind) → slice_get kinds (rank kind - 1) ≡ Some kind
unfolding rank
at_rank kind = grind arith

each_gathered : (s : State) (P : Ending → Type 0) → ((kind : TimerKind) → AllByRecursion P (kind_ends kind s))
    → (ks : List TimerKind) (ds : List Ending) → AllByRecursion P ds → AllByRecursion P (gathered s ds ks)
each_gathered s P each [] ds f = f
each_gathered s P each (kind ∷ ks) ds f =
    grind (arith, each_gathered s P each ks (ds ++ kind_ends kind s) (each_append P ds (kind_ends kind s) f (each kind)), each_append)

module _ (s : State) (q : Ending → Bool) where
  still_there : (ks : List TimerKind) (ds : List Ending) → list_any q ds ≡ true → list_any q (gathered s ds ks) ≡ true
  still_there [] ds e = e
  still_there (kind ∷ ks) ds e =
      still_there ks (ds ++ kind_ends kind s)
      (list_any-append q ds (kind_ends kind s) ∙ or_left (list_any q ds) (list_any q (kind_ends kind s)) e)

  kind_comes : (n : ℕ) (ks : List TimerKind) (ds : List Ending) (kind : TimerKind) → slice_get ks n ≡ Some kind
      → list_any q (kind_ends kind s) ≡ true → list_any q (gathered s ds ks) ≡ true
  kind_comes n [] ds kind there e = absurd (none-some kind there)
  kind_comes zero (first ∷ ks) ds kind there e = grind (arith, still_there, list_any-append, or_right)
  kind_comes (suc n) (first ∷ ks) ds kind there e = kind_comes n ks (ds ++ kind_ends first s) kind there e

-- ---- each timer is an end that shows

same_end : (n : ℕ) → (n == n) ≡ true
same_end n = grind (arith, common_steps)

module _ {R : Type 0} (kind : TimerKind) (end_of : R → Option ℕ) (sound : Key × R → Bool) (whole : Table R) where
  abbrev ShownIn : Ending → Type 0
  ShownIn d = (d.timer.kind ≡ kind) × (shows_in end_of sound (Ends d.timer.key d.end) whole ≡ true)

  shown_entry : (e : Key × R) (o : Option ℕ) → end_of e.1 ≡ o
      → ((q : Key × R → Bool) → q e ≡ true → list_any q whole ≡ true) → (ds : List Ending) → AllByRecursion ShownIn ds
      → AllByRecursion ShownIn (cons_option (option_map (ending kind e.0) o) ds)
  shown_entry e o f here ds rest = grind (arith, shows_row, end_of, same_key_same, same_end)

  each_shown : (rows : Table R) → ((q : Key × R → Bool) → list_any q rows ≡ true → list_any q whole ≡ true)
      → AllByRecursion ShownIn (endings kind end_of rows)
  unfolding endings
  each_shown [] inside = tt
  each_shown (e ∷ es) inside =
      shown_entry e (end_of e.1) refl (λ q here. inside q (or_left (q e) (list_any q es) here)) (endings kind end_of es)
      (each_shown es (λ q later. inside q (or_right (q e) (list_any q es) later)))

-- the expiry of a timer shows
abbrev pub Shown : State → Ending → Type 0
Shown s d = shows d.timer.kind (Ends d.timer.key d.end) s ≡ true

module _ (s : State) where
  of_kind : (kind : TimerKind) (ds : List Ending)
      → AllByRecursion (λ d. (d.timer.kind ≡ kind) × (shows kind (Ends d.timer.key d.end) s ≡ true)) ds
      → AllByRecursion (Shown s) ds
  of_kind kind ds h =
      each_more (λ d. (d.timer.kind ≡ kind) × (shows kind (Ends d.timer.key d.end) s ≡ true)) (Shown s)
      (λ d f. subst (λ (k : TimerKind). shows k (Ends d.timer.key d.end) s ≡ true) (sym f.0) f.1) ds h

  pub all_shown : AllByRecursion (Shown s) (timers s)
  all_shown =
      subst (AllByRecursion (Shown s)) (sym (timers_by_kind s))
      (each_gathered s (Shown s)
      (λ kind. of_kind kind (kind_ends kind s)
      (each_shown kind (end_of kind) (is_sound (part_of kind)) (timed_rows kind s) (timed_rows kind s) (λ q e. e)))
      kinds [] tt)

-- ---- each end that shows is a timer

module _ {R : Type 0} (kind : TimerKind) (end_of : R → Option ℕ) (sound : Key × R → Bool) (q : Ending
    → Bool) (k : Key) (x : ℕ)
    (here : q (ending kind k x) ≡ true) where
  as_ending : (e : Key × R) (o : Option ℕ) → (same_key k e.0 && same_option o (Some x)) ≡ true
      → option_map_or q (option_map (ending kind e.0) o) false ≡ true
  as_ending e None f = second_so (same_key k e.0) false f
  as_ending e (Some y) f =
      let key : k ≡ e.0 = equal_keys k e.0 (first_so (same_key k e.0) (y == x) f) in
      let end : y ≡ x = eqb-true y x (second_so (same_key k e.0) (y == x) f) in
      subst (λ (n : ℕ). q (ending kind e.0 n)
      ≡ true) (sym end) (subst (λ (a : Key). q (ending kind a x) ≡ true) key here)

  shown_ends : (t : Table R) → shows_in end_of sound (Ends k x) t ≡ true → list_any q (endings kind end_of t) ≡ true
  unfolding endings
  shown_ends t e = grind (arith, any_of_filter_map, end_of, any_more, shows_row, as_ending)

pub among_timers : (s : State) (q : Ending → Bool) (kind : TimerKind) (k : Key) (x : ℕ) → q (ending kind k x) ≡ true
    → shows kind (Ends k x) s ≡ true → list_any q (timers s) ≡ true
among_timers s q kind k x here e =
    ap (list_any q) (timers_by_kind s)
    ∙ kind_comes s q (rank kind - 1) kinds [] kind (at_rank kind)
    (shown_ends kind (end_of kind) (is_sound (part_of kind)) q k x here (timed_rows kind s) e)

-- ---- the first of a list

module _ {X : Type 0} (is_first : X → X → Bool) where
  module _ (size : X → ℕ) (before : (a b : X) → is_first a b ≡ true → size a ≤ size b) (behind : (a b : X)
      → is_first a b ≡ false → size b ≤ size a) where
    abbrev AtLeast : ℕ → X → Type 0
    AtLeast n x = n ≤ size x

    all_at_least : (n m : ℕ) → n ≤ m → (xs : List X) → AllByRecursion (AtLeast m) xs → AllByRecursion (AtLeast n) xs
    all_at_least n m h xs all = each_more (AtLeast m) (AtLeast n) (λ x (f : m ≤ size x). omega arith) xs all

    least_of_two : (x : X) (xs : List X) (o : Option X) → first_by is_first xs ≡ o
        → ((y : X) → first_by is_first xs ≡ Some y → AllByRecursion (AtLeast (size y)) xs)
        → AllByRecursion (AtLeast (size (first_of_both is_first x o))) (x ∷ xs)
    unfolding first_of_both first_by
    least_of_two x [] None was ih = (omega arith, tt)
    least_of_two x (z ∷ zs) None was ih = cc
    least_of_two x xs (Some y) was ih = go (is_first y x) refl
      where
        go : (b : Bool) → is_first y x ≡ b → AllByRecursion (AtLeast (size (cond b y x))) (x ∷ xs)
        go true e = (before y x e, ih y was)
        go false e = (omega arith, all_at_least (size x) (size y) (behind y x e) xs (ih y was))

    first_is_least : (xs : List X) (d : X) → first_by is_first xs ≡ Some d → AllByRecursion (AtLeast (size d)) xs
    unfolding first_by
    first_is_least [] d e = cc
    first_is_least (x ∷ xs) d e =
        let same : first_of_both is_first x (first_by is_first xs) ≡ d = cc in
        subst (λ (a : X). AllByRecursion (AtLeast (size a)) (x ∷ xs)) same
        (least_of_two x xs (first_by is_first xs) refl (first_is_least xs))

-- ---- what is due

module _ (a b : Ending) where
  ending_order : (o p : Ordering) → nat_cmp a.end b.end ≡ o → is_lt (ordering_then o p) ≡ true → a.end ≤ b.end
  ending_order o p e f = grind arith

  ending_behind : (o p : Ordering) → nat_cmp a.end b.end ≡ o → is_lt (ordering_then o p) ≡ false → b.end ≤ a.end
  ending_behind o p e f = grind arith

  earlier : is_ending_first a b ≡ true → a.end ≤ b.end
  unfolding ending_cmp
  earlier e = ending_order (nat_cmp a.end b.end) _ refl e

  later : is_ending_first a b ≡ false → b.end ≤ a.end
  unfolding ending_cmp
  later e = ending_behind (nat_cmp a.end b.end) _ refl e

abbrev is_due : ℕ → Ending → Bool
is_due m d = nat_le d.end m

-- the next timer that is due by a timestamp
pub record IsNext (m : ℕ) (s : State) (e : Ending) : Type 0 where
  pub due : e.end ≤ m
  pub shown : Shown s e
  pub least : (kind : TimerKind) (k : Key) (x : ℕ) → shows kind (Ends k x) s ≡ true → e.end ≤ x

-- an end by the timestamp is among what is due
among_due : (m : ℕ) (s : State) (kind : TimerKind) (k : Key) (x : ℕ) → shows kind (Ends k x) s ≡ true
    → nat_le x m ≡ true
    → list_any (λ (d : Ending). d.end == x) (filter (is_due m) (timers s)) ≡ true
among_due m s kind k x e by =
    any_in_filter (is_due m) (λ (d : Ending). d.end == x) (timers s)
    ∙ among_timers s (λ (d : Ending). nat_le d.end m && (d.end == x)) kind k x (rw (by, same_end x) refl) e

pub is_next : (m : ℕ) (s : State) (e : Ending) → next_due m s ≡ Some e → IsNext m s e
unfolding next_due
is_next m s e f = record {
  due = by_moment;
  shown =
      first_of_all is_ending_first (Shown s) (filter (is_due m) (timers s))
      (each_filter (Shown s) (is_due m) (timers s) (all_shown s)) e f;
  least = λ kind k x g. of_least kind k x g (nat_le x m) refl;
}
  where
    by_moment : e.end ≤ m
    by_moment =
        leb-true e.end m (first_of_all is_ending_first (λ d. nat_le d.end m
        ≡ true) (filter (is_due m) (timers s)) (each_passes (is_due m) (timers s)) e f)

    of_least : (kind : TimerKind) (k : Key) (x : ℕ) → shows kind (Ends k x) s ≡ true → (b : Bool) → nat_le x m ≡ b
        → e.end ≤ x
    of_least kind k x g true by =
        any_among_all (λ (d : Ending). e.end ≤ d.end) (λ (d : Ending). d.end == x)
        (λ d (h : e.end ≤ d.end) same. let end : d.end
        ≡ x = eqb-true d.end x same in let r : e.end ≤ x = omega arith in r)
        (filter (is_due m) (timers s))
        (first_is_least is_ending_first (λ (d : Ending). d.end) earlier later (filter (is_due m) (timers s)) e f)
        (among_due m s kind k x g by)
    of_least kind k x g false by =
        let late : m < x = leb-false x m by in let early : e.end ≤ m = by_moment in omega arith

-- where nothing is due every end is later
pub all_later : (m : ℕ) (s : State) → next_due m s ≡ None → (kind : TimerKind) (k : Key) (x : ℕ)
    → shows kind (Ends k x) s ≡ true → m < x
unfolding next_due
all_later m s f kind k x e = go (nat_le x m) refl
  where
    go : (b : Bool) → nat_le x m ≡ b → m < x
    go true by =
        let none : filter (is_due m) (timers s) ≡ [] = nothing_first is_ending_first (filter (is_due m) (timers s)) f in
        let no : false ≡ true = sym (ap (list_any (λ (d : Ending). d.end == x)) none) ∙ among_due m s kind k x e by in
        cc
    go false late = leb-false x m late

-- ---- the tests of all ends

pub from_shown : (m : ℕ) (s : State) → ends_from m s ≡ true → (kind : TimerKind) (k : Key) (x : ℕ)
    → shows kind (Ends k x) s ≡ true → m ≤ x
from_shown m s f kind k x e =
    any_among_all (λ (d : Ending). nat_le m d.end ≡ true) (λ (d : Ending). d.end == x)
    (λ d g same. let end : d.end
    ≡ x = eqb-true d.end x same in let early : m ≤ d.end = leb-true m d.end g in let r : m ≤ x = omega arith in r)
    (timers s) (each_of_list (λ (d : Ending). nat_le m d.end) (timers s) f)
    (among_timers s (λ (d : Ending). d.end == x) kind k x (same_end x) e)

pub shown_from : (m : ℕ) (s : State) → ((kind : TimerKind) (k : Key) (x : ℕ) → shows kind (Ends k x) s ≡ true → m ≤ x)
    → ends_from m s ≡ true
shown_from m s f =
    list_of_each (λ (d : Ending). nat_le m d.end) (timers s)
    (each_more (Shown s) (λ d. nat_le m d.end
    ≡ true) (λ d e. le-leb m d.end (f d.timer.kind d.timer.key d.end e)) (timers s) (all_shown s))

pub shown_after : (m : ℕ) (s : State) → ((kind : TimerKind) (k : Key) (x : ℕ) → shows kind (Ends k x) s ≡ true → m < x)
    → ends_after m s ≡ true
shown_after m s f =
    list_of_each (λ (d : Ending). nat_lt m d.end) (timers s)
    (each_more (Shown s) (λ d. nat_lt m d.end
    ≡ true) (λ d e. lt-ltb m d.end (f d.timer.kind d.timer.key d.end e)) (timers s) (all_shown s))

pub after_is_from : (m : ℕ) (s : State) → ends_after m s ≡ true → ends_from m s ≡ true
after_is_from m s f = grind (arith, list_of_each, each_more, later, ltb-true, le-leb, each_of_list)

-- ---- the first timer of all that is due is the first of its instant

module _ (n m : ℕ) (less : n ≤ m) where
  -- the first by m, and the first by n
  Agrees : Option Ending → Option Ending → Type 0
  Agrees None o = o ≡ None
  Agrees (Some a) o = (a.end ≤ n → o ≡ Some a) × (n < a.end → o ≡ None)

  both_by : (x : Ending) (o p : Option Ending) → x.end ≤ n → Agrees o p
      → Agrees (Some (first_of_both is_ending_first x o)) (Some (first_of_both is_ending_first x p))
  unfolding Agrees first_of_both
  both_by x o p by same = grind (arith, cases_lt, Agrees, earlier)

  one_by : (x : Ending) (o p : Option Ending) → n < x.end → Agrees o p
      → Agrees (Some (first_of_both is_ending_first x o)) p
  unfolding Agrees first_of_both
  one_by x o p after same = grind (arith, cases_lt, Agrees, later)

  firsts_agree : (xs : List Ending)
      → Agrees (first_by is_ending_first (filter (is_due m) xs)) (first_by is_ending_first (filter (is_due n) xs))
  unfolding Agrees first_by
  firsts_agree [] = refl
  firsts_agree (x ∷ xs) = grind (arith, firsts_agree xs, Agrees, both_by, leb-true, one_by, leb-false)

-- the first of all, where it is due, and the first of what is due
module _ (n : ℕ) where
  all_agree : (xs : List Ending)
      → Agrees n n (omega arith) (first_by is_ending_first xs) (first_by is_ending_first (filter (is_due n) xs))
  unfolding Agrees first_by
  all_agree [] = refl
  all_agree (x ∷ xs) = go (nat_le x.end n) refl (all_agree xs)
    where
      go : (b : Bool) → nat_le x.end n ≡ b
          → Agrees n n (omega arith) (first_by is_ending_first xs) (first_by is_ending_first (filter (is_due n) xs))
          → Agrees n n (omega arith) (Some (first_of_both is_ending_first x (first_by is_ending_first xs)))
          (first_by is_ending_first (cond b (x ∷ filter (is_due n) xs) (filter (is_due n) xs)))
      go true by ih = both_by n n (omega arith) x _ _ (leb-true x.end n by) ih
      go false late ih = one_by n n (omega arith) x _ _ (leb-false x.end n late) ih

pub next_due_is_next : (m : ℕ) (s : State) → next_due m s ≡ due_by m (next_ending s)
unfolding next_due next_ending Agrees
next_due_is_next m s = go (first_by is_ending_first (timers s)) (all_agree m (timers s))
  where
    go : (o : Option Ending) → Agrees m m (omega arith) o (first_by is_ending_first (filter (is_due m) (timers s)))
        → first_by is_ending_first (filter (is_due m) (timers s)) ≡ due_by m o
    go None same = same
    go (Some e) same = pick (nat_le e.end m) refl
      where
        pick : (b : Bool) → nat_le e.end m ≡ b
            → first_by is_ending_first (filter (is_due m) (timers s)) ≡ cond b (Some e) None
        pick true by = same.0 (leb-true e.end m by)
        pick false late = same.1 (leb-false e.end m late)

pub first_of_instant : (m : ℕ) (s : State) (e : Ending) → next_due m s ≡ Some e → next_due e.end s ≡ Some e
unfolding next_due Agrees
first_of_instant m s e there =
    let next : IsNext m s e = is_next m s e there in
    (subst (λ (o : Option Ending). Agrees e.end m next.due o
    (first_by is_ending_first (filter (is_due e.end) (timers s)))) there
    (firsts_agree e.end m next.due (timers s))).0 (omega arith)
