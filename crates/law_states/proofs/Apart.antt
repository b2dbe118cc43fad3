-- No two places go to one.
use Rattle.std.{proofs.{Common.{◌≡◌, ◌<◌, ◌≤◌, ⊎_elim, ◌+◌, ◌&&◌, ◌||◌, ◌==◌, ◌∙◌, ℕ, zero, suc, Bool, true, false, not, cond, List, [], ◌∷◌, ◌++◌, filter, get_or, length, nat_lt, Option, Some, None, option_map, refl, sym, ap, arith, eqb-true, length-append}, lemmas.{Bool.{cases_lt, or_right, Decides.nat_tests}, List.{Folds.list_any-append, FromFn.length-range_with_len}, Option.{slice_get-map, slice_get-get_or, slice_get_past}}}, specs.{List.{AllByRecursion, list_all, list_any, range_with_len}, Option.option_map_or}}
use Rattle.pim_model.{specs.{Tables.{below, is_among}}}
use Rattle.law_settled.{proofs.ListLaws.{any_of_filter, each_more}}
use Rattle.law_states.{specs.{PlacedLaws.{AreApart, PlacesAreApart}, Placing.{Places, are_once, are_places, index_from, index_of, is_kept, is_left_out, is_new, kept_places, new_order, number_at, old_order, to_order}}, proofs.{Numbers.got_range, Orders.{each_among, index_low, new_low}}}

pub first : (a b : Bool) → (a && b) ≡ true → a ≡ true
first true b e = refl
first false b e = cc

pub second : (a b : Bool) → (a && b) ≡ true → b ≡ true
second true b e = e
second false b e = cc

both : (a b : Bool) → a ≡ true → b ≡ true → (a && b) ≡ true
both true b f g = g
both false b f g = cc

clash : (b : Bool) → b ≡ true → b ≡ false → ⊥
clash b e f = cc (e, f)

-- ---- where numbers stand

pub index_high : (n k : ℕ) (ns : List ℕ) → list_any (λ m. m == n) ns ≡ true → k ≤ index_from k n ns
index_high n k [] e = cc
index_high n k (m ∷ ms) e = by (m == n) (index_high n (k + 1) ms) e
  where
    by : (b : Bool) → (list_any (λ x. x == n) ms ≡ true → k + 1 ≤ index_from (k + 1) n ms)
        → (b || list_any (λ x. x == n) ms) ≡ true → k ≤ cond b k (index_from (k + 1) n ms)
    by true later e = omega arith
    by false later e = let le : k + 1 ≤ index_from (k + 1) n ms = later e in omega (arith, le)

index_one : (i j k : ℕ) (ns : List ℕ) → list_any (λ m. m == i) ns ≡ true → list_any (λ m. m == j) ns ≡ true
    → index_from k i ns ≡ index_from k j ns → i ≡ j
index_one i j k [] e f same = cc
index_one i j k (m ∷ ms) e f same =
    by (m == i) (m == j) refl refl (index_one i j (k + 1) ms) (index_high i (k + 1) ms) (index_high j (k + 1) ms) e f same
  where
    by : (a b : Bool) → (m == i) ≡ a → (m == j) ≡ b
        → (list_any (λ x. x == i) ms ≡ true → list_any (λ x. x == j) ms ≡ true
        → index_from (k + 1) i ms ≡ index_from (k + 1) j ms → i ≡ j)
        → (list_any (λ x. x == i) ms ≡ true → k + 1 ≤ index_from (k + 1) i ms)
        → (list_any (λ x. x == j) ms ≡ true → k + 1 ≤ index_from (k + 1) j ms)
        → (a || list_any (λ x. x == i) ms) ≡ true → (b || list_any (λ x. x == j) ms) ≡ true
        → cond a k (index_from (k + 1) i ms) ≡ cond b k (index_from (k + 1) j ms) → i ≡ j
    by true true g h later hi hj e f same = sym (eqb-true m i g) ∙ eqb-true m j h
    by true false g h later hi hj e f same =
        let le : k + 1 ≤ index_from (k + 1) j ms = hj f in absurd (omega (arith, le, same))
    by false true g h later hi hj e f same =
        let le : k + 1 ≤ index_from (k + 1) i ms = hi e in absurd (omega (arith, le, same))
    by false false g h later hi hj e f same = later e f same

-- ---- to the order between

two_parts : (p : ℕ → Bool) (xs : List ℕ) → length (filter p xs) + length (filter (λ x. not (p x)) xs) ≡ length xs
two_parts p [] = refl
two_parts p (x ∷ xs) = by (p x) (two_parts p xs)
  where
    by : (b : Bool) → length (filter p xs) + length (filter (λ y. not (p y)) xs) ≡ length xs
        → length (cond b (x ∷ filter p xs) (filter p xs))
        + length (cond (not b) (x ∷ filter (λ y. not (p y)) xs) (filter (λ y. not (p y)) xs)) ≡ suc (length xs)
    by true e = omega (arith, e)
    by false e = omega (arith, e)

pub old_count : (m : Places) → length (old_order m) ≡ length m
unfolding old_order is_left_out
old_count m =
    length-append (filter (is_kept m) (below (length m))) (filter (λ i. not (is_kept m i)) (below (length m)))
    ∙ two_parts (is_kept m) (below (length m)) ∙ length-range_with_len 0 (length m)

pub to_at : (m : Places) (i : ℕ) → number_at (to_order m) i ≡ cond (nat_lt i (length m)) (index_of (old_order m) (0 + i)) i
unfolding number_at to_order
to_at m i =
    ap (λ (o : Option ℕ). option_map_or (λ n. n) o i)
    (slice_get-map (index_of (old_order m)) (below (length m)) i ∙ ap (option_map (index_of (old_order m))) (got_range i (length m) 0))
    ∙ by (nat_lt i (length m))
  where
    by : (b : Bool) → option_map_or (λ n. n) (option_map (index_of (old_order m)) (cond b (Some (0 + i)) None)) i
        ≡ cond b (index_of (old_order m) (0 + i)) i
    by true = refl
    by false = refl

module _ (m : Places) where
  from_zero : (x : ℕ) → 0 + x ≡ x
  from_zero x = omega arith

  pub low : (i : ℕ) → nat_lt i (length m) ≡ true → index_of (old_order m) (0 + i) < length m
  unfolding index_of
  low i less =
      let below_all : nat_lt (index_from 0 i (old_order m)) (0 + length (old_order m)) ≡ true =
      index_low i 0 (old_order m) (each_among m i less) in
      let count : length (old_order m) ≡ length m = old_count m in
      let same : index_from 0 (0 + i) (old_order m) ≡ index_from 0 i (old_order m) =
      ap (λ (x : ℕ). index_from 0 x (old_order m)) (from_zero i) in
      grind (arith, nat_tests, below_all, count, same)

  one : (i j : ℕ) → nat_lt i (length m) ≡ true → nat_lt j (length m) ≡ true
      → index_of (old_order m) (0 + i) ≡ index_of (old_order m) (0 + j) → i ≡ j
  unfolding index_of
  one i j f g e =
      index_one i j 0 (old_order m) (each_among m i f) (each_among m j g)
      (ap (λ (x : ℕ). index_from 0 x (old_order m)) (sym (from_zero i)) ∙ e
      ∙ ap (λ (x : ℕ). index_from 0 x (old_order m)) (from_zero j))

  over : (j : ℕ) → nat_lt j (length m) ≡ false → length m ≤ j
  over j e = grind (arith, nat_tests, e)

  to_apart : AreApart (to_order m)
  to_apart i j e = by (nat_lt i (length m)) (nat_lt j (length m)) refl refl (sym (to_at m i) ∙ e ∙ to_at m j)
    where
      by : (a b : Bool) → nat_lt i (length m) ≡ a → nat_lt j (length m) ≡ b
          → cond a (index_of (old_order m) (0 + i)) i ≡ cond b (index_of (old_order m) (0 + j)) j → i ≡ j
      by true true f g e = one i j f g e
      by true false f g e =
          let less : index_of (old_order m) (0 + i) < length m = low i f in
          let le : length m ≤ j = over j g in absurd (omega (arith, less, le, e))
      by false true f g e =
          let less : index_of (old_order m) (0 + j) < length m = low j g in
          let le : length m ≤ i = over i f in absurd (omega (arith, less, le, e))
      by false false f g e = e

-- ---- to the new places

-- lists in which no number is twice
got_among : (xs : List ℕ) (i : ℕ) → i < length xs → list_any (λ x. x == get_or xs i 0) xs ≡ true
got_among [] i less = absurd (omega (arith, less))
got_among (x ∷ xs) zero less = ap (λ (b : Bool). b || list_any (λ y. y == x) xs) (same x)
  where
    same : (a : ℕ) → (a == a) ≡ true
    same a = grind (arith, nat_tests)
got_among (x ∷ xs) (suc i) less =
    or_right (x == get_or xs i 0) (list_any (λ y. y == get_or xs i 0) xs) (got_among xs i (omega (arith, less)))

once_apart : (xs : List ℕ) (i j : ℕ) → are_once xs ≡ true → i < length xs → j < length xs → get_or xs i 0 ≡ get_or xs j 0 → i ≡ j
unfolding is_among
once_apart [] i j once f g e = absurd (omega (arith, f))
once_apart (x ∷ xs) zero zero once f g e = refl
once_apart (x ∷ xs) zero (suc j) once f g e =
    absurd (twice (first (not (list_any (λ y. y == x) xs)) (are_once xs) once))
  where
    twice : not (list_any (λ y. y == x) xs) ≡ true → ⊥
    twice none =
        cc (sym none ∙ ap not (ap (λ (a : ℕ). list_any (λ y. y == a) xs) e ∙ got_among xs j (omega (arith, g))))
once_apart (x ∷ xs) (suc i) zero once f g e =
    absurd (twice (first (not (list_any (λ y. y == x) xs)) (are_once xs) once))
  where
    twice : not (list_any (λ y. y == x) xs) ≡ true → ⊥
    twice none =
        cc (sym none ∙ ap not (ap (λ (a : ℕ). list_any (λ y. y == a) xs) (sym e) ∙ got_among xs i (omega (arith, f))))
once_apart (x ∷ xs) (suc i) (suc j) once f g e =
    ap suc (once_apart xs i j (second (not (list_any (λ y. y == x) xs)) (are_once xs) once) (omega (arith, f)) (omega (arith, g)) e)

each_there : (kept : List ℕ) → AllByRecursion (λ x. list_any (λ y. y == x) kept ≡ true) kept
each_there [] = tt
each_there (x ∷ xs) = (
  ap (λ (b : Bool). b || list_any (λ y. y == x) xs) (same x),
  each_more (λ z. list_any (λ y. y == z) xs ≡ true) (λ z. list_any (λ y. y == z) (x ∷ xs) ≡ true)
      (λ z there. or_right (x == z) (list_any (λ y. y == z) xs) there) xs (each_there xs),
)
  where
    same : (a : ℕ) → (a == a) ≡ true
    same a = grind (arith, nat_tests)

all_got : (xs : List ℕ) (p : ℕ → Bool) (i : ℕ) → list_all p xs ≡ true → i < length xs → p (get_or xs i 0) ≡ true
all_got [] p i e less = absurd (omega (arith, less))
all_got (x ∷ xs) p zero e less = first (p x) (list_all p xs) e
all_got (x ∷ xs) p (suc i) e less = all_got xs p i (second (p x) (list_all p xs) e) (omega (arith, less))

-- ---- the numbers of a range, and those of them that are new

none_before : (c s i : ℕ) → i < s → list_any (λ x. x == i) (range_with_len s c) ≡ false
none_before zero s i less = refl
none_before (suc c) s i less =
    ap (λ (b : Bool). b || list_any (λ x. x == i) (range_with_len (s + 1) c)) (other s i less)
    ∙ none_before c (s + 1) i (omega (arith, less))
  where
    other : (a b : ℕ) → b < a → (a == b) ≡ false
    other a b f = grind (arith, nat_tests, f)

not_in_filter : (p q : ℕ → Bool) (xs : List ℕ) → list_any q xs ≡ false → list_any q (filter p xs) ≡ false
not_in_filter p q xs none = by (list_any q (filter p xs)) refl
  where
    by : (b : Bool) → list_any q (filter p xs) ≡ b → b ≡ false
    by true e = absurd (clash (list_any q xs) (any_of_filter p q xs e) none)
    by false e = refl

pub filtered_once : (q : ℕ → Bool) (c s : ℕ) → are_once (filter q (range_with_len s c)) ≡ true
unfolding is_among
filtered_once q zero s = refl
filtered_once q (suc c) s = by (q s) (filtered_once q c (s + 1))
  where
    apart : list_any (λ x. x == s) (filter q (range_with_len (s + 1) c)) ≡ false
    apart = not_in_filter q (λ x. x == s) (range_with_len (s + 1) c) (none_before c (s + 1) s (omega arith))

    by : (b : Bool) → are_once (filter q (range_with_len (s + 1) c)) ≡ true
        → are_once (cond b (s ∷ filter q (range_with_len (s + 1) c)) (filter q (range_with_len (s + 1) c))) ≡ true
    by true e = both (not (list_any (λ x. x == s) (filter q (range_with_len (s + 1) c)))) _ (ap not apart) e
    by false e = e

none_shared : (kept : List ℕ) (x : ℕ) → list_any (λ y. y == x) kept ≡ true → (ys : List ℕ)
    → list_any (λ y. y == x) (filter (is_new kept) ys) ≡ false
unfolding is_new is_among
none_shared kept x there [] = refl
none_shared kept x there (y ∷ ys) = by (list_any (λ z. z == y) kept) refl (none_shared kept x there ys)
  where
    other : list_any (λ z. z == y) kept ≡ false → (y == x) ≡ false
    other none = go (y == x) refl
      where
        go : (b : Bool) → (y == x) ≡ b → b ≡ false
        go true e =
            absurd (clash (list_any (λ z. z == y) kept)
            (ap (λ (a : ℕ). list_any (λ z. z == a) kept) (eqb-true y x e) ∙ there) none)
        go false e = refl

    by : (b : Bool) → list_any (λ z. z == y) kept ≡ b
        → list_any (λ z. z == x) (filter (λ j. not (list_any (λ w. w == j) kept)) ys) ≡ false
        → list_any (λ z. z == x) (cond (not b) (y ∷ filter (λ j. not (list_any (λ w. w == j) kept)) ys)
        (filter (λ j. not (list_any (λ w. w == j) kept)) ys)) ≡ false
    by true e later = later
    by false e later =
        ap (λ (b : Bool). b || list_any (λ z. z == x) (filter (λ j. not (list_any (λ w. w == j) kept)) ys)) (other e) ∙ later

pub joined_once : (xs ys : List ℕ) → are_once xs ≡ true → are_once ys ≡ true
    → AllByRecursion (λ x. list_any (λ y. y == x) ys ≡ false) xs → are_once (xs ++ ys) ≡ true
unfolding is_among
joined_once [] ys e f none = f
joined_once (x ∷ xs) ys e f none =
    both (not (list_any (λ y. y == x) (xs ++ ys))) _
    (ap not (list_any-append (λ y. y == x) xs ys
    ∙ ap (λ (b : Bool). list_any (λ y. y == x) xs || b) none.0 ∙ left_alone (list_any (λ y. y == x) xs))
    ∙ first (not (list_any (λ y. y == x) xs)) (are_once xs) e)
    (joined_once xs ys (second (not (list_any (λ y. y == x) xs)) (are_once xs) e) f none.1)
  where
    left_alone : (b : Bool) → (b || false) ≡ b
    left_alone true = refl
    left_alone false = refl

-- ---- how many are new

module _ (x : ℕ) (ks : List ℕ) where
  same_new : (c s : ℕ) → x < s → filter (is_new (x ∷ ks)) (range_with_len s c) ≡ filter (is_new ks) (range_with_len s c)
  unfolding is_new is_among
  same_new zero s less = refl
  same_new (suc c) s less =
      let later = same_new c (s + 1) (omega (arith, less)) in
      λ j. cond (not (other s less j || list_any (λ y. y == s) ks)) (s ∷ later j) (later j)
    where
      other : (a : ℕ) → x < a → (x == a) ≡ false
      other a f = grind (arith, nat_tests, f)

  one_fewer : (c s : ℕ) → list_any (λ y. y == x) ks ≡ false → s ≤ x → x < s + c
      → suc (length (filter (is_new (x ∷ ks)) (range_with_len s c))) ≡ length (filter (is_new ks) (range_with_len s c))
  unfolding is_new is_among
  one_fewer zero s none le less = absurd (omega (arith, le, less))
  one_fewer (suc c) s none le less =
      by (x == s) refl (one_fewer c (s + 1) none) (same_new c (s + 1))
    where
      New : List ℕ → List ℕ
      New l = filter (λ j. not (list_any (λ y. y == j) l)) (range_with_len (s + 1) c)

      by : (b : Bool) → (x == s) ≡ b
          → (s + 1 ≤ x → x < (s + 1) + c → suc (length (New (x ∷ ks))) ≡ length (New ks))
          → (x < s + 1 → New (x ∷ ks) ≡ New ks)
          → suc (length (cond (not (b || list_any (λ y. y == s) ks)) (s ∷ New (x ∷ ks)) (New (x ∷ ks))))
          ≡ length (cond (not (list_any (λ y. y == s) ks)) (s ∷ New ks) (New ks))
      by true e later after =
          let same : x ≡ s = eqb-true x s e in
          ap (λ (l : List ℕ). suc (length l)) (after (omega (arith, same)))
          ∙ ap (λ (b : Bool). length (cond (not b) (s ∷ New ks) (New ks)))
          (sym none ∙ ap (λ (a : ℕ). list_any (λ y. y == a) ks) same)
      by false e later after = go (list_any (λ y. y == s) ks)
        where
          next : suc (length (New (x ∷ ks))) ≡ length (New ks)
          next = later (grind (arith, nat_tests, e, le)) (omega (arith, less))

          go : (b : Bool) → suc (length (cond (not b) (s ∷ New (x ∷ ks)) (New (x ∷ ks)))) ≡ length (cond (not b) (s ∷ New ks) (New ks))
          go true = next
          go false = ap suc next

all_new : (c s : ℕ) → length (filter (is_new []) (range_with_len s c)) ≡ c
unfolding is_new is_among
all_new zero s = refl
all_new (suc c) s = ap suc (all_new c (s + 1))

pub count_new : (n : ℕ) (ks : List ℕ) → are_once ks ≡ true → list_all (λ j. nat_lt j n) ks ≡ true
    → length ks + length (filter (is_new ks) (below n)) ≡ n
unfolding is_among
count_new n [] once below_n = let all : length (filter (is_new []) (below n)) ≡ n = all_new n 0 in omega (arith, all)
count_new n (x ∷ ks) once below_n =
    let before : length ks + length (filter (is_new ks) (below n)) ≡ n =
    count_new n ks (second (not (list_any (λ y. y == x) ks)) (are_once ks) once) (second (nat_lt x n) _ below_n) in
    let fewer : suc (length (filter (is_new (x ∷ ks)) (below n))) ≡ length (filter (is_new ks) (below n)) =
    one_fewer x ks n 0 (is_none (list_any (λ y. y == x) ks) (first (not (list_any (λ y. y == x) ks)) (are_once ks) once))
    (omega arith) (within (first (nat_lt x n) _ below_n)) in
    omega (arith, before, fewer)
  where
    is_none : (b : Bool) → not b ≡ true → b ≡ false
    is_none true e = cc
    is_none false e = refl

    within : nat_lt x n ≡ true → x < 0 + n
    within e = grind (arith, nat_tests, e)

-- ---- the new order

module _ (m : Places) (n : ℕ) (once : are_once (kept_places m) ≡ true) (low_kept : list_all (λ j. nat_lt j n) (kept_places m) ≡ true) where
  abbrev order : List ℕ
  order = new_order m n

  pub new_count : length order ≡ n
  unfolding new_order
  new_count =
      length-append (kept_places m) (filter (is_new (kept_places m)) (below n)) ∙ count_new n (kept_places m) once low_kept

  pub new_once : are_once order ≡ true
  unfolding new_order
  new_once =
      joined_once (kept_places m) (filter (is_new (kept_places m)) (below n)) once (filtered_once (is_new (kept_places m)) n 0)
      (members (kept_places m))
    where
      members : (kept : List ℕ) → AllByRecursion (λ x. list_any (λ y. y == x) (filter (is_new kept) (below n)) ≡ false) kept
      members kept =
          each_more (λ x. list_any (λ y. y == x) kept ≡ true)
          (λ x. list_any (λ y. y == x) (filter (is_new kept) (below n)) ≡ false)
          (λ x there. none_shared kept x there (below n)) kept (each_there kept)

  pub at_low : (i : ℕ) → i < n → number_at order i ≡ get_or order i 0
  unfolding number_at
  at_low i less =
      ap (λ (o : Option ℕ). option_map_or (λ x. x) o i)
      (slice_get-get_or order i 0 (let count : length order ≡ n = new_count in omega (arith, count, less)))

  pub at_high : (i : ℕ) → n ≤ i → number_at order i ≡ i
  unfolding number_at
  at_high i le =
      ap (λ (o : Option ℕ). option_map_or (λ x. x) o i)
      (slice_get_past order i (let count : length order ≡ n = new_count in omega (arith, count, le)))

  pub value_low : (i : ℕ) → i < n → get_or order i 0 < n
  value_low i less =
      let count : length order ≡ n = new_count in
      is_low (all_got order (λ j. nat_lt j n) i (new_low m n low_kept) (omega (arith, count, less)))
    where
      is_low : nat_lt (get_or order i 0) n ≡ true → get_or order i 0 < n
      is_low e = grind (arith, nat_tests, e)

  new_apart : AreApart order
  new_apart i j e =
      ⊎_elim (λ (a : i < n). ⊎_elim (λ (b : j < n). low_low a b) (λ (b : n ≤ j). low_high i j a b e) (cases_lt j n))
      (λ (a : n ≤ i). ⊎_elim (λ (b : j < n). sym (low_high j i b a (sym e))) (λ (b : n ≤ j). sym (at_high i a) ∙ e ∙ at_high j b) (cases_lt j n))
      (cases_lt i n)
    where
      low_low : i < n → j < n → i ≡ j
      low_low a b =
          let count : length order ≡ n = new_count in
          once_apart order i j new_once (omega (arith, count, a)) (omega (arith, count, b)) (sym (at_low i a) ∙ e ∙ at_low j b)

      low_high : (x y : ℕ) → x < n → n ≤ y → number_at order x ≡ number_at order y → x ≡ y
      low_high x y a b f =
          let value : get_or order x 0 < n = value_low x a in
          let same : get_or order x 0 ≡ y = sym (at_low x a) ∙ f ∙ at_high y b in
          absurd (omega (arith, value, same, b))

pub places_are_apart : PlacesAreApart
unfolding are_places
places_are_apart old new m e =
    let kept = second (length m == old) _ e in (
      to_apart m,
      new_apart m new (second (list_all (λ j. nat_lt j new) (kept_places m)) _ kept)
          (first (list_all (λ j. nat_lt j new) (kept_places m)) _ kept),
    )
