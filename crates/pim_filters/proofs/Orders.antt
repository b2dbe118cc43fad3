-- Ascending lists of numbers: what is among them, and that those with the same numbers are the same.
use Rattle.std.{proofs.{Common.{◌≡◌, ℕ, ◌<◌, ◌≤◌, Bool, true, false, cond, List, [], ◌∷◌, refl, ap, eqb, subst, sym, ◌∙◌, ◌==◌, ◌||◌, nat_lt, arith}, lemmas.{List.Sorted.list_any-IsPermutation, Map.Keys.{IsStrictlyIncreasing-dedup, sorted_from_strictly_increasing}, Bool.Decides.nat_tests, Grind.common_steps}}, specs.{List.{AllByRecursion, dedup, dedup_from, fold, Sorted.{IsPermutation, IsSorted, IsStrictlySortedBy}}, Ordering.nat_cmp, declared.cmp.Ordering.TheVariants.Less}}
use Rattle.pim_model.{specs.Tables.{ascending, insert_number, is_among}}

-- below each of the numbers
abbrev pub Below : ℕ → List ℕ → Type 0
Below n [] = Unit {0}
Below n (m ∷ ms) = (n < m) × Below n ms

-- each number below the later ones
abbrev pub Rises : List ℕ → Type 0
Rises [] = Unit {0}
Rises (n ∷ ns) = Below n ns × Rises ns

below_from : (n : ℕ) (ms : List ℕ) → AllByRecursion (λ m. nat_cmp n m ≡ Less) ms → Below n ms
below_from n [] all = tt
below_from n (m ∷ ms) all = (grind (arith, common_steps, all.0), below_from n ms all.1)

pub Rises-from_sorted : (ns : List ℕ) → IsStrictlySortedBy nat_cmp ns → Rises ns
unfolding IsStrictlySortedBy
Rises-from_sorted [] sorted = tt
Rises-from_sorted (n ∷ ns) sorted = (below_from n ns sorted.0, Rises-from_sorted ns sorted.1)

sorted_below : (n : ℕ) (ms : List ℕ) → Below n ms → AllByRecursion (λ m. nat_cmp n m ≡ Less) ms
sorted_below n [] below = tt
sorted_below n (m ∷ ms) below = (grind (arith, common_steps, below.0), sorted_below n ms below.1)

pub sorted_from_Rises : (ns : List ℕ) → Rises ns → IsStrictlySortedBy nat_cmp ns
unfolding IsStrictlySortedBy
sorted_from_Rises [] rises = tt
sorted_from_Rises (n ∷ ns) rises = (sorted_below n ns rises.0, sorted_from_Rises ns rises.1)

pub Below-lower : (n m : ℕ) (ms : List ℕ) → n < m → Below m ms → Below n ms
Below-lower n m [] less below = tt
Below-lower n m (k ∷ ks) less below = (omega (arith, below.0), Below-lower n m ks less below.1)

-- a number below all is not among them
pub none_below : (n m : ℕ) (ms : List ℕ) → n ≤ m → Below m ms → is_among n ms ≡ false
unfolding is_among
none_below n m [] le below = refl
none_below n m (k ∷ ks) le below =
    let apart : (k == n) ≡ false = grind (arith, nat_tests, below.0) in
    rw apart (none_below n m ks le below.1)

-- ---- the same numbers

pub among_head : (n : ℕ) (ns : List ℕ) → is_among n (n ∷ ns) ≡ true
unfolding is_among
among_head n ns = let same : (n == n) ≡ true = grind (arith, nat_tests) in rw same refl

pub among_tail : (m n : ℕ) (ns : List ℕ) → (n == m) ≡ false → is_among m (n ∷ ns) ≡ is_among m ns
unfolding is_among
among_tail m n ns apart = rw apart refl

true_false : {P : Type 0} → true ≡ false → P
true_false e = cc

same_tails : (n : ℕ) (ms ns : List ℕ) → Below n ms → Below n ns
    → ((k : ℕ) → is_among k (n ∷ ms) ≡ is_among k (n ∷ ns)) → (k : ℕ) → is_among k ms ≡ is_among k ns
same_tails n ms ns below_ms below_ns same k = go (n == k) refl
  where
    go : (b : Bool) → (n == k) ≡ b → is_among k ms ≡ is_among k ns
    go true here =
        let le : k ≤ n = grind (arith, nat_tests) in
        none_below k n ms le below_ms ∙ sym (none_below k n ns le below_ns)
    go false apart = sym (among_tail k n ms apart) ∙ same k ∙ among_tail k n ns apart

pub same_rising : (ms ns : List ℕ) → Rises ms → Rises ns → ((k : ℕ) → is_among k ms ≡ is_among k ns) → ms ≡ ns
same_rising [] [] rises_ms rises_ns same = refl
same_rising [] (n ∷ ns) rises_ms rises_ns same = true_false (sym (among_head n ns) ∙ sym (same n) ∙ none_below n n [] (omega arith) tt)
same_rising (m ∷ ms) [] rises_ms rises_ns same = true_false (sym (among_head m ms) ∙ same m ∙ none_below m m [] (omega arith) tt)
same_rising (m ∷ ms) (n ∷ ns) rises_ms rises_ns same =
    go (nat_lt m n) (nat_lt n m) refl refl (λ tails. same_rising ms ns rises_ms.1 rises_ns.1 tails)
  where
    heads_same : m ≡ n → Below m ms → ((k : ℕ) → is_among k (m ∷ ms) ≡ is_among k (n ∷ ns))
        → (((k : ℕ) → is_among k ms ≡ is_among k ns) → ms ≡ ns) → ◌≡◌ {A = List ℕ} (m ∷ ms) (n ∷ ns)
    heads_same heads below same rest =
        let below_n : Below n ms = subst (λ x. Below x ms) heads below in
        let same_n : (k : ℕ) → is_among k (n ∷ ms) ≡ is_among k (n ∷ ns) = subst (λ x. (k : ℕ) → is_among k (x ∷ ms) ≡ is_among k (n ∷ ns)) heads same in
        λ i. heads i ∷ rest (same_tails n ms ns below_n rises_ns.0 same_n) i

    go : (b c : Bool) → nat_lt m n ≡ b → nat_lt n m ≡ c
        → (((k : ℕ) → is_among k ms ≡ is_among k ns) → ms ≡ ns) → ◌≡◌ {A = List ℕ} (m ∷ ms) (n ∷ ns)
    go true c less other rest =
        let first : m < n = grind (arith, nat_tests) in
        let apart : (n == m) ≡ false = grind (arith, nat_tests) in
        true_false (sym (among_head m ms) ∙ same m ∙ among_tail m n ns apart ∙ none_below m n ns (omega arith) rises_ns.0)
    go false true less other rest =
        let first : n < m = grind (arith, nat_tests) in
        let apart : (m == n) ≡ false = grind (arith, nat_tests) in
        true_false (sym (among_head n ns) ∙ sym (same n) ∙ among_tail n m ms apart ∙ none_below n m ms (omega arith) rises_ms.0)
    go false false less other rest =
        let heads : m ≡ n = grind (arith, nat_tests) in
        heads_same heads rises_ms.0 same rest

-- ---- insertion

pub is_among-insert_number : (k n : ℕ) (ms : List ℕ) → is_among k (insert_number n ms) ≡ ((n == k) || is_among k ms)
unfolding is_among insert_number
is_among-insert_number k n [] = refl
is_among-insert_number k n (m ∷ ms) = go (nat_lt n m) (n == m) refl refl (is_among-insert_number k n ms)
  where
    doubled : (a b : Bool) → (a || b) ≡ (a || (a || b))
    doubled true b = refl
    doubled false b = refl

    swapped : (a b c : Bool) → (a || (b || c)) ≡ (b || (a || c))
    swapped true true c = refl
    swapped true false c = refl
    swapped false b c = refl

    go : (b c : Bool) → nat_lt n m ≡ b → (n == m) ≡ c → is_among k (insert_number n ms) ≡ ((n == k) || is_among k ms)
        → is_among k (cond b (n ∷ m ∷ ms) (cond c (m ∷ ms) (m ∷ insert_number n ms))) ≡ ((n == k) || ((m == k) || is_among k ms))
    go true c less same rest = refl
    go false true less same rest = let e : n ≡ m = grind (arith, nat_tests) in rw e (doubled (m == k) (is_among k ms))
    go false false less same rest = ap (λ b. (m == k) || b) rest ∙ swapped (m == k) (n == k) (is_among k ms)

Below-insert : (k n : ℕ) (ms : List ℕ) → k < n → Below k ms → Below k (insert_number n ms)
unfolding insert_number
Below-insert k n [] less below = (less, tt)
Below-insert k n (m ∷ ms) less below = go (nat_lt n m) (n == m) (Below-insert k n ms less below.1)
  where
    go : (b c : Bool) → Below k (insert_number n ms) → Below k (cond b (n ∷ m ∷ ms) (cond c (m ∷ ms) (m ∷ insert_number n ms)))
    go true c rest = (less, below)
    go false true rest = below
    go false false rest = (below.0, rest)

pub Rises-insert : (n : ℕ) (ms : List ℕ) → Rises ms → Rises (insert_number n ms)
unfolding insert_number
Rises-insert n [] rises = (tt, tt)
Rises-insert n (m ∷ ms) rises = go (nat_lt n m) (n == m) refl refl (Rises-insert n ms rises.1)
  where
    go : (b c : Bool) → nat_lt n m ≡ b → (n == m) ≡ c → Rises (insert_number n ms) → Rises (cond b (n ∷ m ∷ ms) (cond c (m ∷ ms) (m ∷ insert_number n ms)))
    go true c less same rest =
        let first : n < m = grind (arith, nat_tests) in
        ((first, Below-lower n m ms first rises.0), rises)
    go false true less same rest = rises
    go false false less same rest =
        let later : m < n = grind (arith, nat_tests) in
        (Below-insert m n ms later rises.0, rest)

pub Rises-ascending : (ns : List ℕ) → Rises (ascending ns)
unfolding ascending
Rises-ascending ns = go [] ns tt
  where
    go : (sorted ns : List ℕ) → Rises sorted → Rises (fold (λ sorted n. insert_number n sorted) sorted ns)
    go sorted [] rises = rises
    go sorted (n ∷ ns) rises = go (insert_number n sorted) ns (Rises-insert n sorted rises)

-- what is among the numbers is among them in order
pub is_among-ascending : (k : ℕ) (ns : List ℕ) → is_among k (ascending ns) ≡ is_among k ns
unfolding ascending is_among
is_among-ascending k ns = go [] ns
  where
    moved : (a b c : Bool) → ((a || b) || c) ≡ (b || (a || c))
    moved true true c = refl
    moved true false c = refl
    moved false b c = refl

    go : (sorted ns : List ℕ) → is_among k (fold (λ sorted n. insert_number n sorted) sorted ns) ≡ (is_among k sorted || is_among k ns)
    go sorted [] = or_false (is_among k sorted)
      where
        or_false : (b : Bool) → b ≡ (b || false)
        or_false true = refl
        or_false false = refl
    go sorted (n ∷ ns) =
        go (insert_number n sorted) ns ∙ ap (λ b. b || is_among k ns) (is_among-insert_number k n sorted)
        ∙ moved (n == k) (is_among k sorted) (is_among k ns)

-- ---- a sorted list without repeats

among_dedup_step : (k x y : ℕ) (ys : List ℕ) (b : Bool) → eqb y x ≡ b
    → is_among k (dedup_from eqb x ys) ≡ ((x == k) || is_among k ys)
    → is_among k (dedup_from eqb y ys) ≡ ((y == k) || is_among k ys)
    → is_among k (cond b (dedup_from eqb x ys) (x ∷ dedup_from eqb y ys)) ≡ ((x == k) || ((y == k) || is_among k ys))
unfolding is_among
among_dedup_step k x y ys true same first second =
    let e : y ≡ x = grind (arith, nat_tests) in
    first ∙ rw e (doubled (x == k) (is_among k ys))
  where
    doubled : (a b : Bool) → (a || b) ≡ (a || (a || b))
    doubled true b = refl
    doubled false b = refl
among_dedup_step k x y ys false same first second = ap (λ b. (x == k) || b) second

among_dedup_from : (k x : ℕ) (ys : List ℕ) → is_among k (dedup_from eqb x ys) ≡ ((x == k) || is_among k ys)
unfolding is_among
among_dedup_from k x [] = refl
among_dedup_from k x (y ∷ ys) = among_dedup_step k x y ys (eqb y x) refl (among_dedup_from k x ys) (among_dedup_from k y ys)

is_among-dedup : (k : ℕ) (xs : List ℕ) → is_among k (dedup eqb xs) ≡ is_among k xs
unfolding is_among
is_among-dedup k [] = refl
is_among-dedup k (x ∷ xs) = among_dedup_from k x xs

-- what a sort and a removal of repeats leave
pub dedup_is_ascending : (ns sorted : List ℕ) → IsPermutation ns sorted → IsSorted nat_cmp sorted → dedup eqb sorted ≡ ascending ns
unfolding is_among
dedup_is_ascending ns sorted permuted order =
    same_rising (dedup eqb sorted) (ascending ns)
    (Rises-from_sorted (dedup eqb sorted) (sorted_from_strictly_increasing (dedup eqb sorted) (IsStrictlyIncreasing-dedup sorted order)))
    (Rises-ascending ns)
    (λ k. is_among-dedup k sorted ∙ sym (list_any-IsPermutation (λ m. m == k) ns sorted permuted) ∙ sym (is_among-ascending k ns))
