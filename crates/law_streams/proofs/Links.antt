-- Lists of links: ascending numbers that pass a test, and one text on each.
use Rattle.std.{proofs.{Common.{◌≡◌, ◌∙◌, ℕ, suc, zero, ◌+◌, ◌<◌, ◌≤◌, ◌==◌, Bool, true, false, cond, List, [], ◌∷◌, filter, length, map, refl, sym, ap, subst, arith, eqb-true, get_or}, lemmas.{Bool.Decides.nat_tests, List.{Elements.{All-cons, All-nil}, Kept.IsStrictlySortedBy-filter}}}, specs.{List.{AllByRecursion, All, Contains, range_with_len, Sorted.IsStrictlySortedBy}, Ordering.nat_cmp, declared.cmp.Ordering.Ordering}}
use Rattle.pim_types.{specs.declared.outcome.Emission.Emission}
use Rattle.pim_model.{specs.{Cause.is_on_link, Tables.below, Writing.on_link}}

pub to_all : {X : Type 0} (P : X → Type 0) (xs : List X) → AllByRecursion P xs → All P xs
to_all P [] f = All-nil P
to_all P (x ∷ xs) f = All-cons P x xs f.0 (to_all P xs f.1)

-- ---- members of lists

pub contains_later : {X : Type 0} (y x : X) (xs : List X) → Contains xs x → Contains (y ∷ xs) x
contains_later y x xs c = (suc c.0, omega (arith, c.1), c.2)

pub contains_mapped : {X Y : Type 0} (f : X → Y) (xs : List X) (x : X) → Contains xs x → Contains (map f xs) (f x)
contains_mapped f [] x c = absurd (omega (arith, c.1))
contains_mapped f (y ∷ ys) x c = go (contains_mapped f ys x) c.0 c.1 c.2
  where
    go : (Contains ys x → Contains (map f ys) (f x)) → (k : ℕ) → k < length (y ∷ ys) → get_or (y ∷ ys) k x ≡ x → Contains (f y ∷ map f ys) (f x)
    go later zero l e = (0, omega arith, ap f e)
    go later (suc k) l e = contains_later (f y) (f x) (map f ys) (later (k, omega arith, e))

pub contains_passing : {X : Type 0} (p : X → Bool) (xs : List X) (x : X) → Contains xs x → p x ≡ true
    → Contains (filter p xs) x
contains_passing p [] x c e = absurd (omega (arith, c.1))
contains_passing p (y ∷ ys) x c e = go (λ h. contains_passing p ys x h e) c.0 c.1 c.2 (p y) refl
  where
    go : (Contains ys x → Contains (filter p ys) x) → (k : ℕ) → k < length (y ∷ ys) → get_or (y ∷ ys) k x ≡ x → (b : Bool) → p y ≡ b
        → Contains (cond b (y ∷ filter p ys) (filter p ys)) x
    go later zero l f true g = (0, omega arith, f)
    go later zero l f false g = let no : true ≡ false = sym e ∙ (ap p (sym f) ∙ g) in cc
    go later (suc k) l f true g = contains_later y x (filter p ys) (later (k, omega arith, f))
    go later (suc k) l f false g = later (k, omega arith, f)

pub each_contained : {X : Type 0} (P : X → Type 0) (xs : List X) (x : X) → AllByRecursion P xs → Contains xs x
    → P x
each_contained P [] x f c = absurd (omega (arith, c.1))
each_contained P (y ∷ ys) x f c = go (each_contained P ys x f.1) c.0 c.1 c.2
  where
    go : (Contains ys x → P x) → (k : ℕ) → k < length (y ∷ ys) → get_or (y ∷ ys) k x ≡ x → P x
    go later zero l e = subst P e f.0
    go later (suc k) l e = later (k, omega arith, e)

-- ---- ascending numbers

above : (b a n : ℕ) → b < a → AllByRecursion (λ y. nat_cmp b y ≡ Ordering.Less) (range_with_len a n)
above b a zero lt = tt
above b a (suc n) lt = (grind (arith, nat_cmp), above b (a + 1) n (omega arith))

rising : (a n : ℕ) → IsStrictlySortedBy nat_cmp (range_with_len a n)
unfolding IsStrictlySortedBy
rising a zero = tt
rising a (suc n) = (above a (a + 1) n (omega arith), rising (a + 1) n)

pub rising_below : (p : ℕ → Bool) (n : ℕ) → IsStrictlySortedBy nat_cmp (filter p (below n))
rising_below p n = IsStrictlySortedBy-filter nat_cmp p (below n) (rising 0 n)

ranged : (a n m : ℕ) → a + n ≤ m → AllByRecursion (λ i. i < m) (range_with_len a n)
ranged a zero m le = tt
ranged a (suc n) m le = (omega arith, ranged (a + 1) n m (omega arith))

pub all_below : (n : ℕ) → AllByRecursion (λ i. i < n) (below n)
all_below n = ranged 0 n n (omega arith)

unequal_next : (a j : ℕ) → a ≤ j → (a == j) ≡ false → a + 1 ≤ j
unequal_next a j le e = grind (arith, nat_tests, e)

in_range : (a n j : ℕ) → a ≤ j → j < a + n → Contains (range_with_len a n) j
in_range a zero j le lt = absurd (omega arith)
in_range a (suc n) j le lt = go (in_range (a + 1) n j) (a == j) refl
  where
    go : (a + 1 ≤ j → j < a + 1 + n → Contains (range_with_len (a + 1) n) j) → (b : Bool) → (a == j) ≡ b → Contains (a ∷ range_with_len (a + 1) n) j
    go later true e = (0, omega arith, eqb-true a j e)
    go later false e = contains_later a j (range_with_len (a + 1) n) (later (unequal_next a j le e) (omega arith))

pub is_below : (n j : ℕ) → j < n → Contains (below n) j
is_below n j lt = in_range 0 n j (omega arith) (omega arith)

-- ---- one text on each

module _ (text : List ℕ) where
  abbrev pub on_each : List ℕ → List Emission
  on_each links = map (λ i. on_link i text) links

  pub each_on_link : (links : List ℕ) → filter is_on_link (on_each links) ≡ on_each links
  each_on_link [] = refl
  each_on_link (i ∷ is) = ap (λ (es : List Emission). on_link i text ∷ es) (each_on_link is)

pub none_on_link : (es : List Emission) → AllByRecursion (λ e. is_on_link e ≡ false) es → filter is_on_link es ≡ []
none_on_link [] f = refl
none_on_link (e ∷ es) f = rw f.0 (none_on_link es f.1)
