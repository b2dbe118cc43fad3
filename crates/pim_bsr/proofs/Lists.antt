-- Tests of lists.
use Rattle.std.{proofs.{Common.{◌≡◌, ℕ, zero, suc, ◌≤◌, Bool, true, false, not, ◌&&◌, ◌||◌, List, [], ◌∷◌, ◌++◌, filter, length, map, take, refl, ap, arith}}, specs.List.{list_all, list_any}}

pub and_first : (a b : Bool) → (a && b) ≡ true → a ≡ true
and_first true b e = refl
and_first false b e = cc

pub and_second : (a b : Bool) → (a && b) ≡ true → b ≡ true
and_second true b e = e
and_second false b e = cc

pub and_both : (a b : Bool) → a ≡ true → b ≡ true → (a && b) ≡ true
and_both a b e f = rw (e, f) refl

-- a pair of tests of which the second fails
pub and_fails : (a b : Bool) → b ≡ false → (a && b) ≡ false
and_fails true b e = e
and_fails false b e = refl

pub not_true : (a : Bool) → not a ≡ true → a ≡ false
not_true true e = cc
not_true false e = refl

pub not_false : (a : Bool) → a ≡ false → not a ≡ true
not_false a e = rw e refl

pub or_first : (a b : Bool) → (a || b) ≡ false → a ≡ false
or_first true b e = cc
or_first false b e = refl

pub or_second : (a b : Bool) → (a || b) ≡ false → b ≡ false
or_second true b e = cc
or_second false b e = e

-- two tests of which each says the other
pub same_by : (a b : Bool) → (a ≡ true → b ≡ true) → (b ≡ true → a ≡ true) → a ≡ b
same_by true b f g = let is = f refl in rw is refl
same_by false true f g = g refl
same_by false false f g = refl

pub both_pass : {X : Type 0} (test : X → Bool) (xs ys : List X) → list_all test xs ≡ true → list_all test ys ≡ true
    → list_all test (xs ++ ys) ≡ true
both_pass test [] ys e f = f
both_pass test (x ∷ xs) ys e f =
    and_both (test x) _ (and_first (test x) _ e) (both_pass test xs ys (and_second (test x) _ e) f)

pub first_passes : {X : Type 0} (test : X → Bool) (xs ys : List X) → list_all test (xs ++ ys) ≡ true → list_all test xs ≡ true
first_passes test [] ys e = refl
first_passes test (x ∷ xs) ys e =
    and_both (test x) _ (and_first (test x) _ e) (first_passes test xs ys (and_second (test x) _ e))

pub neither : {X : Type 0} (test : X → Bool) (xs ys : List X) → list_any test xs ≡ false → list_any test ys ≡ false
    → list_any test (xs ++ ys) ≡ false
neither test [] ys e f = f
neither test (x ∷ xs) ys e f = rw (or_first (test x) _ e) (neither test xs ys (or_second (test x) _ e) f)

pub first_fails : {X : Type 0} (test : X → Bool) (xs ys : List X) → list_any test (xs ++ ys) ≡ false → list_any test xs ≡ false
first_fails test [] ys e = refl
first_fails test (x ∷ xs) ys e = rw (or_first (test x) _ e) (first_fails test xs ys (or_second (test x) _ e))

pub map_both : {X Y : Type 0} (f : X → Y) (xs ys : List X) → map f (xs ++ ys) ≡ map f xs ++ map f ys
map_both f [] ys = refl
map_both f (x ∷ xs) ys = ap (λ zs. f x ∷ zs) (map_both f xs ys)

pub filter_both : {X : Type 0} (test : X → Bool) (xs ys : List X) → filter test (xs ++ ys) ≡ filter test xs ++ filter test ys
filter_both test [] ys = refl
filter_both {X} test (x ∷ xs) ys = go (test x) refl (filter_both test xs ys)
  where
    go : (b : Bool) → test x ≡ b → filter test (xs ++ ys) ≡ filter test xs ++ filter test ys
        → filter test ((x ∷ xs) ++ ys) ≡ filter test (x ∷ xs) ++ filter test ys
    go true is later = rw is (ap (λ (zs : List X). x ∷ zs) later)
    go false is later = rw is later

-- what passes one test is left by another that it always passes
pub passes_other : {X : Type 0} (test other : X → Bool) → ((x : X) → test x ≡ true → other x ≡ true) → (xs : List X)
    → list_all other (filter test xs) ≡ true
passes_other test other so [] = refl
passes_other {X} test other so (x ∷ xs) = go (test x) refl (passes_other test other so xs)
  where
    go : (b : Bool) → test x ≡ b → list_all other (filter test xs) ≡ true → list_all other (filter test (x ∷ xs)) ≡ true
    go true is later = rw is (and_both (other x) _ (so x is) later)
    go false is later = rw is later

-- the members that are left pass what all pass
pub some_pass : {X : Type 0} (test other : X → Bool) (xs : List X) → list_all other xs ≡ true → list_all other (filter test xs) ≡ true
some_pass test other [] e = refl
some_pass {X} test other (x ∷ xs) e = go (test x) refl (some_pass test other xs (and_second (other x) _ e))
  where
    go : (b : Bool) → test x ≡ b → list_all other (filter test xs) ≡ true → list_all other (filter test (x ∷ xs)) ≡ true
    go true is later = rw is (and_both (other x) _ (and_first (other x) _ e) later)
    go false is later = rw is later

-- where all pass all are left
pub all_left : {X : Type 0} (test : X → Bool) (xs : List X) → list_all test xs ≡ true → filter test xs ≡ xs
all_left test [] e = refl
all_left {X} test (x ∷ xs) e =
    rw (and_first (test x) _ e) (ap (λ (zs : List X). x ∷ zs) (all_left test xs (and_second (test x) _ e)))

-- where none passes none is left
pub none_left : {X : Type 0} (test : X → Bool) (xs : List X) → list_any test xs ≡ false → filter test xs ≡ []
none_left test [] e = refl
none_left test (x ∷ xs) e = rw (or_first (test x) _ e) (none_left test xs (or_second (test x) _ e))

-- two tests one after the other, in either order
pub in_turn : {X : Type 0} (one two : X → Bool) (xs : List X) → filter one (filter two xs) ≡ filter two (filter one xs)
in_turn one two [] = refl
in_turn {X} one two (x ∷ xs) = go (one x) (two x) refl refl (in_turn one two xs)
  where
    go : (a b : Bool) → one x ≡ a → two x ≡ b → filter one (filter two xs) ≡ filter two (filter one xs)
        → filter one (filter two (x ∷ xs)) ≡ filter two (filter one (x ∷ xs))
    go true true a b later = rw (a, b, a) (ap (λ (zs : List X). x ∷ zs) later)
    go true false a b later = rw (a, b) later
    go false true a b later = rw (a, b, a) later
    go false false a b later = rw (a, b) later

pub fewer : {X : Type 0} (test : X → Bool) (xs : List X) → length (filter test xs) ≤ length xs
fewer test [] = omega arith
fewer {X} test (x ∷ xs) = go (test x) refl (fewer test xs)
  where
    go : (b : Bool) → test x ≡ b → length (filter test xs) ≤ length xs → length (filter test (x ∷ xs)) ≤ length (x ∷ xs)
    go true is later = rw is (omega (arith, later))
    go false is later = rw is (omega (arith, later))

pub length-map_of : {X Y : Type 0} (f : X → Y) (xs : List X) → length (map f xs) ≡ length xs
length-map_of f [] = refl
length-map_of f (x ∷ xs) = omega (arith, length-map_of f xs)

-- the first members
pub first_pass : {X : Type 0} (test : X → Bool) (n : ℕ) (xs : List X) → list_all test xs ≡ true → list_all test (take n xs) ≡ true
first_pass test zero xs e = refl
first_pass test (suc n) [] e = refl
first_pass test (suc n) (x ∷ xs) e =
    and_both (test x) _ (and_first (test x) _ e) (first_pass test n xs (and_second (test x) _ e))

pub first_few : {X : Type 0} (n : ℕ) (xs : List X) → length (take n xs) ≤ n
first_few zero xs = omega arith
first_few (suc n) [] = omega arith
first_few (suc n) (x ∷ xs) = omega (arith, first_few n xs)

pub all_first : {X : Type 0} (n : ℕ) (xs : List X) → length xs ≤ n → take n xs ≡ xs
all_first zero [] h = refl
all_first zero (x ∷ xs) h = absurd (omega (arith, h))
all_first (suc n) [] h = refl
all_first {X} (suc n) (x ∷ xs) h = ap (λ (zs : List X). x ∷ zs) (all_first n xs (omega (arith, h)))
