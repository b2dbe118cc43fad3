-- Lists: what holds of each element, what passes a test, the first of a list.
use Rattle.std.{proofs.{Common.{◌≡◌, suc, ◌<◌, ◌≤◌, Bool, true, false, cond, ◌&&◌, ◌||◌, List, [], ◌∷◌, ◌++◌, map, length, Option, Some, None, refl, subst, arith}, lemmas.Bool.{false≢true, or_left, or_right}}, specs.{Cmp.{first_so, second_so, Derive.both_true}, List.{AllByRecursion, cons_option, filter, filter_map, find, list_all, list_any}}}
use Rattle.pim_model.{specs.Clearing.{first_of_both, first_by}}

pub by_cond : {X : Type 0} (P : X → Type 0) (b : Bool) (x y : X) → P x → P y → P (cond b x y)
by_cond P b x y f g = grind arith

pub either : {A : Type 0} (a b : Bool) → (a ≡ true → A) → (b ≡ true → A) → (a || b) ≡ true → A
either a b f g e = grind arith

pub or_swapped : (a b c : Bool) → (a || (b || c)) ≡ (b || (a || c))
or_swapped a b c = grind arith

-- ---- each element

module _ {X : Type 0} (P : X → Type 0) where
  pub each_of_all : ((x : X) → P x) → (xs : List X) → AllByRecursion P xs
  each_of_all all [] = tt
  each_of_all all (x ∷ xs) = (all x, each_of_all all xs)

  pub each_append : (xs ys : List X) → AllByRecursion P xs → AllByRecursion P ys → AllByRecursion P (xs ++ ys)
  each_append [] ys f g = g
  each_append (x ∷ xs) ys f g = (f.0, each_append xs ys f.1 g)

  pub each_option : (o : Option X) (ys : List X) → ((y : X) → o ≡ Some y → P y) → AllByRecursion P ys
      → AllByRecursion P (cons_option o ys)
  each_option o ys h e = grind arith

  -- what a filter leaves passes its test
  pub each_passing : (test : X → Bool) (xs : List X) → AllByRecursion P xs
      → AllByRecursion (λ x. P x × (test x ≡ true)) (filter test xs)
  each_passing test [] e = tt
  each_passing test (x ∷ xs) e = grind (arith, each_passing test xs e.1)

module _ {X Y : Type 0} (P : X → Type 0) (Q : Y → Type 0) where
  pub each_filter_map : (h : X → Option Y) → ((x : X) (y : Y) → h x ≡ Some y → P x → Q y) → (xs : List X)
      → AllByRecursion P xs → AllByRecursion Q (filter_map h xs)
  each_filter_map h keeps [] e = tt
  each_filter_map h keeps (x ∷ xs) e = grind (arith, each_filter_map h keeps xs e.1, each_option)

  pub each_map : (f : X → Y) → ((x : X) → P x → Q (f x)) → (xs : List X) → AllByRecursion P xs
      → AllByRecursion Q (map f xs)
  each_map f keeps [] e = tt
  each_map f keeps (x ∷ xs) e = (keeps x e.0, each_map f keeps xs e.1)

pub each_more : {X : Type 0} (P Q : X → Type 0) → ((x : X) → P x → Q x) → (xs : List X) → AllByRecursion P xs
    → AllByRecursion Q xs
each_more P Q more [] e = tt
each_more P Q more (x ∷ xs) e = (more x e.0, each_more P Q more xs e.1)

pub each_both : {X : Type 0} (P Q G : X → Type 0) → ((x : X) → P x → Q x → G x) → (xs : List X) → AllByRecursion P xs
    → AllByRecursion Q xs → AllByRecursion G xs
each_both P Q G both [] e f = tt
each_both P Q G both (x ∷ xs) e f = (both x e.0 f.0, each_both P Q G both xs e.1 f.1)

pub each_filter : {X : Type 0} (P : X → Type 0) (test : X → Bool) (xs : List X) → AllByRecursion P xs
    → AllByRecursion P (filter test xs)
each_filter P test xs e = grind (arith, each_more, each_passing)

-- of each of one list and each of another, in either order
module _ {X Y : Type 0} (P : X → Y → Type 0) where
  each_paired : (x : X) (xs : List X) (ys : List Y) → AllByRecursion (λ y. AllByRecursion (λ x. P x y) (x ∷ xs)) ys
      → AllByRecursion (P x) ys × AllByRecursion (λ y. AllByRecursion (λ x. P x y) xs) ys
  each_paired x xs [] f = (tt, tt)
  each_paired x xs (y ∷ ys) f =
      let later : AllByRecursion (P x) ys × AllByRecursion (λ y. AllByRecursion (λ x. P x y) xs) ys =
      each_paired x xs ys f.1 in
      (((f.0).0, later.0), ((f.0).1, later.1))

  pub each_swapped : (xs : List X) (ys : List Y) → AllByRecursion (λ y. AllByRecursion (λ x. P x y) xs) ys
      → AllByRecursion (λ x. AllByRecursion (P x) ys) xs
  each_swapped [] ys f = tt
  each_swapped (x ∷ xs) ys f = ((each_paired x xs ys f).0, each_swapped xs ys (each_paired x xs ys f).1)

-- ---- tests

module _ {X : Type 0} (p : X → Bool) where
  pub each_of_list : (xs : List X) → list_all p xs ≡ true → AllByRecursion (λ x. p x ≡ true) xs
  each_of_list [] e = tt
  each_of_list (x ∷ xs) e = (first_so (p x) (list_all p xs) e, each_of_list xs (second_so (p x) (list_all p xs) e))

  pub list_of_each : (xs : List X) → AllByRecursion (λ x. p x ≡ true) xs → list_all p xs ≡ true
  list_of_each [] e = refl
  list_of_each (x ∷ xs) e = both_true e.0 (list_of_each xs e.1)

  pub each_passes : (xs : List X) → AllByRecursion (λ x. p x ≡ true) (filter p xs)
  each_passes xs =
      each_more (λ x. Unit {0} × (p x ≡ true)) (λ x. p x ≡ true) (λ x f. f.1) (filter p xs)
      (each_passing (λ x. Unit {0}) p xs (each_of_all (λ x. Unit {0}) (λ x. tt) xs))

  -- where one passes, each that does says so
  pub each_member : (xs : List X) → AllByRecursion (λ x. p x ≡ true → list_any p xs ≡ true) xs
  each_member [] = tt
  each_member (x ∷ xs) = grind (arith, each_member xs, or_left, each_more, or_right)

-- what follows of one that passes
pub any_among_all : {X C : Type 0} (P : X → Type 0) (q : X → Bool) → ((x : X) → P x → q x ≡ true → C) → (xs : List X)
    → AllByRecursion P xs → list_any q xs ≡ true → C
any_among_all P q done [] h e = absurd (false≢true e)
any_among_all P q done (x ∷ xs) h e = either (q x) (list_any q xs) (done x h.0) (any_among_all P q done xs h.1) e

-- tests that pass more
module _ {X : Type 0} (p q : X → Bool) (more : (x : X) → p x ≡ true → q x ≡ true) where
  pub any_more : (xs : List X) → list_any p xs ≡ true → list_any q xs ≡ true
  any_more xs e =
      any_among_all (λ x. q x ≡ true → list_any q xs ≡ true) p (λ x f g. f (more x g)) xs (each_member q xs) e

  pub all_more : (xs : List X) → list_all p xs ≡ true → list_all q xs ≡ true
  all_more xs e = list_of_each q xs (each_more _ _ more xs (each_of_list p xs e))

-- what passes a test in a filtered list passes it in the list
pub any_of_filter : {X : Type 0} (p q : X → Bool) (xs : List X) → list_any q (filter p xs) ≡ true
    → list_any q xs ≡ true
any_of_filter p q xs e =
    any_among_all (λ x. q x ≡ true → list_any q xs ≡ true) q (λ x f g. f g) (filter p xs)
    (each_filter _ p xs (each_member q xs)) e

pub all_of_filter : {X : Type 0} (p q : X → Bool) (xs : List X) → list_all q xs ≡ true → list_all q (filter p xs) ≡ true
all_of_filter p q xs e = list_of_each q (filter p xs) (each_filter _ p xs (each_of_list q xs e))

-- a filter that leaves all that another keeps
module _ {X : Type 0} (p q : X → Bool) (within : (x : X) → p x ≡ true → q x ≡ true) where
  within_step : (x : X) (xs : List X) (b c : Bool) → p x ≡ b → q x ≡ c → filter p (filter q xs) ≡ filter p xs
      → filter p (cond c (x ∷ filter q xs) (filter q xs)) ≡ cond b (x ∷ filter p xs) (filter p xs)
  within_step x xs b c e f ih = grind arith

  pub filter_within : (xs : List X) → filter p (filter q xs) ≡ filter p xs
  filter_within [] = refl
  filter_within (x ∷ xs) = within_step x xs (p x) (q x) refl refl (filter_within xs)

-- ---- lengths

module _ {X : Type 0} (p : X → Bool) where
  pub filter_shorter : (xs : List X) → length (filter p xs) ≤ length xs
  filter_shorter [] = omega arith
  filter_shorter (x ∷ xs) =
      let shorter : length (filter p xs) ≤ length xs = filter_shorter xs in
      elim (p x) as (λ b. length (cond b (x ∷ filter p xs) (filter p xs)) ≤ suc (length xs))
      [ true ↦ omega arith | false ↦ omega arith ]

  -- one that passes q is left out
  stricter_step : (q : X → Bool) → ((x : X) → q x ≡ true → p x ≡ false) → (x : X) (xs : List X)
      → (list_any q xs ≡ true → length (filter p xs) < length xs)
      → (b c : Bool) → q x ≡ b → p x ≡ c → (b || list_any q xs) ≡ true
      → length (cond c (x ∷ filter p xs) (filter p xs)) < suc (length xs)
  stricter_step q apart x xs ih b c here kept e = grind (arith, filter_shorter)

  pub filter_stricter : (q : X → Bool) → ((x : X) → q x ≡ true → p x ≡ false) → (xs : List X) → list_any q xs ≡ true
      → length (filter p xs) < length xs
  filter_stricter q apart [] e = cc
  filter_stricter q apart (x ∷ xs) e = grind (arith, filter_stricter q apart xs, stricter_step)

-- ---- the first of a list is one of its elements

module _ {X : Type 0} (is_first : X → X → Bool) where
  first_of_two : (P : X → Type 0) (x : X) (o : Option X) → P x → ((y : X) → o ≡ Some y → P y)
      → P (first_of_both is_first x o)
  unfolding first_of_both
  first_of_two P x o here later = grind (arith, by_cond)

  pub first_of_all : (P : X → Type 0) (xs : List X) → AllByRecursion P xs → (d : X) → first_by is_first xs ≡ Some d
      → P d
  unfolding first_by
  first_of_all P [] h d e = cc
  first_of_all P (x ∷ xs) h d e =
      let same : first_of_both is_first x (first_by is_first xs) ≡ d = cc in
      subst P same (first_of_two P x (first_by is_first xs) h.0 (first_of_all P xs h.1))

  pub nothing_first : (xs : List X) → first_by is_first xs ≡ None → xs ≡ []
  unfolding first_by
  nothing_first [] e = refl
  nothing_first (x ∷ xs) e = cc

  pub first_by_member : (q : X → Bool) (xs : List X) (d : X) → q d ≡ true → first_by is_first xs ≡ Some d
      → list_any q xs ≡ true
  first_by_member q xs d here e =
      first_of_all (λ x. q x ≡ true → list_any q xs ≡ true) xs (each_member q xs) d e here

-- what is found passes
module _ {X : Type 0} (p : X → Bool) where
  found_of_each : (P : X → Type 0) (xs : List X) → AllByRecursion P xs → (d : X) → find p xs ≡ Some d
      → P d × (p d ≡ true)
  found_of_each P [] h d e = cc
  found_of_each P (x ∷ xs) h d e = grind (arith, found_of_each P xs h.1 d)

  pub find_member : (q : X → Bool) (xs : List X) (d : X) → q d ≡ true → find p xs ≡ Some d
      → list_any (λ x. p x && q x) xs ≡ true
  find_member q xs d here e =
      let found : ((p d && q d) ≡ true → list_any (λ x. p x && q x) xs ≡ true) × (p d ≡ true) =
      found_of_each (λ x. (p x && q x) ≡ true → list_any (λ x. p x && q x) xs ≡ true) xs
      (each_member (λ x. p x && q x) xs) d e in
      found.0 (both_true found.1 here)
