-- The order between: how many places are in it, and below what they are.
use Rattle.std.{proofs.{Common.{◌≡◌, ◌≤◌, ◌+◌, ◌&&◌, ◌||◌, ◌==◌, ◌∙◌, ℕ, zero, suc, Bool, true, false, not, cond, List, [], ◌∷◌, ◌++◌, filter, map, length, nat_lt, Option, Some, None, refl, sym, ap, arith, eqb-true}, lemmas.{Bool.{or_right, Decides.nat_tests}, List.{length-map, Folds.list_any-append, FromFn.length-range_with_len}}}, specs.{List.{cons_option, list_all, list_any, range_with_len, slice_get}}}
use Rattle.pim_types.{specs.declared.config.{InterfaceConfig.InterfaceConfig}}
use Rattle.pim_model.{specs.{State.{iface_count}, Tables.{below}}}
use Rattle.law_settled.{proofs.ListLaws.{all_of_filter, any_more, each_map, each_of_list, list_of_each}}
use Rattle.law_states.{specs.{Reload.config_of, PlacedLaws.PlacesAreThere, Placing.{Places, are_places, in_order, index_from, index_of, interfaces_at, is_kept, is_left_out, is_new, kept_places, new_order, old_order, to_order}}}

both : (a b : Bool) → a ≡ true → b ≡ true → (a && b) ≡ true
both true b f g = g
both false b f g = cc

first : (a b : Bool) → (a && b) ≡ true → a ≡ true
first true b e = refl
first false b e = cc

second : (a b : Bool) → (a && b) ≡ true → b ≡ true
second true b e = e
second false b e = cc

-- ---- lists

all_joined : {X : Type 0} (p : X → Bool) (xs ys : List X) → list_all p xs ≡ true → list_all p ys ≡ true
    → list_all p (xs ++ ys) ≡ true
all_joined p [] ys e f = f
all_joined p (x ∷ xs) ys e f =
    both (p x) _ (first (p x) (list_all p xs) e) (all_joined p xs ys (second (p x) (list_all p xs) e) f)

pub interfaces_shorter : (cs : List InterfaceConfig) (order : List ℕ) → length (interfaces_at cs order) ≤ length order
interfaces_shorter cs [] = omega arith
interfaces_shorter cs (i ∷ order) = by (slice_get cs i) (interfaces_shorter cs order)
  where
    by : (o : Option InterfaceConfig) → length (interfaces_at cs order) ≤ length order
        → length (cons_option o (interfaces_at cs order)) ≤ suc (length order)
    by None le = omega (arith, le)
    by (Some c) le = omega (arith, le)

-- ---- lengths

pub to_length : (m : Places) → length (to_order m) ≡ length m
unfolding to_order
to_length m = length-map (below (length m)) (index_of (old_order m)) ∙ length-range_with_len 0 (length m)

-- ---- the new order is of the other configuration's places

range_low : (n k : ℕ) → list_all (λ j. nat_lt j (k + n)) (range_with_len k n) ≡ true
range_low zero k = refl
range_low (suc n) k =
    both (nat_lt k (k + suc n)) _ (grind (arith, nat_tests))
    (ap (λ (b : ℕ). list_all (λ j. nat_lt j b) (range_with_len (k + 1) n)) (shift k n) ∙ range_low n (k + 1))
  where
    shift : (a b : ℕ) → a + suc b ≡ (a + 1) + b
    shift a b = omega arith

pub from_zero : (n : ℕ) → n ≡ 0 + n
from_zero n = omega arith

low_below : (n : ℕ) → list_all (λ j. nat_lt j n) (below n) ≡ true
low_below n = ap (λ (b : ℕ). list_all (λ j. nat_lt j b) (below n)) (from_zero n) ∙ range_low n 0

pub new_low : (m : Places) (new : ℕ) → list_all (λ j. nat_lt j new) (kept_places m) ≡ true
    → list_all (λ j. nat_lt j new) (new_order m new) ≡ true
unfolding new_order
new_low m new e =
    all_joined (λ j. nat_lt j new) (kept_places m) (filter (is_new (kept_places m)) (below new)) e
    (all_of_filter (is_new (kept_places m)) (λ j. nat_lt j new) (below new) (low_below new))

-- ---- each old place has a place in the order between

pub old_low : (m : Places) → list_all (λ i. nat_lt i (length m)) (old_order m) ≡ true
unfolding old_order
old_low m =
    all_joined (λ i. nat_lt i (length m)) (filter (is_kept m) (below (length m))) (filter (is_left_out m) (below (length m)))
    (all_of_filter (is_kept m) (λ i. nat_lt i (length m)) (below (length m)) (low_below (length m)))
    (all_of_filter (is_left_out m) (λ i. nat_lt i (length m)) (below (length m)) (low_below (length m)))

lower : (i n : ℕ) → nat_lt (suc i) (suc n) ≡ true → nat_lt i n ≡ true
lower i n less = grind (arith, nat_tests, less)

none_below : (i : ℕ) → nat_lt i 0 ≡ true → ⊥
none_below i less = grind (arith, nat_tests, less)

one_found : (cs : List InterfaceConfig) (i : ℕ) (o : Option InterfaceConfig) → slice_get cs i ≡ o → nat_lt i (length cs) ≡ true
    → (rest : List InterfaceConfig) → length (cons_option o rest) ≡ suc (length rest)
one_found cs i (Some c) e less rest = refl
one_found [] i None e less rest = absurd (none_below i less)
one_found (c ∷ cs) zero None e less rest = cc
one_found (c ∷ cs) (suc i) None e less rest = one_found cs i None e (lower i (length cs) less) rest

pub all_found : (cs : List InterfaceConfig) (order : List ℕ) → list_all (λ i. nat_lt i (length cs)) order ≡ true
    → length (interfaces_at cs order) ≡ length order
all_found cs [] e = refl
all_found cs (i ∷ order) e =
    one_found cs i (slice_get cs i) refl (first (nat_lt i (length cs)) _ e) (interfaces_at cs order)
    ∙ ap suc (all_found cs order (second (nat_lt i (length cs)) _ e))

pub index_low : (n k : ℕ) (ns : List ℕ) → list_any (λ m. m == n) ns ≡ true → nat_lt (index_from k n ns) (k + length ns) ≡ true
index_low n k [] e = cc
index_low n k (m ∷ ms) e = by (m == n) (index_low n (k + 1) ms) e
  where
    by : (b : Bool) → (list_any (λ x. x == n) ms ≡ true → nat_lt (index_from (k + 1) n ms) ((k + 1) + length ms) ≡ true)
        → (b || list_any (λ x. x == n) ms) ≡ true
        → nat_lt (cond b k (index_from (k + 1) n ms)) (k + suc (length ms)) ≡ true
    by true f e = grind (arith, nat_tests)
    by false f e = let less = f e in grind (arith, nat_tests, less)

pub in_range : (i n k : ℕ) → nat_lt i n ≡ true → list_any (λ x. x == k + i) (range_with_len k n) ≡ true
in_range i zero k less = absurd (none_below i less)
in_range zero (suc n) k less = ap (λ (b : Bool). b || list_any (λ x. x == k + 0) (range_with_len (k + 1) n)) (here k)
  where
    here : (a : ℕ) → (a == a + 0) ≡ true
    here a = grind (arith, nat_tests)
in_range (suc i) (suc n) k less =
    or_right (k == k + suc i) (list_any (λ x. x == k + suc i) (range_with_len (k + 1) n))
    (ap (λ (a : ℕ). list_any (λ x. x == a) (range_with_len (k + 1) n)) (shift k i) ∙ in_range i n (k + 1) (lower i n less))
  where
    shift : (a b : ℕ) → a + suc b ≡ (a + 1) + b
    shift a b = omega arith

pub passes_there : (p : ℕ → Bool) (i : ℕ) → p i ≡ true → (ns : List ℕ) → list_any (λ x. x == i) ns ≡ true
    → list_any (λ x. x == i) (filter p ns) ≡ true
passes_there p i passes ns there =
    in_filter ns
    ∙ any_more (λ x. x == i) (λ x. p x && (x == i))
    (λ x same. both (p x) (x == i) (ap p (eqb-true x i same) ∙ passes) same) ns there
  where
    in_filter : (xs : List ℕ) → list_any (λ x. x == i) (filter p xs) ≡ list_any (λ x. p x && (x == i)) xs
    in_filter [] = refl
    in_filter (y ∷ ys) = step (p y) (in_filter ys)
      where
        step : (b : Bool) → list_any (λ x. x == i) (filter p ys) ≡ list_any (λ x. p x && (x == i)) ys
            → list_any (λ x. x == i) (cond b (y ∷ filter p ys) (filter p ys)) ≡ ((b && (y == i)) || list_any (λ x. p x && (x == i)) ys)
        step true e = ap (λ (c : Bool). (y == i) || c) e
        step false e = e

pub each_among : (m : Places) (i : ℕ) → nat_lt i (length m) ≡ true → list_any (λ x. x == i) (old_order m) ≡ true
unfolding old_order is_left_out
each_among m i less =
    list_any-append (λ x. x == i) (filter (is_kept m) (below (length m))) (filter (is_left_out m) (below (length m)))
    ∙ by (is_kept m i) refl
  where
    there : list_any (λ x. x == i) (below (length m)) ≡ true
    there = ap (λ (a : ℕ). list_any (λ x. x == a) (below (length m))) (from_zero i) ∙ in_range i (length m) 0 less

    by : (b : Bool) → is_kept m i ≡ b
        → (list_any (λ x. x == i) (filter (is_kept m) (below (length m)))
        || list_any (λ x. x == i) (filter (is_left_out m) (below (length m)))) ≡ true
    by true e =
        ap (λ (b : Bool). b || list_any (λ x. x == i) (filter (is_left_out m) (below (length m))))
        (passes_there (is_kept m) i e (below (length m)) there)
    by false e =
        or_right (list_any (λ x. x == i) (filter (is_kept m) (below (length m)))) _
        (passes_there (is_left_out m) i (left_out e) (below (length m)) there)
      where
        left_out : is_kept m i ≡ false → is_left_out m i ≡ true
        left_out e = ap not e

-- the places in the order between are of the old configuration in that order
pub to_low : (cs : List InterfaceConfig) (m : Places) → length m ≡ length cs
    → list_all (λ j. nat_lt j (length (interfaces_at cs (old_order m)))) (to_order m) ≡ true
unfolding to_order index_of
to_low cs m same =
    let count : length (interfaces_at cs (old_order m)) ≡ length (old_order m) =
    all_found cs (old_order m) (ap (λ (n : ℕ). list_all (λ i. nat_lt i n) (old_order m)) (sym same) ∙ old_low m) in
    ap (λ (n : ℕ). list_all (λ j. nat_lt j n) (map (index_of (old_order m)) (below (length m)))) count
    ∙ list_of_each (λ j. nat_lt j (length (old_order m))) (map (index_of (old_order m)) (below (length m)))
    (each_map (λ i. nat_lt i (length m) ≡ true) (λ j. nat_lt j (length (old_order m)) ≡ true) (index_of (old_order m))
    (λ i less. ap (λ (n : ℕ). nat_lt (index_from 0 i (old_order m)) n) (from_zero (length (old_order m))) ∙ index_low i 0 (old_order m) (each_among m i less)) (below (length m))
    (each_of_list (λ i. nat_lt i (length m)) (below (length m)) (low_below (length m))))

eq_of : (m n : ℕ) → (m == n) ≡ true → m ≡ n
eq_of m n e = eqb-true m n e

pub places_are_there : PlacesAreThere
unfolding are_places in_order config_of
places_are_there s m c e =
    let count : length m ≡ iface_count s = eq_of (length m) (iface_count s) (first (length m == iface_count s) _ e) in
    let low = first (list_all (λ j. nat_lt j (length c.interfaces)) (kept_places m)) _ (second (length m == iface_count s) _ e) in
    record {
      each = to_length m ∙ count;
      there = to_low s.configured.interfaces m count;
      again = interfaces_shorter c.interfaces (new_order m (length c.interfaces));
      back = new_low m (length c.interfaces) low;
    }
