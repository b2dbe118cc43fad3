-- Where no two of the first n places go to one, and all go among them, some place goes to each of them.
use Rattle.std.{proofs.{Common.{◌≡◌, ◌<◌, ◌≤◌, ◌+◌, ◌==◌, ◌∙◌, ℕ, zero, suc, nat_lt, not, ◌||◌, Bool, true, false, List, [], ◌∷◌, filter, length, map, refl, sym, ap, arith, eqb-true}, lemmas.{Bool.Decides.nat_tests, List.{length-map, FromFn.length-range_with_len}}}, specs.List.{AllByRecursion, list_any, range_with_len}}
use Rattle.pim_types.{specs.{Keys.{iface_in, iface_key, same_key}, declared.fact.Key.Key}, proofs.Keys.{equal_keys, same_key_same}}
use Rattle.pim_model.{specs.{Downstream.is_named, Tables.below}}
use Rattle.law_settled.{proofs.{ListLaws.{any_among_all, any_more, each_map, each_more, filter_stricter}, TableLaws.any_of_map}}
use Rattle.law_streams.{proofs.Counting.{AreApart as KeysApart, no_longer}}
use Rattle.law_states.{specs.{PlacedLaws.AreApart, Placing.number_at}, proofs.Orders.{in_range, passes_there}}

all_above : (c s : ℕ) → AllByRecursion (λ i. s ≤ i) (range_with_len s c)
all_above zero s = tt
all_above (suc c) s =
    (omega arith, each_more (λ i. s + 1 ≤ i) (λ i. s ≤ i) (λ i le. omega (arith, le)) (range_with_len (s + 1) c) (all_above c (s + 1)))

all_under : (c s : ℕ) → AllByRecursion (λ i. i < s + c) (range_with_len s c)
all_under zero s = tt
all_under (suc c) s =
    (omega arith, each_more (λ i. i < (s + 1) + c) (λ i. i < s + suc c) (λ i less. omega (arith, less)) (range_with_len (s + 1) c) (all_under c (s + 1)))

all_below : (n : ℕ) → AllByRecursion (λ i. i < n) (below n)
all_below n = each_more (λ i. i < 0 + n) (λ i. i < n) (λ i less. omega (arith, less)) (below n) (all_under n 0)

-- some place goes to a place
abbrev pub GoesTo : List ℕ → ℕ → ℕ → Type 0
GoesTo places n j = (i : ℕ) × (i < n) × (number_at places i ≡ j)

module _ (places : List ℕ) (n : ℕ) (apart : AreApart places) (low : (i : ℕ) → i < n → number_at places i < n) where
  abbrev place_key : ℕ → Key
  place_key i = iface_key (number_at places i)

  other_key : (s i : ℕ) → s + 1 ≤ i → (b : Bool) → same_key (place_key s) (place_key i) ≡ b → b ≡ false
  other_key s i le true e =
      let same : s ≡ i = apart s i (ap (λ (k : Key). iface_in k) (equal_keys (place_key s) (place_key i) e)) in
      absurd (omega (arith, le, same))
  other_key s i le false e = refl

  keys_apart : (c s : ℕ) → KeysApart (map place_key (range_with_len s c))
  keys_apart zero s = tt
  keys_apart (suc c) s = (
    each_map (λ i. s + 1 ≤ i) (λ k. same_key (place_key s) k ≡ false) place_key
        (λ i le. other_key s i le (same_key (place_key s) (place_key i)) refl) (range_with_len (s + 1) c) (all_above c (s + 1)),
    keys_apart c (s + 1),
  )

  module _ (j : ℕ) (less : j < n) where
    abbrev others : List ℕ
    others = filter (λ i. not (i == j)) (below n)

    fewer : length others < n
    fewer =
        let le : length others < length (below n) =
        filter_stricter (λ i. not (i == j)) (λ i. i == j) (λ i e. ap not e) (below n)
        (here (in_range j n 0 (is_low j n less))) in
        let count : length (below n) ≡ n = length-range_with_len 0 n in
        omega (arith, le, count)
      where
        is_low : (a b : ℕ) → a < b → nat_lt a b ≡ true
        is_low a b f = grind (arith, nat_tests, f)

        zero_plus : (a : ℕ) → 0 + a ≡ a
        zero_plus a = omega arith

        here : list_any (λ x. x == 0 + j) (range_with_len 0 n) ≡ true → list_any (λ x. x == j) (below n) ≡ true
        here e = ap (λ (a : ℕ). list_any (λ x. x == a) (below n)) (sym (zero_plus j)) ∙ e

    -- a place that goes elsewhere is among the others
    goes_beside : (i : ℕ) → i < n → (number_at places i == j) ≡ false → is_named (map iface_key others) (place_key i) ≡ true
    unfolding is_named
    goes_beside i here off =
        any_of_map (same_key (place_key i)) iface_key others
        ∙ any_alike (number_at places i) others
        (passes_there (λ x. not (x == j)) (number_at places i) (ap not off) (below n) (among (number_at places i) (low i here)))
      where
        zero_plus : (a : ℕ) → 0 + a ≡ a
        zero_plus a = omega arith

        is_low : (a b : ℕ) → a < b → nat_lt a b ≡ true
        is_low a b f = grind (arith, nat_tests, f)

        among : (a : ℕ) → a < n → list_any (λ x. x == a) (below n) ≡ true
        among a f = ap (λ (b : ℕ). list_any (λ x. x == b) (below n)) (sym (zero_plus a)) ∙ in_range a n 0 (is_low a n f)

        any_alike : (a : ℕ) (xs : List ℕ) → list_any (λ x. x == a) xs ≡ true → list_any (λ x. same_key (iface_key a) (iface_key x)) xs ≡ true
        any_alike a xs e =
            any_more (λ x. x == a) (λ x. same_key (iface_key a) (iface_key x))
            (λ x same. ap (λ (b : ℕ). same_key (iface_key b) (iface_key x)) (sym (eqb-true x a same)) ∙ same_key_same (iface_key x)) xs e

    none_else : list_any (λ i. number_at places i == j) (below n) ≡ false → ⊥
    none_else none =
        let le : length (map place_key (below n)) ≤ length (map iface_key others) =
        no_longer (map place_key (below n)) (map iface_key others) (keys_apart n 0)
        (each_map (λ i. (i < n) × ((number_at places i == j) ≡ false)) (λ k. is_named (map iface_key others) k ≡ true) place_key
        (λ i f. goes_beside i f.0 f.1) (below n) (all_off (below n) none (all_below n))) in
        let a : length (map place_key (below n)) ≡ length (below n) = length-map (below n) place_key in
        let b : length (map iface_key others) ≡ length others = length-map others iface_key in
        let count : length (below n) ≡ n = length-range_with_len 0 n in
        omega (arith, le, a, b, count, fewer)
      where
        split : (a b : Bool) → (a || b) ≡ false → (a ≡ false) × (b ≡ false)
        split true b e = cc
        split false true e = cc
        split false false e = (refl, refl)

        all_off : (xs : List ℕ) → list_any (λ i. number_at places i == j) xs ≡ false → AllByRecursion (λ i. i < n) xs
            → AllByRecursion (λ i. (i < n) × ((number_at places i == j) ≡ false)) xs
        all_off [] e f = tt
        all_off (x ∷ xs) e f =
            let both = split (number_at places x == j) (list_any (λ i. number_at places i == j) xs) e in
            ((f.0, both.0), all_off xs both.1 f.1)

    pub some_goes : GoesTo places n j
    some_goes = by (list_any (λ i. number_at places i == j) (below n)) refl
      where
        by : (b : Bool) → list_any (λ i. number_at places i == j) (below n) ≡ b → GoesTo places n j
        by false e = absurd (none_else e)
        by true e =
            any_among_all (λ i. i < n) (λ i. number_at places i == j)
            (λ i here same. (i, here, eqb-true (number_at places i) j same)) (below n) (all_below n) e
