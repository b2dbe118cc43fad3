-- Keys that rise are no more than those of a list that has them all.
use Rattle.std.{proofs.{Common.{◌≡◌, ◌≤◌, ◌<◌, Bool, true, not, List, [], ◌∷◌, filter, length, refl, sym, ap, ◌∙◌, arith}, lemmas.Map.Views.any-filter_same}, specs.{Cmp.{first_so, second_so, Derive.both_true}, declared.cmp.Ordering.TheVariants.Less, List.{AllByRecursion, list_all, list_any, Sorted.IsStrictlySortedBy}, Ordering.is_eq}}
use Rattle.pim_types.{specs.{declared.fact.Key.Key, Keys.{key_cmp, same_key}}, proofs.Keys.equal_keys}
use Rattle.law_settled.{proofs.ListLaws.filter_stricter}

abbrev among : List Key → Key → Bool
among ys k = list_any (same_key k) ys

module _ (x : Key) (ys : List Key) where
  abbrev left : List Key
  left = filter (λ y. not (same_key x y)) ys

  still : (k : Key) → key_cmp x k ≡ Less → among ys k ≡ true → among left k ≡ true
  still k less e =
      any-filter_same (same_key k) (λ y. not (same_key x y)) (not (same_key x k))
      (λ y same. ap (λ q. not (same_key x q)) (sym (equal_keys k y same))) ys
      ∙ both_true (ap (λ o. not (is_eq o)) less) e

  all_still : (xs : List Key) → AllByRecursion (λ y. key_cmp x y ≡ Less) xs → list_all (among ys) xs ≡ true
      → list_all (among left) xs ≡ true
  all_still [] above e = refl
  all_still (k ∷ ks) above e =
      grind (arith, all_still ks above.1 (second_so (among ys k) (list_all (among ys) ks) e), still)

pub rising_within : (xs ys : List Key) → IsStrictlySortedBy key_cmp xs → list_all (λ k. list_any (same_key k) ys) xs ≡ true
    → length xs ≤ length ys
unfolding IsStrictlySortedBy
rising_within [] ys rises e = omega arith
rising_within (x ∷ xs) ys rises e =
    let fewer : length (left x ys) < length ys =
    filter_stricter (λ y. not (same_key x y)) (same_key x) (λ y same. ap not same) ys
    (first_so (among ys x) (list_all (among ys) xs) e) in
    let rest : length xs ≤ length (left x ys) =
    rising_within xs (left x ys) rises.1 (all_still x ys xs rises.0 (second_so (among ys x) (list_all (among ys) xs) e)) in
    omega (arith, fewer, rest)
