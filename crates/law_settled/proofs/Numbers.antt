-- Numbers put in order: they rise, they are told by their members, and stay in order.
use Rattle.std.{proofs.{Common.{◌≡◌, ◌≤◌, ◌==◌, ◌||◌, ℕ, suc, Bool, true, false, cond, List, [], ◌∷◌, nat_lt, refl, sym, ap, ◌∙◌, arith, subst, eq-eqb}, Math.Bool.{or-false, or_assoc}, lemmas.Bool.Decides.nat_tests}, specs.{List.{filter, list_any}, Prelude.{fold, if◌then◌else◌}}}
use Rattle.pim_model.{specs.Tables.{ascending, insert_number, is_among}}
use Rattle.law_settled.{proofs.ListLaws.or_swapped}

-- each is above the one before, the first not below k
abbrev pub RisesFrom : ℕ → List ℕ → Type 0
RisesFrom k [] = Unit {0}
RisesFrom k (n ∷ ns) = (k ≤ n) × RisesFrom (suc n) ns

pub rises_inserted : (k n : ℕ) (ms : List ℕ) → k ≤ n → RisesFrom k ms → RisesFrom k (insert_number n ms)
unfolding insert_number
rises_inserted k n [] least r = (least, tt)
rises_inserted k n (m ∷ ms) least r =
    by_test (nat_lt n m) refl (n == m) refl (insert_number n ms)
    (λ (above : suc m ≤ n). rises_inserted (suc m) n ms above r.1) where
      by_test : (less : Bool) → nat_lt n m ≡ less → (same : Bool) → (n == m) ≡ same → (later : List ℕ)
          → (suc m ≤ n → RisesFrom (suc m) later)
          → RisesFrom k (if less then n ∷ m ∷ ms else (if same then m ∷ ms else m ∷ later))
      by_test true e same f later go = (least, (grind (arith, nat_tests, e), r.1))
      by_test false e true f later go = r
      by_test false e false f later go = (r.0, go (grind (arith, nat_tests, e, f)))

rises_folded : (ns sorted : List ℕ) → RisesFrom 0 sorted
    → RisesFrom 0 (fold (λ sorted n. insert_number n sorted) sorted ns)
rises_folded [] sorted r = r
rises_folded (n ∷ ns) sorted r = rises_folded ns (insert_number n sorted) (rises_inserted 0 n sorted (omega arith) r)

pub rises_ascending : (ns : List ℕ) → RisesFrom 0 (ascending ns)
unfolding ascending
rises_ascending ns = rises_folded ns [] tt

rises_from : (k l : ℕ) (ns : List ℕ) → k ≤ l → RisesFrom l ns → RisesFrom k ns
rises_from k l [] least r = tt
rises_from k l (n ∷ ns) least r = (omega (arith, r.0), r.1)

rises_step : (p : ℕ → Bool) (k n : ℕ) (ns : List ℕ) (b : Bool) → k ≤ n → RisesFrom (suc n) (filter p ns)
    → RisesFrom k (cond b (n ∷ filter p ns) (filter p ns))
rises_step p k n ns b least r = grind (arith, rises_from)

pub rises_filtered : (p : ℕ → Bool) (k : ℕ) (ns : List ℕ) → RisesFrom k ns → RisesFrom k (filter p ns)
rises_filtered p k [] r = tt
rises_filtered p k (n ∷ ns) r = rises_step p k n ns (p n) r.0 (rises_filtered p (suc n) ns r.1)

-- ---- members

above : (n k : ℕ) (ns : List ℕ) → RisesFrom k ns → list_any (λ m. m == n) ns ≡ true → k ≤ n
above n k [] r e = cc
above n k (m ∷ ns) r e = grind (arith, above n (suc m) ns r.1, nat_tests)

heads : (x y : ℕ) (xs ys : List ℕ) → RisesFrom (suc x) xs → RisesFrom (suc y) ys
    → list_any (λ m. m == x) (y ∷ ys) ≡ true → list_any (λ m. m == y) (x ∷ xs) ≡ true → x ≡ y
heads x y xs ys r t e f = grind (arith, nat_tests, above)

tails : (x : ℕ) (xs ys : List ℕ) → RisesFrom (suc x) xs → RisesFrom (suc x) ys
    → ((n : ℕ) → list_any (λ m. m == n) (x ∷ xs) ≡ list_any (λ m. m == n) (x ∷ ys))
    → (n : ℕ) → list_any (λ m. m == n) xs ≡ list_any (λ m. m == n) ys
tails x xs ys r t same n = grind (arith, above, nat_tests)

pub same_numbers : (k l : ℕ) (xs ys : List ℕ) → RisesFrom k xs → RisesFrom l ys
    → ((n : ℕ) → list_any (λ m. m == n) xs ≡ list_any (λ m. m == n) ys) → xs ≡ ys
same_numbers k l [] [] r t same = refl
same_numbers k l [] (y ∷ ys) r t same = cc (same y, ap (λ (b : Bool). b || list_any (λ m. m == y) ys) (eq-eqb y y refl))
same_numbers k l (x ∷ xs) [] r t same = cc (same x, ap (λ (b : Bool). b || list_any (λ m. m == x) xs) (eq-eqb x x refl))
same_numbers k l (x ∷ xs) (y ∷ ys) r t same =
    let head : x ≡ y =
    heads x y xs ys r.1 t.1
    (sym (same x) ∙ ap (λ (b : Bool). b || list_any (λ m. m == x) xs) (eq-eqb x x refl))
    (same y ∙ ap (λ (b : Bool). b || list_any (λ m. m == y) ys) (eq-eqb y y refl)) in
    let rises : RisesFrom (suc x) ys = subst (λ (z : ℕ). RisesFrom (suc z) ys) (sym head) t.1 in
    let tail : xs ≡ ys = same_numbers (suc x) (suc x) xs ys r.1 rises
    (tails x xs ys r.1 rises (λ n. same n ∙ ap (λ (z : ℕ). (z == n) || list_any (λ m. m == n) ys) (sym head))) in
    λ j. head j ∷ tail j

pub members_tell : (xs ys : List ℕ) → ((n : ℕ) → is_among n (ascending xs) ≡ is_among n (ascending ys))
    → ascending xs ≡ ascending ys
unfolding is_among
members_tell xs ys same = same_numbers 0 0 (ascending xs) (ascending ys) (rises_ascending xs) (rises_ascending ys) same

-- ---- numbers put in order

module _ (q : ℕ → Bool) where
  put_in : (n m : ℕ) (ms later : List ℕ) (less same : Bool) → (n == m) ≡ same
      → list_any q later ≡ (q n || list_any q ms)
      → list_any q (if less then n ∷ m ∷ ms else (if same then m ∷ ms else m ∷ later)) ≡ (q n || (q m || list_any q ms))
  put_in n m ms later less same e is = grind arith

  any_inserted : (n : ℕ) (ms : List ℕ) → list_any q (insert_number n ms) ≡ (q n || list_any q ms)
  unfolding insert_number
  any_inserted n [] = refl
  any_inserted n (m ∷ ms) = put_in n m ms (insert_number n ms) (nat_lt n m) (n == m) refl (any_inserted n ms)

  any_folded : (ns ms : List ℕ) → list_any q (fold (λ sorted n. insert_number n sorted) ms ns)
      ≡ (list_any q ns || list_any q ms)
  any_folded [] ms = refl
  any_folded (n ∷ ns) ms =
      any_folded ns (insert_number n ms)
      ∙ rw (any_inserted n ms)
      (or_swapped (list_any q ns) (q n) (list_any q ms) ∙ sym (or_assoc (q n) (list_any q ns) (list_any q ms)))

  pub any_ascending : (ns : List ℕ) → list_any q (ascending ns) ≡ list_any q ns
  unfolding ascending
  any_ascending ns = any_folded ns [] ∙ or-false (list_any q ns)

pub ascending_again : (ns : List ℕ) → ascending (ascending ns) ≡ ascending ns
unfolding is_among
ascending_again ns = members_tell (ascending ns) ns (λ n. any_ascending (λ m. m == n) (ascending ns))
