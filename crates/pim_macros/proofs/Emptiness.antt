-- Whether a configured interface passes a test, by the configured interfaces of a set that shows it.
use Rattle.std.{proofs.{Common.{◌≡◌, ℕ, zero, suc, ◌+◌, ◌<◌, ◌≤◌, Bool, true, false, not, ◌&&◌, IsTrue, ◌↔◌, nat_lt, refl, get_or, zero-add, ◌∙◌, arith}, lemmas.{Bool.Decides.nat_tests, List.{Folds.list_any_at, FromFn.{get_or-range_with_len, length-range_with_len}}}}, specs.List.{list_any, range_with_len}}

none_from : (test : ℕ → Bool) (a n : ℕ) → ((i : ℕ) → i < a + n → test i ≡ false)
    → list_any test (range_with_len a n) ≡ false
none_from test a zero none = refl
none_from test a (suc n) none = rw (none a (omega arith)) (none_from test (a + 1) n (λ i below. none i (omega arith)))

some_below : (test : ℕ → Bool) (n i : ℕ) → i < n → test i ≡ true → list_any test (range_with_len 0 n) ≡ true
some_below test n i below here =
    let at : get_or (range_with_len 0 n) i 0 ≡ i = get_or-range_with_len 0 n i 0 below ∙ zero-add i in
    list_any_at test (range_with_len 0 n) i 0 (rw (length-range_with_len 0 n) below) (rw at here)

-- what is in both sets, where there is none among those that pass
none_in : (test : ℕ → Bool) (n : ℕ) → list_any test (range_with_len 0 n) ≡ false → (i : ℕ)
    → ((nat_lt i 120 && test i) && nat_lt i n) ≡ false
none_in test n none i = elim (test i) as (λ b. test i ≡ b → ((nat_lt i 120 && b) && nat_lt i n) ≡ false) [
  | false ↦ λ e. grind arith
  | true ↦ λ e. elim (nat_lt i n) as (λ b. nat_lt i n ≡ b → ((nat_lt i 120 && true) && b) ≡ false) [
    | false ↦ λ f. grind arith
    | true ↦ λ f. let below : i < n = grind (arith, nat_tests) in cc (some_below test n i below e)
  ] refl
] refl

none_passing : (test both : ℕ → Bool) (n : ℕ) → n ≤ 120
    → ((i : ℕ) → both i ≡ ((nat_lt i 120 && test i) && nat_lt i n)) → ((i : ℕ) → both i ≡ false) → (i : ℕ) → i < n
    → test i ≡ false
none_passing test both n within shown none i below =
    let e = shown i in
    let f = none i in
    let g : nat_lt i 120 ≡ true = grind (arith, nat_tests) in
    let h : nat_lt i n ≡ true = grind (arith, nat_tests) in
    grind (arith, nat_tests)

pub below_limit : (i n : ℕ) → n ≤ 120 → nat_lt i n ≡ (nat_lt i 120 && nat_lt i n)
below_limit i n within = elim (nat_lt i n) as (λ b. nat_lt i n ≡ b → b ≡ (nat_lt i 120 && b)) [
  | false ↦ λ e. grind arith
  | true ↦ λ e. let h : nat_lt i 120 ≡ true = grind (arith, nat_tests) in rw h refl
] refl

-- below the limit once
pub limited_once : (limit a b : Bool) → ((limit && a) && (limit && b)) ≡ ((limit && a) && b)
limited_once true a b = refl
limited_once false a b = refl

-- r tells that the set of both is empty
pub is_empty_shown : (r tunnel : Bool) (test both : ℕ → Bool) (n : ℕ) → n ≤ 120 → tunnel ≡ false
    → ((i : ℕ) → both i ≡ ((nat_lt i 120 && test i) && nat_lt i n))
    → (IsTrue r ↔ (((i : ℕ) → both i ≡ false) × (tunnel ≡ false))) → r ≡ not (list_any test (range_with_len 0 n))
is_empty_shown true tunnel test both n within out shown told =
    rw (none_from test 0 n (λ i below. none_passing test both n within shown ((told.0 refl).0) i (omega arith))) refl
is_empty_shown false tunnel test both n within out shown told =
    elim (list_any test (range_with_len 0 n)) as (λ b. list_any test (range_with_len 0 n) ≡ b → false ≡ not b) [
      | true ↦ λ e. refl
      | false ↦ λ e. told.1 (λ i. rw (shown i) (none_in test n e i), out)
    ] refl
