-- The options of a Hello one after the other.
use Rattle.std.{proofs.{Common.{◌≡◌, ℕ, zero, suc, ◌+◌, ◌-◌, ◌<◌, ◌≤◌, List, length, Result, Ok, Err, refl, sym, ap, ◌∙◌, arith, inl, inr}, lemmas.Bool.{cases_lt, Decides.nat_tests}}}
use Rattle.pim_ip.{specs.{declared.refusal.Refusal.Refusal, Tests.◌>>◌}}
use Rattle.pim_wire.{specs.{declared.hello.Hello.Hello, Bodies.hello_reading, Hellos.{option_length, options_test, with_option, with_options, no_options, hello_test, hello_of, option_test}}}

-- the place after the option at place p
abbrev pub after_option : List ℕ → ℕ → ℕ
after_option b p = p + 4 + option_length b p

-- the tests and the value from place p on
abbrev pub tests_from : List ℕ → ℕ → Result (Unit {0}) Refusal
tests_from b p = options_test b p (length b - p)

abbrev pub value_from : List ℕ → ℕ → Hello → Hello
value_from b p hello = with_options b p (length b - p) hello

-- nothing is tested past the end
test_past : (b : List ℕ) (p most : ℕ) → length b ≤ p → options_test b p most ≡ Ok tt
unfolding options_test
test_past b p zero h = refl
test_past b p (suc most) h = grind (arith, nat_tests)

-- one option, and then the others
test_suc : (b : List ℕ) (p most : ℕ) → p < length b
    → options_test b p (suc most) ≡ (option_test b p >> options_test b (after_option b p) most)
unfolding options_test option_test
test_suc b p most h = grind (arith, nat_tests)

-- more than the options that there are change nothing
test_more : (b : List ℕ) (p k m n : ℕ) → length b ≤ p + k → k ≤ m → k ≤ n → options_test b p m ≡ options_test b p n
test_more b p zero m n h hm hn = test_past b p m (omega arith) ∙ sym (test_past b p n (omega arith))
test_more b p (suc k) zero n h hm hn = absurd (omega arith)
test_more b p (suc k) (suc m) zero h hm hn = absurd (omega arith)
test_more b p (suc k) (suc m) (suc n) h hm hn = elim (cases_lt p (length b)) [
  | inl more ↦ test_suc b p m more ∙ ap (λ (r : Result (Unit {0}) Refusal). option_test b p >> r) (test_more b (after_option b p) k m n (omega arith) (omega arith) (omega arith)) ∙ sym (test_suc b p n more)
  | inr past ↦ test_past b p (suc m) past ∙ sym (test_past b p (suc n) past)
]

value_past : (b : List ℕ) (p most : ℕ) (hello : Hello) → length b ≤ p → with_options b p most hello ≡ hello
unfolding with_options
value_past b p zero hello h = refl
value_past b p (suc most) hello h = grind (arith, nat_tests)

value_suc : (b : List ℕ) (p most : ℕ) (hello : Hello) → p < length b
    → with_options b p (suc most) hello ≡ with_options b (after_option b p) most (with_option b p hello)
unfolding with_options
value_suc b p most hello h = grind (arith, nat_tests)

value_more : (b : List ℕ) (p k m n : ℕ) (hello : Hello) → length b ≤ p + k → k ≤ m → k ≤ n → with_options b p m hello ≡ with_options b p n hello
value_more b p zero m n hello h hm hn = value_past b p m hello (omega arith) ∙ sym (value_past b p n hello (omega arith))
value_more b p (suc k) zero n hello h hm hn = absurd (omega arith)
value_more b p (suc k) (suc m) zero hello h hm hn = absurd (omega arith)
value_more b p (suc k) (suc m) (suc n) hello h hm hn = elim (cases_lt p (length b)) [
  | inl more ↦ value_suc b p m hello more ∙ value_more b (after_option b p) k m n (with_option b p hello) (omega arith) (omega arith) (omega arith) ∙ sym (value_suc b p n hello more)
  | inr past ↦ value_past b p (suc m) hello past ∙ sym (value_past b p (suc n) hello past)
]

-- the tests of all options are those from place 4 on
pub tests_all : (b : List ℕ) → tests_from b 4 ≡ options_test b 4 (length b)
tests_all b = test_more b 4 (length b - 4) (length b - 4) (length b) (omega arith) (omega arith) (omega arith)

pub value_all : (b : List ℕ) (hello : Hello) → value_from b 4 hello ≡ with_options b 4 (length b) hello
value_all b hello = value_more b 4 (length b - 4) (length b - 4) (length b) hello (omega arith) (omega arith) (omega arith)

pub tests_end : (b : List ℕ) (p : ℕ) → length b ≤ p → tests_from b p ≡ Ok tt
tests_end b p h = test_past b p (length b - p) h

pub value_end : (b : List ℕ) (p : ℕ) (hello : Hello) → length b ≤ p → value_from b p hello ≡ hello
value_end b p hello h = value_past b p (length b - p) hello h

-- the option at place p, and those after it
pub tests_more : (b : List ℕ) (p : ℕ) → p < length b → tests_from b p ≡ (option_test b p >> tests_from b (after_option b p))
tests_more b p h =
    let n : ℕ = length b - p - 1 in
    let e : length b - p ≡ suc n = omega arith in
    ap (options_test b p) e ∙ test_suc b p n h ∙ ap (λ (r : Result (Unit {0}) Refusal). option_test b p >> r) (test_more b (after_option b p) (length b - after_option b p) n (length b - after_option b p) (omega arith) (omega arith) (omega arith))

pub value_next : (b : List ℕ) (p : ℕ) (hello : Hello) → p < length b → value_from b p hello ≡ value_from b (after_option b p) (with_option b p hello)
value_next b p hello h =
    let n : ℕ = length b - p - 1 in
    let e : length b - p ≡ suc n = omega arith in
    ap (λ (k : ℕ). with_options b p k hello) e ∙ value_suc b p n hello h ∙ value_more b (after_option b p) (length b - after_option b p) n (length b - after_option b p) (with_option b p hello) (omega arith) (omega arith) (omega arith)

-- past an option that is right
pub tests_step : (b : List ℕ) (p q : ℕ) → p < length b → option_test b p ≡ Ok tt → q ≡ after_option b p → tests_from b q ≡ tests_from b p
tests_step b p q h ok e = rw e (sym (tests_more b p h ∙ ap (λ (r : Result (Unit {0}) Refusal). r >> tests_from b (after_option b p)) ok))

pub value_step : (b : List ℕ) (p q : ℕ) (hello : Hello) → p < length b → q ≡ after_option b p
    → value_from b q (with_option b p hello) ≡ value_from b p hello
value_step b p q hello h e = rw e (sym (value_next b p hello h))

-- an option that is wrong
pub hello_wrong : (b : List ℕ) (p : ℕ) (e : Refusal) → p < length b → tests_from b p ≡ tests_from b 4 → option_test b p ≡ Err e
    → Err e ≡ hello_reading b
unfolding hello_test
hello_wrong b p e h same wrong =
    sym (ap (λ (r : Result (Unit {0}) Refusal). r >> Ok (hello_of b))
    (sym (tests_all b) ∙ sym same ∙ tests_more b p h ∙ ap (λ (r : Result (Unit {0}) Refusal). r >> tests_from b (after_option b p)) wrong))

-- all options are right
pub hello_right : (b : List ℕ) (p : ℕ) (hello : Hello) → length b ≤ p → tests_from b p ≡ tests_from b 4
    → value_from b p hello ≡ value_from b 4 no_options → Ok hello ≡ hello_reading b
unfolding hello_test hello_of
hello_right b p hello h same value =
    let test : options_test b 4 (length b) ≡ Ok tt = sym (tests_all b) ∙ sym same ∙ tests_end b p h in
    let is : hello ≡ with_options b 4 (length b) no_options = sym (value_end b p hello h) ∙ value ∙ value_all b no_options in
    rw (test, is) refl
