-- The records from a place on, one by one.
use Rattle.std.{proofs.{Common.{◌≡◌, ℕ, zero, suc, ◌+◌, ◌-◌, ◌<◌, ◌≤◌, Bool, true, false, ◌||◌, nat_le, is_none, List, [], ◌++◌, length, Result, Ok, Err, refl, ap, ◌∙◌, arith}, lemmas.Bool.Decides.nat_tests}}
use Rattle.pim_ip.{specs.{declared.refusal.Refusal.{Refusal, TheVariants.{Short, NotMulticast}}, Ipv4.is_multicast, Tests.{expect, ◌>>◌}}}
use Rattle.igmp_wire.{specs.{Reports.{record_type_at, record_group_at, after_record, record_at, records_at, records_test, record_count_of, report_test, report_of}, Parts.{record_reading, report_reading}}}

pub records_at-none : (b : List ℕ) (p n : ℕ) → n ≡ 0 → records_at b p n ≡ []
unfolding records_at
records_at-none b p zero e = refl
records_at-none b p (suc n) e = absurd (omega arith)

pub records_at-more : (b : List ℕ) (p n : ℕ) → 0 < n → records_at b p n ≡ record_at b p ++ records_at b (after_record b p) (n - 1)
unfolding records_at
records_at-more b p zero h = absurd (omega arith)
records_at-more b p (suc n) h = let e : suc n - 1 ≡ n = omega arith in rw e refl

-- three tests that were passed, with what follows them
passed : {X : Type 0} (first second third : Bool) (a b c : Refusal) (x y : X) (later : Result (Unit {0}) Refusal)
    → (expect first a >> expect second b >> expect third c >> Ok x) ≡ Ok y
    → (first ≡ true) × (third ≡ true) × (x ≡ y) × ((expect first a >> expect second b >> expect third c >> later) ≡ later)
passed true true true a b c x y later e = (refl, refl, cc, refl)
passed true true false a b c x y later e = absurd cc
passed true false third a b c x y later e = absurd cc
passed false second third a b c x y later e = absurd cc

-- three tests that were passed, of which the last answers for what follows
held : (first second third : Bool) (a b c : Refusal) (later : Result (Unit {0}) Refusal)
    → (expect first a >> expect second b >> expect third c >> later) ≡ Ok tt → (first ≡ true) × (third ≡ true) × (later ≡ Ok tt)
held true true true a b c later e = (refl, refl, e)
held true true false a b c later e = absurd cc
held true false third a b c later e = absurd cc
held false second third a b c later e = absurd cc

-- one of three tests that failed
refused : {X : Type 0} (first second third : Bool) (a b c r : Refusal) (x : X) (later : Result (Unit {0}) Refusal)
    → (expect first a >> expect second b >> expect third c >> Ok x) ≡ Err r
    → (expect first a >> expect second b >> expect third c >> later) ≡ Err r
refused true true true a b c r x later e = absurd cc
refused true true false a b c r x later e = cc
refused true false third a b c r x later e = cc
refused false second third a b c r x later e = cc

-- the first record is whole, and the others pass their tests
pub records_test-passes : (b : List ℕ) (p n : ℕ) → 0 < n → records_test b p n ≡ Ok tt
    → (records_test b p n ≡ Ok tt) × (p + 8 ≤ length b) × (after_record b p ≤ length b) × (records_test b (after_record b p) (n - 1) ≡ Ok tt)
unfolding records_test
records_test-passes b p zero h e = absurd (omega arith)
records_test-passes b p (suc n) h e =
    let tests = held (nat_le (p + 8) (length b)) (is_none (record_type_at b p) || is_multicast (record_group_at b p)) (nat_le (after_record b p) (length b)) Short NotMulticast Short (records_test b (after_record b p) n) e in
    let one : suc n - 1 ≡ n = omega arith in
    let fixed : nat_le (p + 8) (length b) ≡ true = tests.0 in
    let whole : nat_le (after_record b p) (length b) ≡ true = tests.1 in
    (e, grind (arith, nat_tests), grind (arith, nat_tests), rw one tests.2)

pub records_test-none : (b : List ℕ) (p n : ℕ) → n ≡ 0 → records_test b p n ≡ Ok tt
unfolding records_test
records_test-none b p zero e = refl
records_test-none b p (suc n) e = absurd (omega arith)

-- a record that was read and the others
pub record ReadsOn (b : List ℕ) (p n end : ℕ) : Type 0 where
  pub within : end ≤ length b
  pub others : records_test b p n ≡ records_test b end (n - 1)

pub records_test-more : (b : List ℕ) (p n end : ℕ) → 0 < n → record_reading b p ≡ Ok end → ReadsOn b p n end
unfolding records_test record_reading
records_test-more b p zero end h e = absurd (omega arith)
records_test-more b p (suc n) end h e =
    let tests = passed (nat_le (p + 8) (length b)) (is_none (record_type_at b p) || is_multicast (record_group_at b p)) (nat_le (after_record b p) (length b)) Short NotMulticast Short (after_record b p) end (records_test b (after_record b p) n) e in
    let one : suc n - 1 ≡ n = omega arith in
    let whole : nat_le (after_record b p) (length b) ≡ true = tests.1 in
    let inside : after_record b p ≤ length b = grind (arith, nat_tests) in
    record {
      within = rw (tests.2) at inside;
      others = rw one (tests.3 ∙ ap (λ (q : ℕ). records_test b q n) tests.2);
    }

pub records_test-refused : (b : List ℕ) (p n : ℕ) (r : Refusal) → 0 < n → record_reading b p ≡ Err r → records_test b p n ≡ Err r
unfolding records_test record_reading
records_test-refused b p zero r h e = absurd (omega arith)
records_test-refused b p (suc n) r h e =
    refused (nat_le (p + 8) (length b)) (is_none (record_type_at b p) || is_multicast (record_group_at b p)) (nat_le (after_record b p) (length b)) Short NotMulticast Short r (after_record b p) (records_test b (after_record b p) n) e

-- taking one from the records that are left
pub ruleset records_taken = (records_at-none, records_at-more, records_test-passes)

-- the reading of a report by the tests of its records
pub report_passed : (b : List ℕ) (n : ℕ) → n ≡ record_count_of b → records_test b 8 n ≡ Ok tt → (report_test b ≡ Ok tt) × (report_reading b ≡ Ok (report_of b))
unfolding report_test report_reading
report_passed b n e h = let all : records_test b 8 (record_count_of b) ≡ Ok tt = rw (← e) h in (all, rw all refl)

pub report_refused : (b : List ℕ) (n : ℕ) (r : Refusal) → n ≡ record_count_of b → records_test b 8 n ≡ Err r → report_reading b ≡ Err r
unfolding report_test report_reading
report_refused b n r e h = let all : records_test b 8 (record_count_of b) ≡ Err r = rw (← e) h in rw all refl
