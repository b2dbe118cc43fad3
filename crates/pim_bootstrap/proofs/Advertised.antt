-- The ranges of an advertisement one after the other.
use Rattle.std.{proofs.{Common.{◌≡◌, ℕ, zero, suc, ◌+◌, ◌-◌, ◌<◌, List, [], ◌∷◌, Result, Ok, Err, refl, sym, ap, ◌∙◌, arith}}}
use Rattle.pim_ip.{specs.{declared.refusal.Refusal.Refusal, Tests.◌>>◌}}
use Rattle.pim_bootstrap.{specs.{Advertisements.{advertised_at, advertised_test, all_advertised_at, all_advertised_test}}}

pub advertised_none : (b : List ℕ) (p : ℕ) → all_advertised_test b p 0 ≡ Ok tt
unfolding all_advertised_test
advertised_none b p = refl

-- the range at place p, and those after it
pub advertised_more : (b : List ℕ) (p n : ℕ) → 0 < n
    → all_advertised_test b p n ≡ (advertised_test b p >> all_advertised_test b (p + 8) (n - 1))
unfolding all_advertised_test
advertised_more b p zero h = absurd (omega arith)
advertised_more b p (suc n) h = let e : suc n - 1 ≡ n = omega arith in rw e refl

pub advertised_right : (b : List ℕ) (p n q m : ℕ) → 0 < n → advertised_test b p ≡ Ok tt → q ≡ p + 8 → m ≡ n - 1
    → all_advertised_test b q m ≡ all_advertised_test b p n
advertised_right b p n q m h ok eq em =
    rw (eq, em) (sym (advertised_more b p n h ∙ ap (λ (r : Result (Unit {0}) Refusal). r >> all_advertised_test b (p + 8) (n - 1)) ok))

pub advertised_wrong : (b : List ℕ) (p n : ℕ) (e : Refusal) → 0 < n → advertised_test b p ≡ Err e → all_advertised_test b p n ≡ Err e
advertised_wrong b p n e h wrong =
    advertised_more b p n h ∙ ap (λ (r : Result (Unit {0}) Refusal). r >> all_advertised_test b (p + 8) (n - 1)) wrong

pub advertised_at_none : (b : List ℕ) (p : ℕ) → all_advertised_at b p 0 ≡ []
unfolding all_advertised_at
advertised_at_none b p = refl

pub advertised_at_more : (b : List ℕ) (p n : ℕ) → 0 < n → all_advertised_at b p n ≡ advertised_at b p ∷ all_advertised_at b (p + 8) (n - 1)
unfolding all_advertised_at
advertised_at_more b p zero h = absurd (omega arith)
advertised_at_more b p (suc n) h = let e : suc n - 1 ≡ n = omega arith in rw e refl
