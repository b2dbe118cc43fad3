-- The values of the codes rise, so that a value between two of them has the lower one's code.
use Rattle.std.{proofs.{Common.{◌≡◌, ℕ, zero, suc, ◌+◌, ◌-◌, ◌*◌, ◌/◌, ◌%◌, ◌^◌, ◌<◌, ◌≤◌, Bool, true, false, ltb, lit<, ◌&&◌, ap, refl, sym, ◌∙◌, inl, inr, arith}, lemmas.{Bool.{cases_lt, Decides.{nat_tests, Decides-below_and, Decides-ltb}}, Nat.{leading_top, le-div, div_below, pow_pos, mod_below, div-add-mod', pow-add, shl_whole}}, Math.{Nat.{pow-succ', add-mul}, Pow.pow_mono}}, specs.Int.Count.count_leading_zeros}
use Rattle.igmp_wire.{specs.Codes.{code_value, greatest_code, value_code}}

-- each of the first n codes has a lower value than the next one
abbrev rising : ℕ → Bool
rising zero = true
rising (suc n) = ltb (code_value n) (code_value (suc n)) && rising n

rising_255 : rising 255 ≡ true
unfolding code_value
rising_255 = refl

code_value-suc : (c : ℕ) → c < 255 → code_value c < code_value (suc c)
code_value-suc c h =
    (Decides-below_and (λ k. ltb (code_value k) (code_value (suc k))) (λ k. code_value k < code_value (suc k)) rising (λ k. Decides-ltb (code_value k) (code_value (suc k))) refl (λ _. refl) 255).0 rising_255 c h

-- the value of a code is above that of each lower one
pub code_value-rises : (d c : ℕ) → c < d → d < 256 → code_value c < code_value d
code_value-rises zero c h k = absurd (omega arith)
code_value-rises (suc d) c h k =
    let step = code_value-suc d (omega arith) in
    elim (cases_lt c d) [
      | inl below ↦ let before = code_value-rises d c below (omega arith) in omega arith
      | inr at ↦ let e : c ≡ d = omega arith in rw e step
    ]

-- a code whose value is within and whose successor's is above is the greatest one
greatest_code-between : (v most c : ℕ) → c ≤ most → most < 256 → code_value c ≤ v
    → (c < 255 → v < code_value (suc c)) → greatest_code v most ≡ c
unfolding greatest_code
greatest_code-between v zero c h k low high = omega arith
greatest_code-between v (suc m) c h k low high =
    elim (cases_lt c (suc m)) [
      | inl below ↦
          let next = high (omega arith) in
          let before = greatest_code-between v m c (omega arith) (omega arith) low high in
          elim (cases_lt (suc c) (suc m)) [
            | inl further ↦ let above = code_value-rises (suc m) (suc c) further k in grind (arith, nat_tests)
            | inr same ↦ let e : c ≡ m = omega arith in let above = rw e at next in grind (arith, nat_tests)
          ]
      | inr at ↦ let e : c ≡ suc m = omega arith in let within = rw e at low in grind (arith, nat_tests)
    ]

-- what a code says that is the greatest within a value
pub record IsGreatest (v c : ℕ) : Type 0 where
  pub is_code : c ≡ value_code v
  pub within : code_value c ≤ v
  pub greatest : (d : ℕ) → d < 256 → code_value d ≤ v → d ≤ c

pub greatest_between : (v c : ℕ) → c < 256 → code_value c ≤ v → (c < 255 → v < code_value (suc c)) → IsGreatest v c
unfolding value_code
greatest_between v c h low high = record {
  is_code = let e = greatest_code-between v 255 c (omega arith) (omega arith) low high in omega arith;
  within = low;
  greatest = λ d k within.
      elim (cases_lt c d) [
        | inl above ↦
            let next = high (omega arith) in
            elim (cases_lt (suc c) d) [
              | inl further ↦ let rises = code_value-rises d (suc c) further k in omega arith
              | inr same ↦ let e : d ≡ suc c = omega arith in let value = rw e at within in omega arith
            ]
        | inr at ↦ at
      ];
}

-- a number below 128 is its own code
pub code_value-low : (c : ℕ) → c < 128 → code_value c ≡ c
unfolding code_value
code_value-low c h = grind (arith, nat_tests)

-- a code above by its mantissa and exponent
pub code_value-high : (e m : ℕ) → e < 8 → m < 16 → code_value (128 + 16 * e + m) ≡ (m + 16) * 2 ^ (e + 3)
unfolding code_value
code_value-high e m he hm =
    let mantissa : (128 + 16 * e + m) % 16 ≡ m = omega arith in
    let exponent : (128 + 16 * e + m) / 16 % 8 ≡ e = omega arith in
    let high : ltb (128 + 16 * e + m) 128 ≡ false = grind (arith, nat_tests) in
    rw (high, mantissa, exponent) refl

pub greatest_low : (v : ℕ) → v < 128 → IsGreatest v v
greatest_low v h =
    let here = code_value-low v h in
    let next = code_value-suc v (omega arith) in
    greatest_between v v (omega arith) (omega arith) (λ _. omega arith)

pub greatest_high : (v : ℕ) → 31744 ≤ v → IsGreatest v 255
greatest_high v h =
    let top : code_value 255 ≡ 31744 = unfold code_value in refl in
    greatest_between v 255 (omega arith) (omega arith) (λ l. absurd (omega arith))

-- a value by the power of 2 that it reaches
pub record IsScaled (v e : ℕ) : Type 0 where
  pub fits : e < 8
  pub mantissa_low : 16 ≤ v / 2 ^ (e + 3)
  pub mantissa_high : v / 2 ^ (e + 3) < 32

pub scaled : (v : ℕ) → 128 ≤ v → v < 31744 → (count_leading_zeros 32 v ≤ 24) × IsScaled v (24 - count_leading_zeros 32 v)
scaled v low high =
    let top = leading_top 32 v (omega arith) (omega arith) in
    let j : ℕ = top.0 in
    let e : ℕ = 24 - count_leading_zeros 32 v in
    let least : 7 ≤ j = elim (cases_lt j 7) [
      | inl below ↦ let p = pow_mono {i = suc j} {j = 7} (omega arith) in absurd (omega arith)
      | inr at ↦ at
    ] in
    let most : j < 15 = elim (cases_lt j 15) [
      | inl below ↦ below
      | inr at ↦ let p = pow_mono {i = 15} {j = j} at in absurd (omega arith)
    ] in
    let place : j ≡ e + 3 + 4 = omega arith in
    let sixteen : 2 ^ j ≡ 2 ^ (e + 3) * 16 = rw place (pow-add 2 (e + 3) 4) in
    let double : 2 ^ suc j ≡ 2 * 2 ^ j = pow-succ' 2 j in
    let unit : ℕ = 2 ^ (e + 3) in (
      omega arith,
      record {
        fits = omega arith;
        mantissa_low = le-div 16 v unit (pow_pos (e + 3)) (omega arith);
        mantissa_high = div_below v unit 32 (pow_pos (e + 3)) (omega arith);
      },
    )

-- the value of the code after the one with this mantissa and exponent
code_value-next : (e m : ℕ) → e < 8 → m < 16 → 128 + 16 * e + m < 255
    → code_value (suc (128 + 16 * e + m)) ≡ (m + 17) * 2 ^ (e + 3)
code_value-next e m he hm h =
    elim (cases_lt m 15) [
      | inl inner ↦
          let same : suc (128 + 16 * e + m) ≡ 128 + 16 * e + (m + 1) = omega arith in
          let sum : m + 1 + 16 ≡ m + 17 = omega arith in
          rw same (code_value-high e (m + 1) he (omega arith) ∙ rw sum refl)
      | inr last ↦
          let same : suc (128 + 16 * e + m) ≡ 128 + 16 * (e + 1) + 0 = omega arith in
          let twice : 2 ^ (e + 1 + 3) ≡ 2 * 2 ^ (e + 3) = let p : e + 1 + 3 ≡ suc (e + 3) = omega arith in rw p (pow-succ' 2 (e + 3)) in
          let at : m ≡ 15 = omega arith in
          rw same (code_value-high (e + 1) 0 (omega arith) (omega arith) ∙ rw (twice, at) (omega arith))
    ]

pub greatest_scaled : (v e : ℕ) → IsScaled v e → IsGreatest v (128 + 16 * e + (v / 2 ^ (e + 3) - 16))
greatest_scaled v e s =
    let unit : ℕ = 2 ^ (e + 3) in
    let quotient : ℕ = v / unit in
    let whole : quotient * unit + v % unit ≡ v = div-add-mod' v unit in
    let below : v % unit < unit = mod_below v unit (pow_pos (e + 3)) in
    let more : (quotient + 1) * unit ≡ quotient * unit + 1 * unit = add-mul quotient 1 unit in
    let back : quotient - 16 + 16 ≡ quotient = omega arith in
    let on : quotient - 16 + 17 ≡ quotient + 1 = omega arith in
    let here = code_value-high e (quotient - 16) (omega arith) (omega arith) in
    let value : code_value (128 + 16 * e + (quotient - 16)) ≡ quotient * unit = here ∙ rw back refl in
    greatest_between v (128 + 16 * e + (quotient - 16)) (omega arith) (omega arith)
    (λ l. let next = code_value-next e (quotient - 16) (omega arith) (omega arith) l in
    let above : code_value (suc (128 + 16 * e + (quotient - 16))) ≡ (quotient + 1) * unit = next ∙ rw on refl in
    omega arith)

-- a code above by its bits, shifted in 32 bits
pub code_value-shifted : (c : ℕ) → 128 ≤ c → c < 256 → (c % 16 + 16) * 2 ^ (c / 16 % 8 + 3) % 2 ^ 32 ≡ code_value c
code_value-shifted c low high =
    let e : ℕ = c / 16 % 8 in
    let m : ℕ = c % 16 in
    let same : 128 + 16 * e + m ≡ c = omega arith in
    let fits : (m + 16) * 2 ^ (e + 3) % 2 ^ 32 ≡ (m + 16) * 2 ^ (e + 3) = shl_whole (m + 16) 5 (e + 3) 32 (omega arith) (omega arith) in
    fits ∙ (rw same at (sym (code_value-high e m (omega arith) (omega arith))))

code_value-greatest : code_value 255 ≡ 31744
unfolding code_value
code_value-greatest = refl

pub code_value-within : (c : ℕ) → c < 256 → code_value c ≤ 31744
code_value-within c fits = go (ltb c 255) refl
  where
    go : (b : Bool) → ltb c 255 ≡ b → code_value c ≤ 31744
    go true e =
        let less : c < 255 = grind (arith, nat_tests, e) in
        let below : code_value c < code_value 255 = code_value-rises 255 c less (lit< tt) in
        let greatest : code_value 255 ≡ 31744 = code_value-greatest in
        omega (arith, below, greatest)
    go false e =
        let last : c ≡ 255 = grind (arith, nat_tests, e, fits) in
        let same : code_value c ≡ code_value 255 = ap code_value last in
        let greatest : code_value 255 ≡ 31744 = code_value-greatest in
        omega (arith, same, greatest)
