-- Bytes read from hexadecimal digits, two by two.
use Rattle.std.{proofs.Common.{◌≡◌, ℕ, ◌+◌, ◌*◌, ◌≤◌, List, [], ◌∷◌, ◌++◌, length, get_or, take, drop, arith, refl, sym, ap, ◌∙◌, append_assoc, Option, Some, None, option_map}}
use Rattle.pim_scenario.{specs.Texts.{hex_of, digit_of, pair_before}}

hex_pair : (s : List ℕ) → 2 ≤ length s → hex_of s
    ≡ pair_before (digit_of (get_or (take 2 s) 0 0)) (digit_of (get_or (take 2 s) 1 0)) (hex_of (drop 2 s))
hex_pair [] two = absurd (omega arith)
hex_pair (a ∷ []) two = absurd (omega arith)
hex_pair (a ∷ b ∷ rest) two = refl

joined : (bytes : List ℕ) (b : ℕ) (o : Option (List ℕ))
    → option_map (λ more. (bytes ++ b ∷ []) ++ more) o
    ≡ option_map (λ more. bytes ++ more) (option_map (λ more. b ∷ more) o)
joined bytes b None = refl
joined bytes b (Some more) = ap (λ (xs : List ℕ). Some xs) (append_assoc bytes (b ∷ []) more)

-- one pair more
pub hex_kept : (s pair rest bytes new : List ℕ) (high low : ℕ) (whole : Option (List ℕ))
    → 2 ≤ length s → pair ≡ take 2 s → rest ≡ drop 2 s
    → Some high ≡ digit_of (get_or pair 0 0) → Some low ≡ digit_of (get_or pair 1 0)
    → new ≡ bytes ++ (high * 16 + low) ∷ []
    → option_map (λ more. bytes ++ more) (hex_of s) ≡ whole
    → option_map (λ more. new ++ more) (hex_of rest) ≡ whole
hex_kept s pair rest bytes new high low whole two front tail first second put before =
    let high_is : digit_of (get_or (take 2 s) 0 0) ≡ Some high = rw (← front) (sym first) in
    let low_is : digit_of (get_or (take 2 s) 1 0) ≡ Some low = rw (← front) (sym second) in
    let read : hex_of s ≡ option_map (λ more. (high * 16 + low) ∷ more) (hex_of (drop 2 s)) =
    hex_pair s two ∙ rw (high_is, low_is) refl in
    rw (put, tail) (joined bytes (high * 16 + low) (hex_of (drop 2 s))
    ∙ ap (λ (o : Option (List ℕ)). option_map (λ more. bytes ++ more) o) (sym read) ∙ before)
