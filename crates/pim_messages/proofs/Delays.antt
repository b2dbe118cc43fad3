-- A Hello has room for 16 bits of a delay.
use Rattle.std.{proofs.Common.{◌≡◌, ℕ, ◌/◌, ◌%◌, List, [], ◌∷◌, ◌++◌, ap, ◌∙◌, arith}, specs.Int.bytes_high_first}
use Rattle.pim_wire.{specs.{Encoded.pim_text, Hellos.{generation_option, hello_holdtime, hello_text, holdtime_option, lan_delay_option, option_text, priority_option}}}

-- the higher and the lower of the 16 bits
high_bits : (n : ℕ) → n % 65536 / 256 % 256 ≡ n / 256 % 256
high_bits n = omega arith

low_bits : (n : ℕ) → n % 65536 % 256 ≡ n % 256
low_bits n = omega arith

pub hello_text_low_bits : (propagation_delay override_interval priority generation : ℕ)
    → hello_text (propagation_delay % 65536) (override_interval % 65536) priority generation
    ≡ hello_text propagation_delay override_interval priority generation
unfolding hello_text
hello_text_low_bits propagation_delay override_interval priority generation =
    let text : ℕ → ℕ → ℕ → ℕ → List ℕ = λ a b c d. pim_text 0
    (option_text holdtime_option (bytes_high_first 2 hello_holdtime)
    ++ option_text lan_delay_option (a ∷ b ∷ c ∷ d ∷ [])
    ++ option_text priority_option (bytes_high_first 4 priority)
    ++ option_text generation_option (bytes_high_first 4 generation)) in
    let high : ℕ = override_interval % 65536 / 256 % 256 in
    let low : ℕ = override_interval % 65536 % 256 in
    ap (λ a. text a (propagation_delay % 65536 % 256) high low) (high_bits propagation_delay)
    ∙ ap (λ b. text (propagation_delay / 256 % 256) b high low) (low_bits propagation_delay)
    ∙ ap (λ c. text (propagation_delay / 256 % 256) (propagation_delay % 256) c low) (high_bits override_interval)
    ∙ ap (λ d. text (propagation_delay / 256 % 256) (propagation_delay % 256) (override_interval / 256 % 256) d)
    (low_bits override_interval)
