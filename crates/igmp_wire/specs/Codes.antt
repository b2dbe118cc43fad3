-- The codes of Max Resp Code and QQIC (RFC 3376, sections 4.1.1 and 4.1.7).
use Rattle.std.{specs.Prelude.{ℕ, zero, suc, ◌+◌, ◌*◌, ◌/◌, ◌%◌, ◌^◌, true, false, if◌then◌else◌, nat_lt, nat_le}}

-- The value of a code: below 128 the number itself, else a mantissa of 4 bits and an exponent of 3.
unfoldable pub code_value : ℕ → ℕ
code_value c = if nat_lt c 128 then c else (c % 16 + 16) * 2 ^ (c / 16 % 8 + 3)

-- The greatest code up to `most` whose value is at most v.
unfoldable pub greatest_code : ℕ → ℕ → ℕ
greatest_code v zero = zero
greatest_code v (suc most) =
    let lower : ℕ = greatest_code v most in
    elim (nat_le (code_value (suc most)) v) [ true ↦ suc most | false ↦ lower ]

-- The greatest code whose value is at most v.
unfoldable pub value_code : ℕ → ℕ
value_code v = greatest_code v 255
