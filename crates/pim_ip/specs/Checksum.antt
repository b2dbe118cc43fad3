-- The Internet checksum (RFC 1071) as a function of whole numbers.
use Rattle.std.{specs.Prelude.{ℕ, zero, suc, ◌+◌, ◌*◌, ◌-◌, ◌%◌, List, [], ◌∷◌, ◌++◌}}
use Rattle.byteorder.{specs.Endian.big_bytes}

-- the sum of the 16-bit words, the highest byte first; a last byte alone is followed by a zero byte
unfoldable pub sum_of_words : List ℕ → ℕ
sum_of_words [] = 0
sum_of_words (a ∷ []) = 256 * a
sum_of_words (a ∷ b ∷ rest) = 256 * a + b + sum_of_words rest

-- a sum with its carries added in again, until it has 16 bits: the one's complement sum
unfoldable pub ones : ℕ → ℕ
ones zero = 0
ones (suc n) = n % 65535 + 1

-- the checksum that is written over these bytes, and 0 over bytes that hold their right checksum
unfoldable pub sum16 : List ℕ → ℕ
sum16 bytes = 65535 - ones (sum_of_words bytes)

-- Bytes with their checksum, whose two bytes are between these and count as 0.
unfoldable pub with_checksum : List ℕ → List ℕ → List ℕ
with_checksum before after = before ++ big_bytes 2 (sum16 (before ++ 0 ∷ 0 ∷ after)) ++ after
