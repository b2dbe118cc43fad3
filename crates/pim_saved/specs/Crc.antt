-- CRC-32 (RFC 1952, section 8): a register of 32 bits takes each byte from its lowest bit on.
use Rattle.std.{specs.Prelude.{List, [], bit_xor, if◌then◌else◌, ℕ, ◌%◌, ◌/◌, ◌==◌, ◌∷◌}}

-- the register of the checksum after one bit left it
unfoldable pub shifted : ℕ → ℕ
shifted c = if c % 2 == 0 then c / 2 else bit_xor 0xEDB88320 (c / 2)

-- the register of the checksum after eight bits left it
unfoldable pub entry : ℕ → ℕ
entry c = shifted (shifted (shifted (shifted (shifted (shifted (shifted (shifted c)))))))

-- the register of the checksum after one more byte
unfoldable pub with_byte : ℕ → ℕ → ℕ
with_byte c byte = bit_xor (entry (bit_xor c byte % 256)) (c / 256)

-- the register of the checksum after more bytes
abbrev pub after_bytes : ℕ → List ℕ → ℕ
after_bytes c [] = c
after_bytes c (byte ∷ bytes) = after_bytes (with_byte c byte) bytes

-- the register of the checksum before the first byte
abbrev pub begun : ℕ
begun = 0xFFFFFFFF

-- the checksum that a register holds
abbrev pub ended : ℕ → ℕ
ended c = bit_xor c 0xFFFFFFFF

-- CRC-32 of bytes
abbrev pub crc32 : List ℕ → ℕ
crc32 bytes = ended (after_bytes begun bytes)
