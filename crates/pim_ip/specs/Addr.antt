-- An IPv4 address, and what it prints.
use Rattle.std.{specs.{Prelude.{ℕ, List, ◌++◌, codes, decimal}, Int.byte_at}}
use Rattle.pim_ip.{specs.declared.addr.Addr.Addr}

-- the address of these bits
abbrev pub addr : ℕ → Addr
addr bits = record { bits = bits }

-- four decimal numbers with dots between them, of the highest byte first
abbrev pub dotted_text : ℕ → List ℕ
dotted_text address =
    decimal (byte_at 3 address) ++ codes "." ++ decimal (byte_at 2 address) ++ codes "."
    ++ decimal (byte_at 1 address) ++ codes "." ++ decimal (byte_at 0 address)
