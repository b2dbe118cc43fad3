-- The parts of a Join/Prune that is written.
use Rattle.std.{specs.Prelude.{ℕ, List, ◌∷◌, ◌++◌}}
use Rattle.byteorder.{specs.Endian.big_bytes}
use Rattle.pim_wire.{specs.{Encoded.{unicast_text, group_text}, JoinPrunes.join_prune_holdtime}}

-- The bytes of a Join/Prune up to its joins, with 0 for the checksum.
unfoldable pub join_prune_header_text : ℕ → ℕ → ℕ → ℕ → List ℕ
join_prune_header_text upstream group joins prunes =
    0x23 ∷ 0 ∷ 0 ∷ 0 ∷ unicast_text upstream ++ 0 ∷ 1 ∷ big_bytes 2 join_prune_holdtime
    ++ group_text group ++ big_bytes 2 joins ++ big_bytes 2 prunes
