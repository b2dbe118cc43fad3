-- The wire in memory: the packet that was sent last, until it is taken.
use Rattle.std.{specs.Prelude.{List, [], if◌then◌else◌, take, ℕ, ◌==◌}}

-- The packet that a wire in memory keeps, and its port.
pub record KeptPacket : Type 0 where
  pub port : ℕ
  pub packet : List ℕ

-- The bytes that a port returns to a buffer of the given length.
abbrev pub taken_by : KeptPacket → ℕ → ℕ → List ℕ
taken_by kept port room = if kept.port == port then take room kept.packet else []

-- The wire that keeps the last packet, after the packet for the port was taken.
abbrev pub left_by : KeptPacket → ℕ → KeptPacket
left_by kept port = if kept.port == port then record kept { packet = [] } else kept
