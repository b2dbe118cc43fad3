-- What a Join/Prune and a Register say.
use Rattle.std.{specs.Prelude.{ℕ, List}}
use Rattle.pim_ip.{specs.Ipv4.Packet}
use Rattle.pim_wire.{specs.declared.join_prune.Entry.Entry}

-- A group of a Join/Prune with its entries, in their order in the message.
pub record Group : Type 0 where
  pub group : ℕ
  pub joins : List Entry
  pub prunes : List Entry

-- A Join/Prune: the neighbour that it is meant for, the holdtime in seconds, the groups. Groups with another mask than
-- 32, and entries that are skipped, are left out.
pub record JoinPrune : Type 0 where
  pub upstream : ℕ
  pub holdtime : ℕ
  pub groups : List Group

-- What a Register holds: a data packet, or the source and group of a Null-Register.
pub data Register : Type 0 where
  Encapsulated : Packet → Register
  Null : ℕ → ℕ → Register
