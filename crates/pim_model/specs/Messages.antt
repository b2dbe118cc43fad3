-- What the machines send, as data (RFC 7761, section 4.9; RFC 3376, section 4.1). It becomes packets at the end of a
-- change.
use Rattle.std.{specs.Prelude.{List, ℕ}}
use Rattle.pim_ip.{specs.Addr.addr}
use Rattle.pim_types.{specs.declared.fact.AssertMetric.AssertMetric}
use Rattle.pim_wire.{specs.declared.join_prune.{Entry.Entry, EntryKind.EntryKind}}
use Rattle.igmp_wire.{specs.Values.Query as QueryValue}

-- a message that the router sends, before its bytes are written
pub data Message : Type 0 where
  -- a Hello on an interface
  Hello : ℕ → Message
  -- a Join/Prune on an interface: to whom, group, joins, prunes
  JoinPrune : ℕ → ℕ → ℕ → List Entry → List Entry → Message
  -- an Assert on an interface: group, source or 0, R bit, preference and metric
  Assert : ℕ → ℕ → ℕ → AssertMetric → Message
  -- a query on an interface
  Query : ℕ → QueryValue → Message
  -- a Register-Stop: from, to, group, source
  RegisterStop : ℕ → ℕ → ℕ → ℕ → Message
  -- a Null-Register: from, to, source, group
  NullRegister : ℕ → ℕ → ℕ → ℕ → Message

-- an entry of a Join/Prune: (*,G) with its RP, or (S,G) or (S,G,rpt) with its source
abbrev pub entry : EntryKind → ℕ → Entry
entry kind address = record { kind = kind; address = addr address }
