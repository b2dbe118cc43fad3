-- What a candidate BSR beside the front asks of it (RFC 5059, section 3.1): a message that came, before its BSR is weighed, and
-- the messages that the router itself originates.
use Rattle.std.{specs.Prelude.{◌≡◌, ℕ, ◌+◌, ◌≤◌, nat_le, true, if◌then◌else◌, List, filter, map, Option, Some, None, Result, Ok, Err}}
use Rattle.pim_ip.{specs.{Addr.addr, Ipv4.{Packet, ipv4_reading}, declared.refusal.Refusal.Refusal}}
use Rattle.pim_types.{specs.declared.outcome.Emission.Emission}
use Rattle.pim_model.{specs.Tables.below}
use Rattle.pim_bootstrap.{specs.Bootstraps.{Bootstrap, bootstrap_reading}}
use Rattle.pim_bsr.{specs.{Hearing.{Around, Hearing, has_room, heard_if, is_bootstrap, passed_on, room_or, sent_on, why_checked}, Table.{Known, Table, bs_timeout, kept_count, room, with_message}, declared.heard.{Heard.Heard, Why.Why}}}

-- ---- a message that came

-- a Bootstrap with the interface on which it came, its sender and its bytes
pub record Arrival : Type 0 where
  pub iface : ℕ
  pub source : ℕ
  pub bytes : List ℕ
  pub message : Bootstrap

-- a message, if it can be read
abbrev pub arrival_read : ℕ → Packet → Result Bootstrap Refusal → Result Arrival Heard
arrival_read i p (Ok m) = Ok (record { iface = i; source = p.source; bytes = p.payload; message = m })
arrival_read i p (Err refusal) = Err (Heard.Refused refusal)

-- a packet that was read
unfoldable pub arrival_packet : ℕ → Packet → Result Arrival Heard
arrival_packet i p = if is_bootstrap p then arrival_read i p (bootstrap_reading p.payload) else Err Heard.Other

-- the packet in the bytes, if it can be read
abbrev pub arrival_reading : ℕ → Result Packet Refusal → Result Arrival Heard
arrival_reading i (Ok p) = arrival_packet i p
arrival_reading i (Err refusal) = Err Heard.Other

-- the Bootstrap that came on an interface, or what else the packet is
unfoldable pub arrival_in : ℕ → List ℕ → Result Arrival Heard
arrival_in i bytes = arrival_reading i (ipv4_reading bytes)

-- why a message isn't acceptable, whatever the weight of its BSR (3.1.3)
abbrev pub why_arrival : Around → Known → Arrival → Option Why
why_arrival s k a = why_checked s k a.iface a.source a.message None

-- a message that is to count does so where there is room for what it says
unfoldable pub arrival_taken : Around → Known → Arrival → Hearing
arrival_taken s k a = heard_if s k a.iface a.bytes a.message (room_or (has_room s k a.message) None)

-- a message is sent on as one that counts is (3.4)
unfoldable pub arrival_passed : Around → Known → Arrival → List Emission
arrival_passed s k a = map (passed_on s a.bytes) (sent_on s k a.iface a.bytes a.message)

-- ---- the router's own messages

-- What a message says is learned where there is room for it.
abbrev pub own_table : ℕ → Known → Bootstrap → Table
own_table now k m =
    if nat_le (kept_count (with_message now k.table m)) (room k) then with_message now k.table m else k.table

-- The router takes a message of its own as any other router does: it is the elected BSR, for BS_Timeout.
unfoldable pub with_own : ℕ → Known → Bootstrap → Known
with_own now k m = record k {
  elected = Some (record { bsr = addr m.bsr; priority = m.priority; end = now + bs_timeout });
  heard = true;
  table = own_table now k m;
}

-- a message of its own, if it can be read
abbrev pub own_read : ℕ → Known → Result Bootstrap Refusal → Known
own_read now k (Ok m) = with_own now k m
own_read now k (Err refusal) = k

unfoldable pub own_taken : ℕ → Known → List ℕ → Known
own_taken now k bytes = own_read now k (bootstrap_reading bytes)

-- A message for which there is room is learned by its own router as by any other that takes it.
abbrev pub OwnIsTaken : Type 0
OwnIsTaken =
    (now : ℕ) (k : Known) (b : List ℕ) (m : Bootstrap) → bootstrap_reading b ≡ Ok m
    → kept_count (with_message now k.table m) ≤ room k → (own_taken now k b).table ≡ with_message now k.table m

-- a message of its own leaves on each interface with neighbours
unfoldable pub own_sent : Around → List ℕ → List Emission
own_sent s bytes = map (passed_on s bytes) (filter s.linked (below s.count))
