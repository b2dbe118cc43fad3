-- What a packet that was read has passed.
use Rattle.std.{proofs.{Common.{◌≡◌, ℕ, ◌≤◌, nat_le, Bool, true, List, take, Result, Ok, arith, eqb-true}, lemmas.Bool.Decides.nat_tests}}
use Rattle.pim_ip.{specs.{Checksum.sum16, Ipv4.{Packet, fragment_of, header_length_of, ipv4_reading, is_source, packet_of, protocol_of, source_address_of}, Tests.{expect, ◌>>◌}, declared.refusal.Refusal.Refusal}, proofs.ReadingLemmas.IsMeasured}

-- a test that was passed, and what followed
held : (b : Bool) (refusal : Refusal) (next : Result Packet Refusal) (p : Packet) → (expect b refusal >> next) ≡ Ok p
    → (b ≡ true) × (next ≡ Ok p)
held b refusal next p e = grind arith

pub record Passed (b : List ℕ) : Type 0 where
  pub measured : IsMeasured b
  pub checksum : sum16 (take (header_length_of b) b) ≡ 0
  pub unfragmented : fragment_of b ≡ 0
  pub source : is_source (protocol_of b) (source_address_of b) ≡ true

le : (a b : ℕ) → nat_le a b ≡ true → a ≤ b
le a b e = grind (arith, nat_tests, e)

pub passed : (b : List ℕ) (p : Packet) → ipv4_reading b ≡ Ok p → Passed b
unfolding ipv4_reading
passed b p e = grind (arith, held, le, eqb-true)

-- it is the packet of its bytes
pub packet_is : (b : List ℕ) (p : Packet) → ipv4_reading b ≡ Ok p → p ≡ packet_of b
unfolding ipv4_reading
packet_is b p e = grind arith
