-- How long the Register of an SA is.
use Rattle.std.proofs.{Common.{◌≡◌, ◌&&◌, ℕ, ◌+◌, ◌≤◌, nat_le, Bool, true, false, cond, List, length, refl, arith}, lemmas.Bool.Decides.nat_tests}
use Rattle.pim_ip.specs.{Checksum.with_checksum, Ipv4.{frame_limit, ipv4_reading}}
use Rattle.pim_wire.{specs.Registers.{null_register_text, register_text}}
use Rattle.pim_anycast.{proofs.NullLength.null_long}
use Rattle.pim_msdp.{specs.Actives.{active_message, is_from_to, is_packet_of}}

register_long : (inner : List ℕ) → length (register_text inner) ≡ 8 + length inner
unfolding register_text with_checksum
register_long inner = omega arith

pub packet_short : (g src : ℕ) (bytes : List ℕ) → is_packet_of g src bytes ≡ true → length bytes ≤ 1500
unfolding is_packet_of
packet_short g src bytes e = go (nat_le (length bytes) frame_limit) (is_from_to g src (ipv4_reading bytes)) refl e
  where
    go : (b c : Bool) → nat_le (length bytes) frame_limit ≡ b → (b && c) ≡ true → length bytes ≤ 1500
    go true c is e = grind (arith, nat_tests, is)
    go false c is e = cc e

pub message_short : (g src : ℕ) (bytes : List ℕ) → length (active_message g src bytes) ≤ 1508
unfolding active_message
message_short g src bytes = go (is_packet_of g src bytes) refl
  where
    go : (b : Bool) → is_packet_of g src bytes ≡ b → length (cond b (register_text bytes) (null_register_text src g)) ≤ 1508
    go true is =
        let long = register_long bytes in
        let short = packet_short g src bytes is in
        omega (arith, long, short)
    go false is =
        let long = null_long src g in
        omega (arith, long)
