-- Packets of another protocol pass.
use Rattle.std.{proofs.{Common.{◌≡◌, ◌≢◌, ℕ, ◌≤◌, ◌==◌, false, List, length, get_or, Result, Ok, Err, refl, sym, subst, arith}, lemmas.Bool.Decides.nat_tests}}
use Rattle.pim_ip.{specs.{Ipv4.{Packet, ipv4_reading, packet_of, protocol_pim}, declared.refusal.Refusal.Refusal}}
use Rattle.law_settled.{proofs.ReadPackets.{packet_is, passed}}
use Rattle.pim_guard.{specs.Guard.{is_frame_stopped, is_link_reading_stopped}}

of_packet : (b : List ℕ) (r : Result Packet Refusal) → ipv4_reading b ≡ r → (get_or b 9 0 == protocol_pim) ≡ false
    → is_link_reading_stopped r ≡ false
unfolding packet_of
of_packet b (Ok p) is other =
    let same : p ≡ packet_of b = packet_is b p is in
    let protocol : (p.protocol == protocol_pim) ≡ false = subst (λ (q : Packet). (q.protocol == protocol_pim) ≡ false) (sym same) other in
    rw protocol refl
of_packet b (Err refusal) is other = refl

pub no_frame_of_another : (b : List ℕ) → get_or b 9 0 ≢ 103 → is_frame_stopped b ≡ false
unfolding is_frame_stopped
no_frame_of_another b other =
    let test : (get_or b 9 0 == protocol_pim) ≡ false = grind (arith, nat_tests, other) in
    of_packet b (ipv4_reading b) refl test

of_short : (b : List ℕ) (r : Result Packet Refusal) → ipv4_reading b ≡ r → length b ≤ 9 → is_link_reading_stopped r ≡ false
of_short b (Ok p) is short = let long = (passed b p is).measured in absurd (omega (arith, long.long_enough))
of_short b (Err refusal) is short = refl

pub no_short_frame : (b : List ℕ) → length b ≤ 9 → is_frame_stopped b ≡ false
unfolding is_frame_stopped
no_short_frame b short = of_short b (ipv4_reading b) refl short

pub ruleset no_pim = (no_frame_of_another, no_short_frame)
