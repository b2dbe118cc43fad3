-- What the tests of a Register's packet answer, in their order.
use Rattle.std.{proofs.{Common.{◌≡◌, ℕ, ◌<◌, ◌≤◌, true, false, List, length, Result, Ok, Err, refl, sym, ap, ◌∙◌, arith}, lemmas.Bool.Decides.nat_tests}}
use Rattle.pim_ip.{specs.{declared.refusal.Refusal.{Refusal, TheVariants.{BadLength, BadAddress, NotMulticast}}, Tests.◌>>◌, Ipv4.{Packet, ipv4_reading, packet_of, is_unicast, is_multicast}}}
use Rattle.pim_wire.{specs.{Registers.{source_and_group_test, inner_test}, Bodies.inner_reading}}

-- a packet that was read is the packet of its bytes
packet_is : (i : List ℕ) (p : Packet) → ipv4_reading i ≡ Ok p → p ≡ packet_of i
unfolding ipv4_reading
packet_is i p h = grind arith

module _ (i : List ℕ) where
  pub inner_long : 1500 < length i → Err BadLength ≡ inner_reading i
  unfolding inner_test
  inner_long h = grind (arith, nat_tests)

  -- within the limit the packet decides
  inner_within : length i ≤ 1500 → inner_reading i ≡ (source_and_group_test (ipv4_reading i) >> Ok (packet_of i))
  unfolding inner_test
  inner_within h = grind (arith, nat_tests)

  pub inner_unread : (e : Refusal) → length i ≤ 1500 → ipv4_reading i ≡ Err e → Err e ≡ inner_reading i
  unfolding source_and_group_test
  inner_unread e h is = sym (inner_within h ∙ ap (λ (r : Result Packet Refusal). source_and_group_test r >> Ok (packet_of i)) is)

  pub inner_source : (p : Packet) → length i ≤ 1500 → ipv4_reading i ≡ Ok p → is_unicast p.source ≡ false → Err BadAddress ≡ inner_reading i
  unfolding source_and_group_test
  inner_source p h is source =
      sym (inner_within h ∙ ap (λ (r : Result Packet Refusal). source_and_group_test r >> Ok (packet_of i)) is ∙ rw source refl)

  pub inner_group : (p : Packet) → length i ≤ 1500 → ipv4_reading i ≡ Ok p → is_unicast p.source ≡ true → is_multicast p.destination ≡ false
      → Err NotMulticast ≡ inner_reading i
  unfolding source_and_group_test
  inner_group p h is source group =
      sym (inner_within h ∙ ap (λ (r : Result Packet Refusal). source_and_group_test r >> Ok (packet_of i)) is ∙ rw (source, group) refl)

  pub inner_right : (p : Packet) → length i ≤ 1500 → ipv4_reading i ≡ Ok p → is_unicast p.source ≡ true → is_multicast p.destination ≡ true
      → Ok p ≡ inner_reading i
  unfolding source_and_group_test
  inner_right p h is source group =
      ap (λ (q : Packet). Ok q) (packet_is i p is)
      ∙ sym (inner_within h ∙ ap (λ (r : Result Packet Refusal). source_and_group_test r >> Ok (packet_of i)) is ∙ rw (source, group) refl)
