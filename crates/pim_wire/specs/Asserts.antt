-- Assert (RFC 7761, section 4.9.6): type 5.
use Rattle.std.{specs.Prelude.{ℕ, ◌+◌, ◌%◌, Bool, nat_le, nat_lt, if◌then◌else◌, List, ◌++◌, Result}}
use Rattle.byteorder.{specs.Endian.{big_from, big_bytes}}
use Rattle.pim_ip.{specs.{declared.refusal.Refusal.{Refusal, TheVariants.BadAddress}, Tests.{expect, ◌>>◌}, Ipv4.first_multicast, Addr.addr}}
use Rattle.pim_wire.{specs.{declared.assert.Assert.Assert, Encoded.{field_test, unicast_test, group_test, mask_length_at, address_at, unicast_at, unicast_text, group_text, pim_text}}}

-- The tests of an Assert: group, source, the R bit with the preference, the metric.
unfoldable pub assert_test : List ℕ → Result (Unit {0}) Refusal
assert_test b =
    group_test b 4
    >> unicast_test b 12
    >> expect (nat_lt (unicast_at b 12) first_multicast) BadAddress
    >> field_test b 18 4
    >> field_test b 22 4

-- The content of an Assert that passes its tests.
unfoldable pub assert_of : List ℕ → Assert
assert_of b = record {
  group = addr (address_at b 4);
  mask_length = mask_length_at b 4;
  source = addr (unicast_at b 12);
  rpt = nat_le 0x8000_0000 (big_from 18 4 b);
  preference = big_from 18 4 b % 0x8000_0000;
  metric = big_from 22 4 b;
}

-- The bytes of an Assert about a source, or, with source 0.0.0.0, about the group.
unfoldable pub assert_text : ℕ → ℕ → Bool → ℕ → ℕ → List ℕ
assert_text group source rpt preference metric =
    pim_text 5
    (group_text group ++ unicast_text source
    ++ big_bytes 4 ((if rpt then 0x8000_0000 else 0) + preference) ++ big_bytes 4 metric)
