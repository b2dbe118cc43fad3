-- An advertisement that is written reads back as its value, and what is read passed its tests.
use Rattle.std.{proofs.{Common.{◌≡◌, ℕ, zero, suc, ◌+◌, ◌^◌, ◌<◌, ◌≤◌, Bool, true, false, nat_le, ◌&&◌, ◌==◌, IsTrue, List, [], ◌∷◌, ◌++◌, length, drop, get_or, Result, Ok, refl, sym, ap, subst, ◌∙◌, arith, lit≤}, lemmas.{Bool.Decides.nat_tests, List.{get_or-drop, length-drop, drop-drop, Elements.{All-cons, All-head, All-nil, All-tail}}}}, specs.List.{All, flat_map}}
use Rattle.byteorder.{specs.{Endian.{big_from}, Numbers.big_number-reads_back}}
use Rattle.pim_ip.{specs.{Checksum.with_checksum, Ipv4.{is_unicast}, declared.{refusal.Refusal.Refusal}}}
use Rattle.pim_wire.{specs.Encoded.{address_at, field_test, group_test, is_native_ipv4, mask_length_at, pim_text, source_test, unicast_at, unicast_test}}
use Rattle.pim_bootstrap.{specs.{declared.advertisement.AdvertisedRange.AdvertisedRange, Advertisements.{Advertisement, AdvertisementIsTested, AdvertisementReads, IsAdvertised, IsTestedAdvertisement, advertised_at, advertised_test, advertised_text, advertisement_of, advertisement_reading, advertisement_test, advertisement_text, all_advertised_at, all_advertised_test, all_before, all_groups, prefix_count_of, ranges_or_all}}, proofs.{ReadsBack.{big_from-drop, field_right, flags_bidir, flags_zone}, Tested.{and_first, and_second, group_multicast, passed, value_is}, Walks.{then_first, then_next}}}

-- ---- a range before others

module _ (b : List ℕ) (p : ℕ) (r : AdvertisedRange) (rest : List ℕ) (is : IsAdvertised r)
    (stands : drop p b ≡ advertised_text r ++ rest) where
  byte : (i j : ℕ) → j ≡ p + i → get_or b j 0 ≡ get_or (advertised_text r ++ rest) i 0
  byte i j same = ap (λ (k : ℕ). get_or b k 0) same ∙ sym (get_or-drop p b i 0) ∙ ap (λ (xs : List ℕ). get_or xs i 0) stands

  long : p + 8 ≤ length b
  long = omega (arith, ap length stands, length-drop p b)

  group : address_at b p ≡ r.group.bits
  group =
      big_from-drop 4 p 4 (p + 4) b refl
      ∙ ap (big_from 4 4) stands
      ∙ big_number-reads_back 4 r.group.bits rest (grind (arith, nat_tests, is.group))

  masked : (nat_le 4 r.length && nat_le r.length 32) ≡ true
  masked = grind (arith, nat_tests, is.shortest, is.longest)

  pub one_advertised : advertised_test b p ≡ Ok tt
  unfolding advertised_test group_test source_test
  one_advertised =
      rw (field_right b p 8 long, byte 0 p (omega arith), byte 1 (p + 1) refl, group, is.group, byte 3 (p + 3) refl, masked) refl

  pub advertised_is : advertised_at b p ≡ r
  advertised_is = rw (group, byte 3 (p + 3) refl, byte 2 (p + 2) refl, flags_bidir r.bidir r.zone, flags_zone r.bidir r.zone) refl

  pub behind : drop (p + 8) b ≡ rest
  behind = sym (drop-drop 8 p b) ∙ ap (drop 8) stands

all_read : (rs : List AdvertisedRange) (b : List ℕ) (p : ℕ) → drop p b ≡ flat_map advertised_text rs → All IsAdvertised rs
    → all_advertised_test b p (length rs) ≡ Ok tt
unfolding all_advertised_test
all_read [] b p stands each = refl
all_read (r ∷ rs) b p stands each =
    let is = All-head IsAdvertised r rs each in
    rw (one_advertised b p r (flat_map advertised_text rs) is stands)
    (all_read rs b (p + 8) (behind b p r (flat_map advertised_text rs) is stands) (All-tail IsAdvertised r rs each))

all_are : (rs : List AdvertisedRange) (b : List ℕ) (p : ℕ) → drop p b ≡ flat_map advertised_text rs → All IsAdvertised rs
    → all_advertised_at b p (length rs) ≡ rs
unfolding all_advertised_at
all_are [] b p stands each = refl
all_are (r ∷ rs) b p stands each =
    let is = All-head IsAdvertised r rs each in
    let here = advertised_is b p r (flat_map advertised_text rs) is stands in
    let later = all_are rs b (p + 8) (behind b p r (flat_map advertised_text rs) is stands) (All-tail IsAdvertised r rs each) in
    rw (here, later) refl

-- ---- the whole message

some_left : (n : ℕ) → (suc n == 0) ≡ false
some_left n = grind (arith, nat_tests)

named : (rs : List AdvertisedRange) → 0 < length rs → ranges_or_all (length rs) rs ≡ rs
named [] some = absurd (omega arith)
named (r ∷ rs) some = ap (λ (b : Bool). all_before b (r ∷ rs)) (some_left (length rs))

module _ (a : Advertisement) (priority_fits : a.priority < 2 ^ 8) (holdtime_fits : a.holdtime < 2 ^ 16)
    (rp_is : IsTrue (is_unicast a.rp)) (each : All IsAdvertised a.ranges) (some : 0 < length a.ranges) where
  abbrev text : List ℕ
  text = advertisement_text a

  drop-text : drop 14 text ≡ flat_map advertised_text a.ranges
  unfolding advertisement_text pim_text with_checksum
  drop-text = refl

  length-text : length text ≡ 14 + length (flat_map advertised_text a.ranges)
  unfolding advertisement_text pim_text with_checksum
  length-text = omega arith

  text-count : prefix_count_of text ≡ length a.ranges
  unfolding advertisement_text pim_text with_checksum
  text-count = refl

  text-priority : get_or text 5 0 ≡ a.priority
  unfolding advertisement_text pim_text with_checksum
  text-priority = refl

  text-holdtime : big_from 6 2 text ≡ a.holdtime
  unfolding advertisement_text pim_text with_checksum
  text-holdtime = big_number-reads_back 2 a.holdtime [] holdtime_fits

  text-rp : unicast_at text 8 ≡ a.rp
  unfolding advertisement_text pim_text with_checksum
  text-rp = big_number-reads_back 4 a.rp [] (grind (arith, nat_tests, rp_is))

  text-native : is_native_ipv4 text 8 ≡ true
  unfolding advertisement_text pim_text with_checksum
  text-native = refl

  ranges-test : all_advertised_test text 14 (length a.ranges) ≡ Ok tt
  ranges-test = all_read a.ranges text 14 drop-text each

  ranges-are : all_advertised_at text 14 (length a.ranges) ≡ a.ranges
  ranges-are = all_are a.ranges text 14 drop-text each

  test : advertisement_test text ≡ Ok tt
  unfolding advertisement_test unicast_test
  test =
      rw (field_right text 4 4 (omega (arith, length-text)), field_right text 8 6 (omega (arith, length-text)), text-native, text-rp, rp_is, text-count, ranges-test) refl

  value : advertisement_of text ≡ a
  unfolding advertisement_of
  value = rw (text-priority, text-holdtime, text-rp, text-count, ranges-are, named a.ranges some) refl

  pub reads : advertisement_reading text ≡ Ok a
  reads = rw (test, value) refl

pub advertisement_reads : AdvertisementReads
advertisement_reads = λ a priority_fits holdtime_fits rp_is each some few. reads a priority_fits holdtime_fits rp_is each some

-- ---- what is known of one that was read

range_tested : (b : List ℕ) (p : ℕ) → advertised_test b p ≡ Ok tt → IsAdvertised (advertised_at b p)
unfolding advertised_test
range_tested b p e =
    let bounds : (nat_le 4 (mask_length_at b p) && nat_le (mask_length_at b p) 32) ≡ true = passed _ _ (then_next (group_test b p) _ tt e) in
    let low : nat_le 4 (mask_length_at b p) ≡ true = and_first _ (nat_le (mask_length_at b p) 32) bounds in
    let high : nat_le (mask_length_at b p) 32 ≡ true = and_second (nat_le 4 (mask_length_at b p)) _ bounds in
    record {
      group = group_multicast b p (then_first (group_test b p) _ tt e);
      shortest = grind (arith, nat_tests, low);
      longest = grind (arith, nat_tests, high);
    }

all_tested : (b : List ℕ) (p n : ℕ) → all_advertised_test b p n ≡ Ok tt → All IsAdvertised (all_advertised_at b p n)
unfolding all_advertised_test all_advertised_at
all_tested b p zero e = All-nil IsAdvertised
all_tested b p (suc n) e =
    let later : Result (Unit {0}) Refusal = all_advertised_test b (p + 8) n in
    All-cons IsAdvertised (advertised_at b p) (all_advertised_at b (p + 8) n)
    (range_tested b p (then_first (advertised_test b p) later tt e))
    (all_tested b (p + 8) n (then_next (advertised_test b p) later tt e))

all_groups_is : IsAdvertised all_groups
all_groups_is = record { group = refl; shortest = lit≤ tt; longest = lit≤ tt }

record AreNamed (rs : List AdvertisedRange) : Type 0 where
  ranges : All IsAdvertised rs
  some : 0 < length rs

or_all : (b : List ℕ) (n : ℕ) → All IsAdvertised (all_advertised_at b 14 n) → AreNamed (ranges_or_all n (all_advertised_at b 14 n))
unfolding all_advertised_at
or_all b zero each = record { ranges = All-cons IsAdvertised all_groups [] all_groups_is each; some = omega arith }
or_all b (suc n) each =
    subst (λ (none : Bool). AreNamed (all_before none (all_advertised_at b 14 (suc n)))) (sym (some_left n))
    (record { ranges = each; some = omega arith })

tests_of : (b : List ℕ) → advertisement_test b ≡ Ok tt → IsTestedAdvertisement (advertisement_of b)
unfolding advertisement_test advertisement_of
tests_of b e =
    let ranges : Result (Unit {0}) Refusal = all_advertised_test b 14 (prefix_count_of b) in
    let first = then_next (field_test b 4 4) _ tt e in
    let second = then_next (unicast_test b 8) _ tt first in
    let named = or_all b (prefix_count_of b) (all_tested b 14 (prefix_count_of b) (then_next _ ranges tt second)) in
    record { rp = passed (is_unicast (unicast_at b 8)) _ (then_first _ ranges tt second); ranges = named.ranges; some = named.some }

pub advertisement_is_tested : AdvertisementIsTested
advertisement_is_tested b a e =
    subst (λ (x : Advertisement). IsTestedAdvertisement x) (value_is (advertisement_test b) (advertisement_of b) a e)
    (tests_of b (then_first (advertisement_test b) _ a e))
