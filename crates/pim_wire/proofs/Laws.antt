-- What is written reads back as its value.
use Rattle.std.{proofs.{Common.{◌≡◌, ℕ, ◌+◌, ◌%◌, ◌^◌, ◌<◌, ◌≤◌, Bool, true, false, cond, nat_le, nat_lt, ◌||◌, List, [], ◌∷◌, ◌++◌, length, take, Result, Ok, Err, refl, sym, ◌∙◌, arith, lit≤}, lemmas.Bool.Decides.nat_tests}}
use Rattle.byteorder.{specs.{Endian.{big_from, big_bytes}, Numbers.big_number-reads_back}}
use Rattle.pim_ip.{specs.{Checksum.{sum16, with_checksum}, Ipv4.{Packet, ipv4_reading, packet_of, is_unicast, is_multicast, first_multicast, protocol_pim}, declared.refusal.Refusal.Refusal, Tests.◌>>◌, Addr.addr}, proofs.ChecksumLemmas.sum16-with_checksum}
use Rattle.pim_wire.{specs.{declared.view.PimView.TheVariants.{Register, RegisterStop, Assert}, Values.{Encapsulated, Null}, Encoded.{pim_version_of, pim_type_of, address_at, unicast_at, unicast_test, source_test, group_test, unicast_text, group_text, pim_text}, Asserts.{assert_text, assert_test, assert_of}, Hellos.{hello_text, hello_test, hello_of, option_test, options_test, is_option_length, with_options, with_option, lan_delay_at}, Registers.{register_text, inner_test, register_test, register_of, null_inner_test, dummy_text, null_register_text, register_stop_text, register_stop_test, register_stop_of}, Messages.{is_checksum_right, body_reading, pim_reading}, ReadsBack.HelloReads}, proofs.Inner.inner_right}

-- past the tests of the header
pub pim_reads : (b : List ℕ) (type : ℕ) → 8 ≤ length b → pim_version_of b ≡ 2 → pim_type_of b ≡ type → is_checksum_right b ≡ true
    → pim_reading b ≡ body_reading type b
unfolding pim_reading
pim_reads b type long version is sum = grind (arith, nat_tests)

-- a message whose checksum covers all of it
pub pim_text_right : (type : ℕ) (body : List ℕ) → is_checksum_right (pim_text type body) ≡ true
unfolding is_checksum_right pim_text
pim_text_right type body = rw (sum16-with_checksum 1 ((0x20 + type) ∷ 0 ∷ []) body refl) refl

module _ (group source : ℕ) (source_fits : source < 2 ^ 32) (group_is : is_multicast group ≡ true) where
  abbrev stop : List ℕ
  stop = register_stop_text group source

  stop-group : address_at stop 4 ≡ group
  unfolding register_stop_text pim_text with_checksum
  stop-group = big_number-reads_back 4 group [] (grind (arith, nat_tests))

  stop-source : unicast_at stop 12 ≡ source
  unfolding register_stop_text pim_text with_checksum
  stop-source = big_number-reads_back 4 source [] source_fits

  stop-test : register_stop_test stop ≡ Ok tt
  unfolding register_stop_test group_test source_test unicast_test register_stop_text pim_text with_checksum
  stop-test = rw (stop-group, group_is) refl

  pub register_stop_reads : pim_reading stop ≡ Ok (RegisterStop (record { group = addr group; mask_length = 32; source = addr source }))
  unfolding body_reading register_stop_of register_stop_text pim_text with_checksum
  register_stop_reads =
      pim_reads stop 2 (lit≤ tt) refl refl (pim_text_right 2 (group_text group ++ unicast_text source))
      ∙ rw (stop-test, stop-group, stop-source) refl

module _ (group source : ℕ) (rpt : Bool) (preference metric : ℕ) (preference_fits : preference < 2 ^ 31) (metric_fits : metric < 2 ^ 32)
    (group_is : is_multicast group ≡ true) (source_fits : source < first_multicast) where
  abbrev told : List ℕ
  told = assert_text group source rpt preference metric

  abbrev marked : ℕ
  marked = cond rpt 0x8000_0000 0 + preference

  marked_fits : marked < 2 ^ 32
  marked_fits = grind arith

  marked-rpt : nat_le 0x8000_0000 marked ≡ rpt
  marked-rpt = grind (arith, nat_tests)

  marked-preference : marked % 0x8000_0000 ≡ preference
  marked-preference = grind arith

  told-group : address_at told 4 ≡ group
  unfolding assert_text pim_text with_checksum
  told-group = big_number-reads_back 4 group [] (grind (arith, nat_tests))

  told-source : unicast_at told 12 ≡ source
  unfolding assert_text pim_text with_checksum
  told-source = big_number-reads_back 4 source [] (omega arith)

  told-marked : big_from 18 4 told ≡ marked
  unfolding assert_text pim_text with_checksum
  told-marked = big_number-reads_back 4 marked [] marked_fits

  told-metric : big_from 22 4 told ≡ metric
  unfolding assert_text pim_text with_checksum
  told-metric = big_number-reads_back 4 metric [] metric_fits

  told-test : assert_test told ≡ Ok tt
  unfolding assert_test group_test source_test unicast_test assert_text pim_text with_checksum
  told-test = let low : nat_lt source first_multicast ≡ true = grind (arith, nat_tests) in rw (told-group, group_is, told-source, low) refl

  pub assert_reads : pim_reading told
      ≡ Ok (Assert (record { group = addr group; mask_length = 32; source = addr source; rpt = rpt; preference = preference; metric = metric }))
  unfolding body_reading assert_of assert_text pim_text with_checksum
  assert_reads =
      pim_reads told 5 (lit≤ tt) refl refl (pim_text_right 5 (group_text group ++ unicast_text source ++ big_bytes 4 marked ++ big_bytes 4 metric))
      ∙ rw (told-test, told-group, told-source, told-marked, told-metric, marked-rpt, marked-preference) refl

or_true : (b : Bool) → (b || true) ≡ true
or_true true = refl
or_true false = refl

module _ (source group : ℕ) (source_is : is_unicast source ≡ true) (group_is : is_multicast group ≡ true) where
  abbrev dummy : List ℕ
  dummy = dummy_text source group

  abbrev null : List ℕ
  null = null_register_text source group

  dummy-sum : sum16 dummy ≡ 0
  unfolding dummy_text
  dummy-sum = sum16-with_checksum 5 (0x45 ∷ 0 ∷ 0 ∷ 20 ∷ 0 ∷ 0 ∷ 0 ∷ 0 ∷ 1 ∷ protocol_pim ∷ []) (big_bytes 4 source ++ big_bytes 4 group) refl

  dummy-source : big_from 12 4 dummy ≡ source
  unfolding dummy_text with_checksum
  dummy-source = big_number-reads_back 4 source [] (grind (arith, nat_tests))

  dummy-group : big_from 16 4 dummy ≡ group
  unfolding dummy_text with_checksum
  dummy-group = big_number-reads_back 4 group [] (grind (arith, nat_tests))

  null-right : is_checksum_right null ≡ true
  unfolding is_checksum_right null_register_text dummy_text with_checksum
  null-right =
      let header : sum16 (take 8 null) ≡ 0 = sum16-with_checksum 1 (0x21 ∷ 0 ∷ []) (0x40 ∷ 0 ∷ 0 ∷ 0 ∷ []) refl in
      rw header (or_true _)

  null-test : register_test null ≡ Ok tt
  unfolding register_test null_inner_test null_register_text dummy_text with_checksum
  null-test = rw (dummy-sum, or_true, dummy-source, dummy-group, source_is, group_is) refl

  pub null_register_reads : pim_reading null ≡ Ok (Register (Null source group))
  unfolding body_reading register_of null_register_text dummy_text with_checksum
  null_register_reads = pim_reads null 1 (lit≤ tt) refl refl null-right ∙ rw (null-test, dummy-source, dummy-group) refl

module _ (propagation_delay override_interval priority generation : ℕ) (delay_fits : propagation_delay < 2 ^ 15) (interval_fits : override_interval < 2 ^ 16)
    (priority_fits : priority < 2 ^ 32) (generation_fits : generation < 2 ^ 32) where
  abbrev hello : List ℕ
  hello = hello_text propagation_delay override_interval priority generation

  hello-delay : big_from 14 2 hello ≡ propagation_delay
  unfolding hello_text pim_text with_checksum
  hello-delay = big_number-reads_back 2 propagation_delay [] (omega arith)

  hello-interval : big_from 16 2 hello ≡ override_interval
  unfolding hello_text pim_text with_checksum
  hello-interval = big_number-reads_back 2 override_interval [] interval_fits

  hello-priority : big_from 22 4 hello ≡ priority
  unfolding hello_text pim_text with_checksum
  hello-priority = big_number-reads_back 4 priority [] priority_fits

  hello-generation : big_from 30 4 hello ≡ generation
  unfolding hello_text pim_text with_checksum
  hello-generation = big_number-reads_back 4 generation [] generation_fits

  hello-test : hello_test hello ≡ Ok tt
  unfolding hello_test options_test option_test is_option_length hello_text pim_text with_checksum
  hello-test = refl

  pub hello_reads : HelloReads propagation_delay override_interval priority generation
  unfolding body_reading hello_of with_options with_option lan_delay_at hello_text pim_text with_checksum
  hello_reads = λ low.
      let track : nat_le 0x8000 propagation_delay ≡ false = grind (arith, nat_tests) in
      let whole : propagation_delay % 0x8000 ≡ propagation_delay = omega arith in
      pim_reads hello 0 (lit≤ tt) refl refl (pim_text_right 0 _)
      ∙ rw (hello-test, hello-delay, hello-interval, hello-priority, hello-generation, track, whole) refl

-- the value of an accepted test, taken further
then_map : {A B : Type 0} (t : Result (Unit {0}) Refusal) (x y : A) (f : A → B) → (t >> Ok x) ≡ Ok y → (t >> Ok (f x)) ≡ Ok (f y)
then_map (Ok _) x y f h = let e : x ≡ y = cc in rw e refl
then_map (Err e) x y f h = absurd (cc)

module _ (inner : List ℕ) (p : Packet) (is : ipv4_reading inner ≡ Ok p) (short : length inner ≤ 1500)
    (source_is : is_unicast p.source ≡ true) (group_is : is_multicast p.destination ≡ true) where
  abbrev wrapped : List ℕ
  wrapped = register_text inner

  wrapped-right : is_checksum_right wrapped ≡ true
  unfolding is_checksum_right register_text with_checksum
  wrapped-right =
      let header : sum16 (take 8 wrapped) ≡ 0 = sum16-with_checksum 1 (0x21 ∷ 0 ∷ []) (0 ∷ 0 ∷ 0 ∷ 0 ∷ []) refl in
      rw header (or_true _)

  wrapped-body : (register_test wrapped >> Ok (register_of wrapped)) ≡ Ok (Encapsulated p)
  unfolding register_test register_of register_text with_checksum
  wrapped-body = then_map (inner_test inner) (packet_of inner) p Encapsulated (sym (inner_right inner p short is source_is group_is))

  long-wrapped : 8 ≤ length wrapped
  unfolding register_text with_checksum
  long-wrapped = omega arith

  pub register_reads : pim_reading wrapped ≡ Ok (Register (Encapsulated p))
  unfolding body_reading register_text with_checksum
  register_reads = pim_reads wrapped 1 long-wrapped refl refl wrapped-right ∙ then_map (register_test wrapped) (register_of wrapped) (Encapsulated p) Register wrapped-body
