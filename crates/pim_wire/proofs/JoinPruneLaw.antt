-- A Join/Prune that is written reads back as its value.
use Rattle.std.{proofs.{Common.{◌≡◌, ℕ, ◌+◌, ◌*◌, ◌^◌, ◌<◌, ◌≤◌, true, IsTrue, List, [], ◌∷◌, ◌++◌, length, drop, Ok, refl, sym, ap, ◌∙◌, arith, append-nil}, lemmas.{Bool.Decides.nat_tests, Grind.flat_map-append, List.{length-append, drop-drop, drop_at}}}, specs.List.{All, flat_map}}
use Rattle.byteorder.{specs.{Endian.big_from, Numbers.big_number-reads_back}}
use Rattle.pim_ip.{specs.{Checksum.with_checksum, Ipv4.{is_unicast, is_multicast}}}
use Rattle.pim_wire.{specs.{declared.{join_prune.Entry.Entry, view.PimView.TheVariants.JoinPrune}, Encoded.{address_at, mask_length_at, unicast_at, pim_version_of, pim_type_of, is_native_ipv4, field_test, unicast_test, source_test, group_test, pim_text}, JoinPrunes.{join_count_at, prune_count_at, entries_at, entry_text, join_prune_text, join_prune_holdtime, join_prune_test, join_prune_of, sources_test, groups_test, groups_at, group_at, group_count_of}, Messages.{body_reading, pim_reading, is_checksum_right}}, proofs.{Laws.{pim_reads, pim_text_right}, WrittenEntries.{sources_read, entries_read}}}

module _ (upstream group : ℕ) (joins prunes : List Entry) (upstream_fits : upstream < 2 ^ 32) (group_is : is_multicast group ≡ true)
    (few_joins : length joins < 2 ^ 16) (few_prunes : length prunes < 2 ^ 16)
    (join_hosts : All (λ e. IsTrue (is_unicast e.address.bits)) joins) (prune_hosts : All (λ e. IsTrue (is_unicast e.address.bits)) prunes) where
  abbrev text : List ℕ
  text = join_prune_text upstream group joins prunes

  text-upstream : unicast_at text 4 ≡ upstream
  unfolding join_prune_text pim_text with_checksum
  text-upstream = big_number-reads_back 4 upstream [] upstream_fits

  text-group : address_at text 14 ≡ group
  unfolding join_prune_text pim_text with_checksum
  text-group = big_number-reads_back 4 group [] (grind (arith, nat_tests))

  text-joins : join_count_at text 14 ≡ length joins
  unfolding join_prune_text pim_text with_checksum
  text-joins = big_number-reads_back 2 (length joins) [] few_joins

  text-prunes : prune_count_at text 14 ≡ length prunes
  unfolding join_prune_text pim_text with_checksum
  text-prunes = big_number-reads_back 2 (length prunes) [] few_prunes

  -- the entries stand behind 26 bytes
  drop-text : drop 26 text ≡ flat_map entry_text joins ++ flat_map entry_text prunes
  unfolding join_prune_text pim_text with_checksum
  drop-text = refl

  length-text : length text ≡ 26 + length (flat_map entry_text joins ++ flat_map entry_text prunes)
  unfolding join_prune_text pim_text with_checksum
  length-text = omega arith

  joins-read : entries_at text 26 (length joins) ≡ joins
  joins-read = entries_read joins text 26 (flat_map entry_text prunes) drop-text join_hosts

  -- each entry has 8 bytes
  length-entries : (es : List Entry) → length (flat_map entry_text es) ≡ 8 * length es
  length-entries [] = refl
  length-entries (e ∷ es) = omega (arith, length-entries es, length-append (entry_text e) (flat_map entry_text es))

  prunes-stand : drop (26 + 8 * length joins) text ≡ flat_map entry_text prunes ++ []
  prunes-stand =
      sym (drop-drop (8 * length joins) 26 text)
      ∙ ap (drop (8 * length joins)) drop-text
      ∙ drop_at (flat_map entry_text joins) (flat_map entry_text prunes) (8 * length joins) (length-entries joins)
      ∙ sym (append-nil (flat_map entry_text prunes))

  prunes-read : entries_at text (26 + 8 * length joins) (length prunes) ≡ prunes
  prunes-read = entries_read prunes text (26 + 8 * length joins) [] prunes-stand prune_hosts

  sources-test : sources_test text 26 (length joins + length prunes) ≡ Ok tt
  sources-test =
      rw (← length-append joins prunes)
      (sources_read (joins ++ prunes) text 26 []
      (drop-text ∙ sym (append-nil (flat_map entry_text (joins ++ prunes)) ∙ flat_map-append entry_text joins prunes)))

  field : (p n : ℕ) → p + n ≤ 26 → field_test text p n ≡ Ok tt
  field p n h = grind (arith, nat_tests, length-text)

  native-upstream : is_native_ipv4 text 4 ≡ true
  unfolding join_prune_text pim_text with_checksum
  native-upstream = refl

  upstream-test : unicast_test text 4 ≡ Ok tt
  unfolding unicast_test
  upstream-test = rw (field 4 6 (omega arith), native-upstream) refl

  native-group : is_native_ipv4 text 14 ≡ true
  unfolding join_prune_text pim_text with_checksum
  native-group = refl

  group-test : group_test text 14 ≡ Ok tt
  unfolding group_test source_test
  group-test = rw (field 14 8 (omega arith), native-group, text-group, group_is) refl

  groups-test : groups_test text 14 1 ≡ Ok tt
  unfolding groups_test
  groups-test = rw (group-test, field 22 4 (omega arith), text-joins, text-prunes, sources-test) refl

  count : group_count_of text ≡ 1
  unfolding join_prune_text pim_text with_checksum
  count = refl

  test : join_prune_test text ≡ Ok tt
  unfolding join_prune_test
  test = rw (upstream-test, field 10 4 (omega arith), count, groups-test) refl

  mask : mask_length_at text 14 ≡ 32
  unfolding join_prune_text pim_text with_checksum
  mask = refl

  holdtime : big_from 12 2 text ≡ join_prune_holdtime
  unfolding join_prune_text pim_text with_checksum
  holdtime = refl

  groups : groups_at text 14 1 ≡ record { group = group; joins = joins; prunes = prunes } ∷ []
  unfolding groups_at group_at join_prune_text pim_text with_checksum
  groups = rw (mask, text-group, text-joins, text-prunes, joins-read, prunes-read) refl

  value : join_prune_of text ≡ record { upstream = upstream; holdtime = join_prune_holdtime; groups = record { group = group; joins = joins; prunes = prunes } ∷ [] }
  unfolding join_prune_of
  value = rw (text-upstream, holdtime, count, groups) refl

  version : pim_version_of text ≡ 2
  unfolding join_prune_text pim_text with_checksum
  version = refl

  type : pim_type_of text ≡ 3
  unfolding join_prune_text pim_text with_checksum
  type = refl

  right : is_checksum_right text ≡ true
  unfolding join_prune_text
  right = pim_text_right 3 _

  pub join_prune_reads : pim_reading text
      ≡ Ok (JoinPrune (record { upstream = upstream; holdtime = join_prune_holdtime; groups = record { group = group; joins = joins; prunes = prunes } ∷ [] }))
  unfolding body_reading
  join_prune_reads = pim_reads text 3 (omega (arith, length-text)) version type right ∙ rw (test, value) refl
