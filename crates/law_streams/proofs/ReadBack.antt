-- A Join as bytes is read as it was written.
use Rattle.std.{proofs.{Common.{◌≡◌, ◌∙◌, ℕ, ◌+◌, ◌*◌, ◌<◌, ◌≤◌, nat_le, nat_lt, true, false, List, [], ◌∷◌, ◌++◌, length, Ok, refl, sym, ap, subst, arith, append-nil, eq-eqb, length-append}, lemmas.{Bool.Decides.nat_tests, List.Elements.{All-cons, All-nil}}}, specs.List.flat_map}
use Rattle.pim_ip.{specs.{Checksum.with_checksum, Ipv4.{Packet, all_pim_routers, frame_limit, header_text, ipv4_reading, is_source, packet_limit, pim_packet_text, protocol_pim}, View.written_packet}, proofs.ViewLemmas.written_reads}
use Rattle.pim_wire.{specs.{Encoded.pim_text, JoinPrunes.{entry_text, join_prune_text}, Messages.pim_reading, declared.{join_prune.Entry.Entry, view.PimView.PimView}}, proofs.JoinPruneLaw.join_prune_reads}
use Rattle.pim_model.{specs.{Judging.{frame_judged, join_prune_judged, judged, packet_judged, pim_judged, pim_message_judged}, Upstream.most_pruned}}
use Rattle.law_streams.{specs.Joins.{IsWritable, JoinIsRead, JoinIsSeen, join_packet, join_value}}

module _ (from to g : ℕ) (joined : Entry) (prunes : List Entry) (f : IsWritable from to g joined prunes) where
  abbrev body : List ℕ
  body = join_prune_text to g (joined ∷ []) prunes

  abbrev text : List ℕ
  text = join_packet from to g joined prunes

  -- each entry has 8 bytes
  entries_long : (es : List Entry) → length (flat_map entry_text es) ≡ 8 * length es
  entries_long [] = refl
  entries_long (e ∷ es) = omega (arith, entries_long es, length-append (entry_text e) (flat_map entry_text es))

  body_long : length body ≡ 26 + length (flat_map entry_text (joined ∷ []) ++ flat_map entry_text prunes)
  unfolding join_prune_text pim_text with_checksum
  body_long = omega arith

  text_long : length text ≡ 54 + 8 * length prunes
  unfolding join_packet pim_packet_text header_text with_checksum
  text_long = grind (arith, body_long, entries_long, length-append)

  abbrev carried : Packet
  carried = written_packet [] 1 protocol_pim from all_pim_routers body

  from_may : is_source protocol_pim from ≡ true
  from_may = grind (arith, nat_tests, f.from_host)

  packet_read : ipv4_reading text ≡ Ok carried
  unfolding join_packet pim_packet_text
  packet_read =
      let few : length prunes ≤ most_pruned = f.few in
      let long : length text ≡ 54 + 8 * length prunes = text_long in
      ap ipv4_reading (sym (append-nil text))
      ∙ (written_reads [] 1 protocol_pim from all_pim_routers body refl (omega arith) (omega arith) from_may).reading []
      (subst (λ (xs : List ℕ). length xs ≤ packet_limit) (sym (append-nil text)) (omega (arith, few, long)))

  message_read : pim_reading body ≡ Ok (PimView.JoinPrune (join_value to g joined prunes))
  message_read = grind (arith, join_prune_reads, All-cons, All-nil)

  short_enough : nat_lt frame_limit (length text) ≡ false
  short_enough = grind (arith, text_long, nat_tests)

pub within_range : (n i : ℕ) → i < n → nat_le n i ≡ false
within_range n i lt = grind (arith, nat_tests, lt)

pub join_is_read : JoinIsRead
unfolding judged frame_judged packet_judged pim_message_judged pim_judged join_prune_judged
join_is_read s i from g joined prunes h f = grind (arith, within_range, short_enough, packet_read, message_read, eq-eqb)

pub join_is_seen : JoinIsSeen
unfolding judged frame_judged packet_judged pim_message_judged pim_judged join_prune_judged
join_is_seen s i from to g joined prunes h other f =
    grind (arith, within_range, short_enough, packet_read, message_read)
