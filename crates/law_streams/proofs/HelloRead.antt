-- A Hello as bytes is read as it was written, and makes its sender a neighbour.
use Rattle.std.{proofs.{Common.{◌≡◌, ◌∙◌, ℕ, ◌+◌, ◌*◌, ◌≤◌, ◌^◌, ◌%◌, nat_lt, true, false, List, [], length, Some, Ok, refl, sym, ap, subst, arith, append-nil}, lemmas.Bool.Decides.nat_tests}, specs.Int.byte_at}
use Rattle.pim_ip.{specs.{declared.addr.Addr.Addr, Checksum.with_checksum, Ipv4.{Packet, all_pim_routers, frame_limit, header_text, ipv4_reading, is_source, packet_limit, pim_packet_text, protocol_pim}, View.written_packet}, proofs.ViewLemmas.written_reads}
use Rattle.byteorder.{specs.Endian.big_bytes}
use Rattle.pim_types.{specs.declared.{config.IfaceId.IfaceId, event.{Event.Event}}}
use Rattle.pim_wire.{specs.{Encoded.pim_text, Hellos.hello_text, Messages.pim_reading, declared.{hello.Hello.Hello as HelloValue, view.PimView.PimView}}, proofs.Laws.hello_reads}
use Rattle.pim_model.{specs.{declared.accepted.Accepted.Accepted, Cause.done_as, Hellos.{hello_holdtime_of, hello_received, hello_triggered, neighbour_replaced, neighbour_restarted}, Judging.{frame_judged, hello_judged, judged, packet_judged, pim_judged, pim_message_judged}, Messages.Message, State.{Addressing, State, address_among, value_among}, Step.{Answered, change, done, step}}}
use Rattle.law_settled.{proofs.Unsettled.{Unsettled, settling_leaves}}
use Rattle.law_streams.{specs.{Copies.happens, Hellos.{HelloIsRead, HelloIsTaken, IsReadable, hello_of, hello_value}, Neighbours.HoldsNeighbour}, proofs.{Made.step_taken, Leaves.taken_is_done, ReadBack.within_range, Neighbours.{held_by, hello_rows, own_hello}}}

-- the bytes of a number are those of its rest as a word
first : (g : ℕ) → byte_at 0 g ≡ byte_at 0 (g % 2 ^ 32)
first g = omega arith

second : (g : ℕ) → byte_at 1 g ≡ byte_at 1 (g % 2 ^ 32)
second g = omega arith

third : (g : ℕ) → byte_at 2 g ≡ byte_at 2 (g % 2 ^ 32)
third g = omega arith

fourth : (g : ℕ) → byte_at 3 g ≡ byte_at 3 (g % 2 ^ 32)
fourth g = omega arith

module _ (cs : Addressing) (j generation : ℕ) (f : IsReadable cs j) where
  abbrev from : ℕ
  from = address_among cs j

  abbrev body : List ℕ
  body =
      hello_text (value_among (λ c. c.propagation_delay) cs j) (value_among (λ c. c.override_interval) cs j)
      (value_among (λ c. c.priority) cs j) generation

  abbrev text : List ℕ
  text = hello_of cs j generation

  body_long : length body ≡ 34
  unfolding hello_text pim_text with_checksum
  body_long = refl

  text_long : length text ≡ 54
  unfolding pim_packet_text header_text with_checksum
  text_long = omega (arith, body_long)

  abbrev carried : Packet
  carried = written_packet [] 1 protocol_pim from all_pim_routers body

  from_may : is_source protocol_pim from ≡ true
  from_may = grind (arith, nat_tests, f.from_host)

  packet_read : ipv4_reading text ≡ Ok carried
  unfolding pim_packet_text
  packet_read =
      ap ipv4_reading (sym (append-nil text))
      ∙ (written_reads [] 1 protocol_pim from all_pim_routers body refl (omega (arith, body_long)) (omega (arith, body_long)) from_may).reading []
      (subst (λ (xs : List ℕ). length xs ≤ packet_limit) (sym (append-nil text)) (omega (arith, text_long)))

  abbrev word : ℕ
  word = generation % 2 ^ 32

  -- of the generation ID the bytes of a word leave
  same_word : big_bytes 4 generation ≡ big_bytes 4 word
  same_word = rw (fourth generation, third generation, second generation, first generation) refl

  same_body : body ≡ hello_text (value_among (λ c. c.propagation_delay) cs j) (value_among (λ c. c.override_interval) cs j)
      (value_among (λ c. c.priority) cs j) word
  unfolding hello_text
  same_body = rw same_word refl

  message_read : pim_reading body ≡ Ok (PimView.Hello (hello_value cs j generation))
  message_read =
      ap pim_reading same_body
      ∙ hello_reads (value_among (λ c. c.propagation_delay) cs j) (value_among (λ c. c.override_interval) cs j)
      (value_among (λ c. c.priority) cs j) word f.delay_fits f.interval_fits f.priority_fits (omega arith) f.delay_fits

  short_enough : nat_lt frame_limit (length text) ≡ false
  short_enough = grind (arith, text_long, nat_tests)

pub hello_is_read : HelloIsRead
unfolding judged frame_judged packet_judged pim_message_judged pim_judged hello_judged
hello_is_read s i j generation cs h f = grind (arith, within_range, short_enough, packet_read, message_read)

-- ---- what it leaves

no_end_before : (a : ℕ) → nat_lt a a ≡ false
no_end_before a = grind (arith, nat_tests)

pub hello_is_taken : HelloIsTaken
unfolding done change
hello_is_taken s e i from h is lasts =
    let made : State × List Message = ((change s e.draw (Accepted.Hello i from h)).state, (change s e.draw (Accepted.Hello i from h)).messages) in
    let after : (step s e).state ≡ (done s e.draw (change s e.draw (Accepted.Hello i from h))).state =
    ap (λ (a : Answered). a.state) (step_taken s e (Accepted.Hello i from h) is ∙ taken_is_done s e.draw (Accepted.Hello i from h) refl) in
    subst (λ (t : State). HoldsNeighbour t i.number from.bits (s.present + 1000 * hello_holdtime_of h)) (sym after)
    (held_by i.number from.bits (s.present + 1000 * hello_holdtime_of h) (hello_received s i.number from.bits h e.draw) _
    (ap (λ (u : Unsettled). u.neighbours) (settling_leaves s made e.draw))
    (own_hello i.number from.bits (s.present + 1000 * hello_holdtime_of h) s h (hello_received s i.number from.bits h e.draw)
    (hello_rows i.number from.bits (s.present + 1000 * hello_holdtime_of h) s i.number from.bits h e.draw) lasts
    (no_end_before (s.present + 1000 * hello_holdtime_of h))))

pub hello_keeps_time : (s : State) (e : Event) (i : IfaceId) (from : Addr) (h : HelloValue)
    → done_as (happens s e) ≡ Some (Accepted.Hello i from h) → ((step s e).state).present ≡ s.present
unfolding done change hello_received neighbour_replaced hello_triggered neighbour_restarted
hello_keeps_time s e i from h is =
    let made : State × List Message = ((change s e.draw (Accepted.Hello i from h)).state, (change s e.draw (Accepted.Hello i from h)).messages) in
    ap (λ (a : Answered). (a.state).present) (step_taken s e (Accepted.Hello i from h) is ∙ taken_is_done s e.draw (Accepted.Hello i from h) refl)
    ∙ (ap (λ (u : Unsettled). u.present) (settling_leaves s made e.draw) ∙ grind arith)
