-- A general query as bytes is read as it was written, and holds back who reads it from a lower address.
use Rattle.std.{proofs.{Common.{◌≡◌, ◌∙◌, ℕ, ◌+◌, ◌<◌, ◌≤◌, ◌^◌, nat_lt, true, false, List, [], length, Some, Ok, refl, sym, ap, subst, arith, append-nil, lit<}, lemmas.Bool.Decides.nat_tests}, specs.List.All}
use Rattle.pim_ip.{specs.{declared.addr.Addr.Addr, Addr.addr, Checksum.with_checksum, Ipv4.{Packet, all_systems, frame_limit, header_text, igmp_packet_text, ipv4_reading, is_source, is_unicast, packet_limit, protocol_igmp, router_alert}, View.written_packet}, proofs.ViewLemmas.written_reads}
use Rattle.pim_types.{specs.declared.{config.{IfaceId.IfaceId, Settings.Settings}, event.{Event.Event, EventKind.EventKind}}}
use Rattle.igmp_wire.{specs.{Messages.igmp_reading, Queries.query_text, Values.Query as QueryValue, declared.view.IgmpView.IgmpView}, proofs.RoundTrip.query_reads}
use Rattle.pim_model.{specs.{declared.accepted.Accepted.Accepted, Cause.done_as, Full.is_full, Judging.{frame_judged, igmp_judged, igmp_message_judged, judged, packet_judged}, Messages.Message, Querier.{is_lower_querier}, State.{State, iface_count}, Step.{Answered, change, done, step}}}
use Rattle.law_streams.{specs.{Copies.happens, Hellos.Listens}, proofs.{Leaves.taken_is_done, Made.step_taken, Passes.done_if, ReadBack.within_range}}
use Rattle.law_converges.{specs.LinkQuerier.{HoldsBack, general_of, present_for, query_packet}, proofs.Roles.{query_there, settled_row}}

no_sources : All (λ (source : ℕ). source < 2 ^ 32) []
no_sources k d h = absurd (omega arith)

module _ (address : ℕ) (t : Settings) (robust : t.robustness < 8) (host : is_unicast address ≡ true) where
  abbrev message : List ℕ
  message = query_text (general_of t)

  abbrev text : List ℕ
  text = query_packet address t

  message_long : length message ≡ 12
  unfolding query_text with_checksum
  message_long = refl

  text_long : length text ≡ 36
  unfolding igmp_packet_text header_text with_checksum query_text
  text_long = refl

  abbrev carried : Packet
  carried = written_packet router_alert 1 protocol_igmp address all_systems message

  from_may : is_source protocol_igmp address ≡ true
  from_may = grind (arith, nat_tests, host)

  packet_read : ipv4_reading text ≡ Ok carried
  unfolding igmp_packet_text
  packet_read =
      ap ipv4_reading (sym (append-nil text))
      ∙ (written_reads router_alert 1 protocol_igmp address all_systems message refl (omega (arith, message_long)) (omega (arith, message_long)) from_may).reading []
      (subst (λ (xs : List ℕ). length xs ≤ packet_limit) (sym (append-nil text)) (omega (arith, text_long)))

  message_read : igmp_reading message ≡ Ok (IgmpView.Query (general_of t))
  message_read = query_reads (general_of t) robust (lit< tt) no_sources refl

  short_enough : nat_lt frame_limit (length text) ≡ false
  short_enough = grind (arith, text_long, nat_tests)

  pub query_is_read : (s : State) (i : ℕ) → Listens s i address
      → judged s (EventKind.Frame (record { number = i }) (query_packet address t))
      ≡ Ok (Accepted.Query (record { number = i }) (addr address) (general_of t))
  unfolding judged frame_judged packet_judged igmp_message_judged igmp_judged
  query_is_read s i h =
      rw (within_range (iface_count s) i h.configured, h.up, short_enough, packet_read, message_read, h.other) refl

  pub query_is_done : (s : State) (i draw : ℕ) → Listens s i address
      → (let e : Event = record { draw = draw; kind = EventKind.Frame (record { number = i }) (query_packet address t) } in
      done_as (happens s e) ≡ Some (Accepted.Query (record { number = i }) (addr address) (general_of t)))
  unfolding is_full
  query_is_done s i draw h =
      done_if s (record { draw = draw; kind = EventKind.Frame (record { number = i }) (query_packet address t) })
      (Accepted.Query (record { number = i }) (addr address) (general_of t)) (query_is_read s i h) refl

module _ (s : State) (e : Event) (i : IfaceId) (from : Addr) (q : QueryValue) (is : done_as (happens s e) ≡ Some (Accepted.Query i from q)) where
  abbrev own : State × List Message
  own = ((change s e.draw (Accepted.Query i from q)).state, (change s e.draw (Accepted.Query i from q)).messages)

  is_done : step s e ≡ done s e.draw (change s e.draw (Accepted.Query i from q))
  is_done = step_taken s e (Accepted.Query i from q) is ∙ taken_is_done s e.draw (Accepted.Query i from q) refl

  pub query_holds_back : is_lower_querier s i.number from.bits ≡ true
      → HoldsBack (step s e).state i.number (s.present + present_for s.settings q)
  unfolding done change
  query_holds_back lower =
      subst (λ (x : Answered). HoldsBack x.state i.number (s.present + present_for s.settings q)) (sym is_done) (record {
        row = _;
        found = settled_row i.number s own e.draw ∙ query_there i.number s from.bits q lower;
        until = s.present + present_for s.settings q;
        role = refl;
        lasts = same (s.present + present_for s.settings q);
      })
    where
      same : (a : ℕ) → a ≤ a
      same a = omega arith
