-- A header alone is read as a packet, and does what any packet of its source and its group does, but for what leaves.
use Rattle.std.{proofs.{Common.{◌≡◌, ◌++◌, ◌==◌, ◌<◌, ◌≤◌, ◌^◌, ℕ, Bool, true, false, List, [], append-nil, length, nat_lt, IsTrue, Ok, refl, sym, ap, subst, ◌∙◌, arith}, lemmas.Bool.Decides.nat_tests}}
use Rattle.pim_ip.{specs.{Checksum.with_checksum, Ipv4.{Packet, frame_limit, header_text, ipv4_reading, is_multicast, is_source, packet_limit, packet_of, protocol_igmp}, View.{ReadsAs, written_packet}, declared.refusal.Refusal.Refusal}, proofs.ViewLemmas.written_reads}
use Rattle.pim_types.{specs.declared.{config.IfaceId.IfaceId, event.Event.Event, outcome.Stop.Stop}}
use Rattle.pim_model.{specs.{declared.accepted.Accepted.Accepted, Forwarding.{Forwarded, forwarded, no_interface}, Full.{is_full, source_is_full}, Judging.{Judged, judged}, Sets.Set, State.State, Step.{Answered, change, concluded, done, packet_forwarded, step, stopped, taken, taken_unless_full}, Writing.{copies_of, leaves, tunnel_of}}}
use Rattle.law_settled.{proofs.ReadPackets.{packet_is, passed}}
use Rattle.law_plane.{specs.{OffloadLaws.{BringsData, IsData}, Seen.{IsAllBut, SeenIsStepped, bare_text, last_time_to_live, protocol_udp, seen_event}}, proofs.Planes.{data_is_heard, none_leave}}

-- ---- what is read may come from its source

its_source : (b : List ℕ) (p : Packet) → ipv4_reading b ≡ Ok p → is_source p.protocol p.source ≡ true
unfolding packet_of
its_source b p e = grind (arith, packet_is, passed)

-- ---- a header alone

within_limit : (g src : ℕ) → length ((bare_text g src ++ []) ++ []) ≤ packet_limit
unfolding header_text with_checksum
within_limit g src = omega arith

no_longer : (g src : ℕ) → nat_lt frame_limit (length (bare_text g src)) ≡ false
unfolding header_text with_checksum
no_longer g src = refl

may_send : (src protocol : ℕ) → is_source protocol src ≡ true → (protocol == protocol_igmp) ≡ false
    → IsTrue (is_source protocol_udp src)
may_send src protocol = grind arith

fits : (g : ℕ) → is_multicast g ≡ true → g < 2 ^ 32
fits g group = grind (arith, nat_tests, group)

abbrev pub bare : ℕ → ℕ → Packet
bare g src = written_packet [] last_time_to_live protocol_udp src g []

read_bare : (g src : ℕ) → is_multicast g ≡ true → IsTrue (is_source protocol_udp src)
    → ipv4_reading (bare_text g src) ≡ Ok (bare g src)
read_bare g src group lawful =
    let reads : ReadsAs (bare_text g src ++ []) (bare g src) =
    written_reads [] last_time_to_live protocol_udp src g [] refl (omega arith) (fits g group) lawful in
    ap ipv4_reading (sym (append-nil (bare_text g src ++ []) ∙ append-nil (bare_text g src)))
    ∙ reads.reading [] (within_limit g src)

module _ (s : State) (w : ℕ) (i : IfaceId) (bytes : List ℕ) (p : Packet) (is : IsData s i bytes p) where
  abbrev pub tells : Event
  tells = seen_event w i p.destination p.source

  pub heard : BringsData s tells i (bare p.destination p.source)
  heard =
      data_is_heard s tells i (bare_text p.destination p.source) (bare p.destination p.source) refl
      (record {
        configured = is.configured;
        up = is.up;
        short = no_longer p.destination p.source;
        read = read_bare p.destination p.source is.multicast
            (may_send p.source p.protocol (its_source bytes p is.read) is.not_igmp);
        not_pim = refl;
        not_igmp = refl;
        not_own = is.not_own;
        multicast = is.multicast;
        not_local = is.not_local;
      })

-- ---- what it does

none_by_tunnel : (s : State) (p : Packet) (b : Bool) → leaves p ≡ false → tunnel_of s p b ≡ []
unfolding tunnel_of
none_by_tunnel s p b e = grind arith

none_on_links : (s : State) (p : Packet) (list : Set) → leaves p ≡ false → copies_of s p list ≡ []
unfolding copies_of
none_on_links s p list e = rw e refl

module _ (s : State) (w : ℕ) (i : IfaceId) (p q : Packet) (group : q.destination ≡ p.destination)
    (source : q.source ≡ p.source) (spent : leaves q ≡ false) where
  abbrev its_way : Forwarded
  its_way = forwarded s p.destination p.source i.number

  done_alike : IsAllBut p (done s w (packet_forwarded q its_way)) (done s w (packet_forwarded p its_way))
  unfolding done
  done_alike = grind (arith, none_on_links, none_by_tunnel, append-nil)

  no_tunnel : tunnel_of s p false ≡ []
  unfolding tunnel_of
  no_tunnel = refl

  abbrev answered : Bool → Packet → Answered
  answered full r =
      elim full as (λ x. Answered) [
        | true ↦ stopped s (Stop.Refuse Refusal.Full)
        | false ↦ done s w (packet_forwarded r (forwarded s r.destination r.source i.number))
      ]

  full_alike : (a b : Bool) → a ≡ b → IsAllBut p (answered a q) (answered b p)
  full_alike true true e = record {
    answer = refl;
    state_is = refl;
    none = refl;
    at = s;
    list = no_interface;
    to_tunnel = false;
    rest = sym (λ j. none_leave s p j ++ no_tunnel j);
  }
  full_alike false false e = grind (arith, done_alike)
  full_alike true false e = cc
  full_alike false true e = cc

  taken_alike : IsAllBut p (taken_unless_full s w (Accepted.Data i q)) (taken_unless_full s w (Accepted.Data i p))
  unfolding taken_unless_full taken change is_full
  taken_alike =
      full_alike (source_is_full s q.destination q.source) (source_is_full s p.destination p.source)
      (λ j. source_is_full s (group j) (source j))

pub seen_is_stepped : SeenIsStepped
unfolding step
seen_is_stepped s e i bytes p frame is =
    let first : BringsData s e i p = data_is_heard s e i bytes p frame is in
    let again : BringsData s (tells s e.draw i bytes p is) i (bare p.destination p.source) = heard s e.draw i bytes p is in
    subst (λ (j : Judged). IsAllBut p (concluded s (taken_unless_full s e.draw) (judged s (tells s e.draw i bytes p is).kind))
    (concluded s (taken_unless_full s e.draw) j)) (sym first)
    (subst (λ (j : Judged). IsAllBut p (concluded s (taken_unless_full s e.draw) j)
    (taken_unless_full s e.draw (Accepted.Data i p))) (sym again)
    (taken_alike s e.draw i p (bare p.destination p.source) refl refl refl))
