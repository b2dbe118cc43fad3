-- The Register that a DR sends is read by the RP as it was written, and its packet comes down.
use Rattle.std.{proofs.{Common.{◌≡◌, ◌∙◌, ℕ, suc, ◌+◌, ◌≤◌, true, List, [], ◌∷◌, ◌++◌, length, map, None, Ok, Some, refl, sym, ap, subst, arith, append-nil}, lemmas.{Bool.Decides.nat_tests, List.Elements.Contains-append_right, Option.slice_get-get_or}}, specs.List.Contains}
use Rattle.pim_ip.{specs.{Checksum.with_checksum, Ipv4.{Packet, copy_text, frame_limit, header_text, ipv4_reading, is_multicast, is_source, is_unicast, packet_limit, pim_packet_text, protocol_pim}, View.{copied, written_packet}}, proofs.ViewLemmas.written_reads}
use Rattle.pim_types.{specs.declared.event.{Event.Event, EventKind.EventKind}}
use Rattle.pim_wire.{specs.{Messages.pim_reading, Registers.register_text, Values.Encapsulated, declared.view.PimView.PimView}, proofs.Laws.register_reads}
use Rattle.pim_model.{specs.{Network.{At, DeliverUnicast, Network, Sent, Station, event_of, frame_at, moved, moved_at, network_ran, sent_by, station_at, stepped}, Registers.registering_address, State.State, Step.{ran, state_after, step}, Writing.{pim_to, unicast_time_to_live}}}
use Rattle.law_streams.{specs.{Networks.events_in, Served.Came, Flows.IsFlowed, Roots.IsRegister, Ways.{Place, StandIn, state_of}, Passing.{Receiver, Tree}, Sources.Registers, Streams.NoneEndsStream, Registered.{AreAddresses, IsCarriedPacket, RegisterIsRead, RegisteredIsServed, register_bytes}}, proofs.{Links.contains_mapped, Climbs.still_stand, Deliveries.{IsStepped, is_moved}, Forwards.{copy_fits, copy_reads_lower}, Registering.dr_registers, StreamRoots.{each_of_stream_is_served, each_register_is_brought}}}

-- ---- the bytes

module _ (from rp g src lives : ℕ) (bytes payload : List ℕ) (p : Packet) (f : AreAddresses g src from rp)
    (c : IsCarriedPacket bytes p g src payload lives) where
  abbrev inner : List ℕ
  inner = copy_text p

  abbrev body : List ℕ
  body = register_text inner

  inner_read : ipv4_reading inner ≡ Ok (copied p)
  inner_read = copy_reads_lower bytes p c.reads

  inner_fits : length inner ≤ frame_limit
  inner_fits = let a = copy_fits bytes p c.reads in let b = c.fits in omega (arith, a, b)

  body_long : length body ≡ 8 + length inner
  unfolding register_text with_checksum
  body_long = omega arith

  message_read : pim_reading body ≡ Ok (PimView.Register (Encapsulated (copied p)))
  message_read =
      register_reads inner (copied p) inner_read inner_fits (ap is_unicast c.source ∙ f.host) (ap is_multicast c.group ∙ f.multicast)

  abbrev outer : Packet
  outer = written_packet [] unicast_time_to_live protocol_pim from rp body

  from_may : is_source protocol_pim from ≡ true
  from_may = grind (arith, nat_tests, f.from_host)

  text_long : length (register_bytes from rp p) ≡ 20 + length body
  unfolding pim_packet_text header_text with_checksum
  text_long = omega arith

  short : length (register_bytes from rp p) ≤ packet_limit
  short =
      let a = text_long in
      let b = body_long in
      let d = inner_fits in omega (arith, a, b, d)

  outer_read : ipv4_reading (register_bytes from rp p) ≡ Ok outer
  unfolding pim_packet_text
  outer_read =
      ap ipv4_reading (sym (append-nil (register_bytes from rp p)))
      ∙ (written_reads [] unicast_time_to_live protocol_pim from rp body refl (omega arith) f.to_fits from_may).reading []
      (subst (λ (xs : List ℕ). length xs ≤ packet_limit) (sym (append-nil (register_bytes from rp p))) short)

  is_read : IsRegister g src rp (register_bytes from rp p) payload lives
  is_read = record {
    outer = outer;
    reads = outer_read;
    of_pim = refl;
    destination = refl;
    inner = inner;
    packet = copied p;
    is = message_read;
    inner_reads = inner_read;
    fits = inner_fits;
    group = c.group;
    source = c.source;
    is_data = c.is_data;
    same = c.same;
    time_to_live = let e = c.time_to_live in omega (arith, e);
  }

pub register_is_read : RegisterIsRead
register_is_read from rp g src lives bytes payload p f c = is_read from rp g src lives bytes payload p f c

-- ---- the frame

-- what is sent to an address is a frame of no link
record IsUnicastFrame (n : Network) (bytes : List ℕ) : Type 0 where
  number : ℕ
  is : frame_at n number ≡ Some (record { link = None; bytes = bytes })

frame_sent : (n : Network) (r : ℕ) (st : Station) (e : Event) (from to : ℕ) (text : List ℕ) → station_at n r ≡ Some st
    → Contains (step st.state e).emissions (pim_to from to text)
    → IsUnicastFrame (moved n (At r e)).1 (pim_packet_text unicast_time_to_live from to text)
unfolding moved moved_at event_of stepped frame_at pim_to
frame_sent n r st e from to text at c =
    let f : Sent = record { link = None; bytes = pim_packet_text unicast_time_to_live from to text } in
    let there : Contains (n.frames ++ map (sent_by st.links) (step st.state e).emissions) f =
    Contains-append_right n.frames (map (sent_by st.links) (step st.state e).emissions) f
    (contains_mapped (sent_by st.links) (step st.state e).emissions (pim_to from to text) c) in
    rw (at, at) (record {
      number = suc there.0;
      is = slice_get-get_or (n.frames ++ map (sent_by st.links) (step st.state e).emissions) there.0 f there.1 ∙ ap Some there.2;
    })

-- its delivery is that event at the router
delivered_so : (n : Network) (r k draw : ℕ) (st : Station) (bytes : List ℕ) → station_at n r ≡ Some st
    → frame_at n k ≡ Some (record { link = None; bytes = bytes })
    → moved n (DeliverUnicast r k draw) ≡ moved n (At r (record { draw = draw; kind = EventKind.Unicast bytes }))
unfolding moved event_of
delivered_so n r k draw st bytes at is = rw (at, is) refl

-- ---- the whole

none_ends : (tree : ℕ → Tree) (by : ℕ → Receiver) (g src : ℕ) (n : Network) (ps : List Place) → NoneEndsStream tree by g src n [] ps
unfolding events_in
none_ends tree by g src n [] = tt
none_ends tree by g src n (p ∷ ps) = (tt, none_ends tree by g src n ps)

pub registered_is_served : RegisteredIsServed
unfolding network_ran events_in state_after ran
registered_is_served tree by n g rp src link up lives draw payload dr root ps e far some f sends linked way stand apart at off r sent can =
    let s : State = state_of dr in
    let from : ℕ = registering_address s src in
    let p : Packet = sent.packet in
    let m : Network = (moved n (At dr.router e)).1 in
    let did : IsStepped n dr.router dr.station e m = is_moved n dr.router dr.station e at in
    let ttl = sent.time_to_live in
    let came : Came s e (record { number = up }) p = record { done = sent.done; lives = omega (arith, ttl, some) } in
    let regs : Registers s p.destination p.source up rp =
    subst (λ (d : ℕ). Registers s d p.source up rp) (sym sent.group) (subst (λ (a : ℕ). Registers s g a up rp) (sym sent.source) r) in
    let leaves : Contains (step s e).emissions (pim_to from rp (register_text (copy_text p))) =
    subst (λ (a : ℕ). Contains (step s e).emissions (pim_to (registering_address s a) rp (register_text (copy_text p)))) sent.source
    (dr_registers s e p up rp regs came) in
    let frame : IsUnicastFrame m (register_bytes from rp p) = frame_sent n dr.router dr.station e from rp (register_text (copy_text p)) at leaves in
    let stand_then : StandIn m (root ∷ ps) = still_stand n m dr.router did.beside (root ∷ ps) off stand in
    let register : IsRegister g src rp (register_bytes from rp p) payload (lives + length ps) =
    register_is_read from rp g src (lives + length ps) sent.bytes payload p f (record {
      reads = sent.reads;
      fits = sent.fits;
      group = sent.group;
      source = sent.source;
      is_data = sent.is_data;
      same = sent.same;
      time_to_live = omega (arith, ttl);
    }) in
    let d : Event = record { draw = draw; kind = EventKind.Unicast (register_bytes from rp p) } in
    record {
      packet = p;
      number = frame.number;
      is_sent = frame.is;
      flows =
          subst (λ x. IsFlowed x.1 g src link payload lives ps)
          (sym (delivered_so m root.router frame.number draw root.station (register_bytes from rp p) stand_then.0 frame.is))
          (each_of_stream_is_served tree by m [] g src link lives payload root ps d f.multicast far some sends linked way stand_then
          apart tt (none_ends tree by g src m ps)
          (each_register_is_brought (state_of root) g rp src draw root.down (lives + length ps) (register_bytes from rp p) payload far
          can.own can.rp_known can.unset can.room register));
    }
