-- What was judged to be data, or a Register, was read of the event's bytes.
use Rattle.std.{proofs.Common.{arith, if◌then◌else◌, ◌≡◌, ◌∙◌, ◌&&◌, ◌==◌, ℕ, Bool, true, false, List, Option, Some, None, Result, Ok, Err, nat_le, nat_lt, not, refl, ap}}
use Rattle.pim_ip.{specs.{Ipv4.{Packet, all_pim_routers, ipv4_reading, protocol_igmp, protocol_pim}, declared.refusal.Refusal.Refusal}}
use Rattle.pim_types.{specs.declared.{config.IfaceId.IfaceId, event.{Event.Event, EventKind.EventKind}, outcome.{Ignored.Ignored, Verdict.Verdict}}}
use Rattle.pim_wire.{specs.{Messages.pim_reading, Values.Encapsulated, declared.view.PimView.PimView}}
use Rattle.igmp_wire.{specs.declared.view.IgmpView.IgmpView}
use Rattle.pim_model.{specs.{declared.accepted.Accepted.Accepted, Cause.{done_as, if_done, packet_in}, Judging.{Judged, advance_judged, assert_judged, candidates_judged, data_judged, down_judged, frame_judged, hello_judged, igmp_accepted, igmp_judged, igmp_message_judged, ignore_if, join_prune_judged, judged, last_moment, of_read, packet_judged, pim_judged, pim_message_judged, pim_to_me_judged, refuse_if, register_judged, register_stop_judged, routes_judged, rps_judged, unicast_judged, unicast_packet_judged, up_judged, ◌>>◌}, Limits.{are_candidates, are_routes, are_rps}, State.{State, iface_count, is_up}, Step.step, Unicast.{with_candidates, with_ranges}}}
use Rattle.law_streams.{specs.Brought.{BringsPacket, InRegister, OnLink, PacketComesFromEvent}}

-- the packet of what was judged
abbrev packet_of : Judged → Option Packet
packet_of (Ok a) = packet_in (Some a)
packet_of (Err stop) = None

-- tests that were passed
after_ignoring : (b : Bool) (reason : Ignored) (next : Judged) (p : Packet)
    → packet_of (ignore_if b reason >> next) ≡ Some p → packet_of next ≡ Some p
after_ignoring b reason next p e = grind arith

after_ignoring_twice : (b c : Bool) (one two : Ignored) (next : Judged) (p : Packet)
    → packet_of (ignore_if b one >> (ignore_if c two >> next)) ≡ Some p → packet_of next ≡ Some p
after_ignoring_twice b c one two next p e = grind (arith, after_ignoring)

after_ignoring_thrice : (b c d : Bool) (one two three : Ignored) (next : Judged) (p : Packet)
    → packet_of (ignore_if b one >> (ignore_if c two >> (ignore_if d three >> next))) ≡ Some p → packet_of next ≡ Some p
after_ignoring_thrice b c d one two three next p e = grind (arith, after_ignoring_twice, after_ignoring)

after_refusing : (b : Bool) (refusal : Refusal) (next : Judged) (p : Packet)
    → packet_of (refuse_if b refusal >> next) ≡ Some p → packet_of next ≡ Some p
after_refusing b refusal next p e = grind arith

record WasRead {A : Type 0} (r : Result A Refusal) (next : A → Judged) (p : Packet) : Type 0 where
  value : A
  is : r ≡ Ok value
  goes_on : packet_of (next value) ≡ Some p

was_read : {A : Type 0} (r : Result A Refusal) (next : A → Judged) (p : Packet)
    → packet_of (of_read r next) ≡ Some p → WasRead r next p
was_read (Ok a) next p e = record { value = a; is = refl; goes_on = e }
was_read (Err refusal) next p e = cc

module _ (s : State) (p : Packet) where
  -- a message of a link brings no packet
  no_hello : (i : IfaceId) (from : ℕ) (m : PimView) → packet_of (pim_judged s i from m) ≡ Some p → ⊥
  unfolding pim_judged hello_judged join_prune_judged assert_judged
  no_hello i from m e = grind (arith, after_ignoring, after_ignoring_thrice)

  no_report : (i : IfaceId) (from : ℕ) (m : IgmpView) → packet_of (Ok (igmp_accepted i from m)) ≡ Some p → ⊥
  no_report i from m e = grind arith

  -- what is no message is the packet itself
  module _ (i : IfaceId) (q : Packet) where
    from_pim : packet_of (pim_message_judged s i q) ≡ Some p → ⊥
    unfolding pim_message_judged
    from_pim e = grind (arith, was_read, no_hello, after_ignoring)

    from_igmp : packet_of (igmp_message_judged s i q) ≡ Some p → ⊥
    unfolding igmp_message_judged igmp_judged
    from_igmp e = grind (arith, was_read, no_report, after_ignoring_twice)

    from_data : packet_of (data_judged s i q) ≡ Some p → q ≡ p
    unfolding data_judged
    from_data e = grind (arith, after_ignoring_thrice)

    from_packet : packet_of (packet_judged s i q) ≡ Some p → q ≡ p
    unfolding packet_judged
    from_packet e = go ((q.protocol == protocol_pim) && (q.destination == all_pim_routers)) (q.protocol == protocol_igmp) e
      where
        go : (b c : Bool)
            → packet_of (if b then pim_message_judged s i q
            else (if c then igmp_message_judged s i q else data_judged s i q)) ≡ Some p → q ≡ p
        go true c e = absurd (from_pim e)
        go false true e = absurd (from_igmp e)
        go false false e = from_data e

  of_link : (i : IfaceId) (bytes : List ℕ) → packet_of (frame_judged s i bytes) ≡ Some p
      → WasRead (ipv4_reading bytes) (packet_judged s i) p
  unfolding frame_judged
  of_link i bytes e = grind (arith, was_read, after_refusing)

  of_frame : (i : IfaceId) (bytes : List ℕ) → packet_of (frame_judged s i bytes) ≡ Some p → ipv4_reading bytes ≡ Ok p
  of_frame i bytes e =
      let r : WasRead (ipv4_reading bytes) (packet_judged s i) p =
      of_link i bytes e in
      r.is ∙ ap (λ (q : Packet). Ok q) (from_packet i r.value r.goes_on)

  -- inside a Register
  from_register : (q : Packet) (m : PimView) → packet_of (pim_to_me_judged s q m) ≡ Some p
      → m ≡ PimView.Register (Encapsulated p)
  unfolding pim_to_me_judged register_judged register_stop_judged
  from_register q m e = grind (arith, after_ignoring, after_ignoring_twice)

  record IsInside (bytes : List ℕ) : Type 0 where
    outer : Packet
    reads : ipv4_reading bytes ≡ Ok outer
    holds : pim_reading outer.payload ≡ Ok (PimView.Register (Encapsulated p))

  of_pim : (q : Packet) → packet_of (unicast_packet_judged s q) ≡ Some p
      → pim_reading q.payload ≡ Ok (PimView.Register (Encapsulated p))
  unfolding unicast_packet_judged
  of_pim q e = grind (arith, was_read, from_register, after_ignoring)

  of_unicast : (bytes : List ℕ) → packet_of (unicast_judged s bytes) ≡ Some p → IsInside bytes
  unfolding unicast_judged
  of_unicast bytes e = grind (arith, was_read, of_pim)

  kind_brings : (kind : EventKind) (e : Event) → e.kind ≡ kind → packet_of (judged s kind) ≡ Some p → BringsPacket e p
  unfolding judged advance_judged up_judged down_judged routes_judged rps_judged candidates_judged
  kind_brings (EventKind.Frame i bytes) e is was = OnLink i bytes is (of_frame i bytes was)
  kind_brings (EventKind.Unicast bytes) e is was =
      let inside : IsInside bytes = of_unicast bytes was in
      InRegister bytes inside.outer is inside.reads inside.holds
  kind_brings (EventKind.Advance moment) e is was = cc (after_refusing (nat_lt last_moment moment) Refusal.MomentFar (Ok (Accepted.Advance moment)) p
      (after_refusing (nat_lt moment s.present) Refusal.MomentBack
      (refuse_if (nat_lt last_moment moment) Refusal.MomentFar >> Ok (Accepted.Advance moment)) p was))
  kind_brings (EventKind.Up i) e is was =
      cc (after_ignoring (is_up s i.number) Ignored.Already (Ok (Accepted.Up i)) p
      (after_refusing (nat_le (iface_count s) i.number) Refusal.NoInterface
      (ignore_if (is_up s i.number) Ignored.Already >> Ok (Accepted.Up i)) p was))
  kind_brings (EventKind.Down i) e is was =
      cc (after_ignoring (not (is_up s i.number)) Ignored.Already (Ok (Accepted.Down i)) p
      (after_refusing (nat_le (iface_count s) i.number) Refusal.NoInterface
      (ignore_if (not (is_up s i.number)) Ignored.Already >> Ok (Accepted.Down i)) p was))
  kind_brings (EventKind.Routes routes) e is was =
      cc (after_refusing (not (are_routes s.configured routes)) Refusal.BadRoutes (Ok (Accepted.Routes routes)) p was)
  kind_brings (EventKind.Rps rps) e is was =
      cc (after_refusing (not (are_rps rps)) Refusal.BadRps (Ok (Accepted.Rps (with_ranges s.ranges rps))) p was)
  kind_brings (EventKind.RpCandidates candidates) e is was =
      cc (after_refusing (not (are_candidates candidates)) Refusal.BadCandidates
      (Ok (Accepted.Rps (with_candidates s.ranges candidates))) p was)

-- what was answered Done was judged so
judged_so : (answer : Result Verdict Refusal) (j : Judged) (p : Packet) → packet_in (if_done answer j) ≡ Some p
    → packet_of j ≡ Some p
judged_so answer j p e = grind arith

pub packet_comes_from_event : PacketComesFromEvent
unfolding done_as
packet_comes_from_event s e p was = kind_brings s p e.kind e refl (judged_so (step s e).answer (judged s e.kind) p was)
