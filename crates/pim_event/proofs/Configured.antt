-- Where what is accepted is about an interface, that is one of the router's; where it is about a moment, that is one
-- that an event may have; and routes, RP ranges and candidates are those of the event.
use Rattle.std.{proofs.{Common.{◌≡◌, ◌<◌, ◌≤◌, ℕ, Bool, Box, Global, Option, true, false, not, nat_le, nat_lt, Ok, Err, List, length, arith, refl, subst, sym, ◌∙◌, ◌==◌, ◌&&◌}, lemmas.Bool.Decides.nat_tests}, specs.Prelude.if◌then◌else◌}
use Rattle.pim_ip.{specs.{Addr.addr, Ipv4.{Packet, all_pim_routers, frame_limit, ipv4_reading, is_link_local, is_multicast, protocol_igmp, protocol_pim}, declared.refusal.Refusal.Refusal}}
use Rattle.pim_types.{specs.declared.{config.IfaceId.IfaceId, event.EventKind.EventKind, outcome.{Ignored.Ignored, Stop.Stop}}}
use Rattle.pim_wire.{specs.{Messages.pim_reading, RegisterParts.registered_group, Values.JoinPrune, declared.view.PimView.PimView}}
use Rattle.igmp_wire.{specs.{Messages.igmp_reading, declared.view.IgmpView.IgmpView}}
use Rattle.pim_model.{specs.{declared.accepted.Accepted.Accepted, Hellos.hello_holdtime_of, Judging.{Judged, advance_judged, assert_judged, candidates_judged, data_judged, down_judged, frame_judged, hello_judged, igmp_accepted, igmp_judged, igmp_message_judged, ignore_if, join_prune_judged, judged, last_moment, of_read, packet_judged, pim_judged, pim_message_judged, pim_to_me_judged, refuse_if, register_judged, register_stop_judged, routes_judged, rps_judged, unicast_judged, unicast_packet_judged, up_judged, ◌>>◌}, Limits.{are_routes, are_rps, are_candidates}, Neighbours.is_neighbour, State.{InterfaceTable, State, iface_count, interfaces_of, is_own, is_up, my_address}, Unicast.{is_rp, with_candidates, with_ranges}}}
use Rattle.pim_mrib.{specs.Routes.RouteTable}
use Rattle.pim_intake.{specs.Brought.IsTableOf}
use Rattle.pim_plan.{specs.Naming.{Brings, IsConfigured}}
use Rattle.pim_event.{proofs.Judgements.{FitsTo, Says, choosing, ignoring, reading, refusing, three, two}}

below : (i n : ℕ) → nat_le n i ≡ false → i < n
below i n e = grind (arith, nat_tests, e)

within : (m n : ℕ) → nat_lt n m ≡ false → m ≤ n
within m n e = grind (arith, nat_tests, e)

-- the event brings the routes that are accepted, or its table has the RP ranges and candidates that are
abbrev IsBroughtBy : State → EventKind → Accepted → Type 0
IsBroughtBy s kind (Accepted.Routes routes) = kind ≡ EventKind.Routes routes
IsBroughtBy s kind (Accepted.Rps ranges) =
    (table : Option (Box RouteTable Global)) → IsTableOf s kind table → Brings (Accepted.Rps ranges) table
IsBroughtBy s kind _ = Unit {0}

module _ (s : State) (whole : EventKind) where
  abbrev Fits : Judged → Type 0
  Fits = FitsTo (λ a. IsConfigured s a × IsBroughtBy s whole a)

  -- ---- a frame on an interface of the router

  module _ (i : IfaceId) (known : i.number < iface_count s) where
    join_prune : (m : JoinPrune) (b : Bool)
        → Fits (Ok (if b then Accepted.JoinPruneToMe i m else Accepted.JoinPruneSeen i m))
    join_prune m true = record { says = (known, tt) }
    join_prune m false = record { says = (known, tt) }

    pim : (from : ℕ) (v : PimView) → Fits (pim_judged s i from v)
    unfolding pim_judged hello_judged join_prune_judged assert_judged
    pim from (PimView.Hello h) =
        ignoring ((hello_holdtime_of h == 0) && not (is_neighbour s i.number from)) Ignored.NoNeighbour
        (Ok (Accepted.Hello i (addr from) h)) (record { says = (known, tt) })
    pim from (PimView.JoinPrune m) =
        ignoring (not (is_neighbour s i.number from)) Ignored.NoNeighbour _
        (join_prune m (m.upstream == my_address s i.number))
    pim from (PimView.Assert a) =
        three (not (a.mask_length == 32)) (is_link_local a.group.bits) (not (is_neighbour s i.number from))
        Ignored.Mask Ignored.LinkLocal Ignored.NoNeighbour (Ok (Accepted.Assert i (addr from) a))
        (record { says = (known, tt) })
    pim from PimView.Other = record { says = tt }
    pim from (PimView.Register r) = record { says = tt }
    pim from (PimView.RegisterStop r) = record { says = tt }

    igmp : (from : ℕ) (v : IgmpView) → Fits (Ok (igmp_accepted i from v))
    igmp from (IgmpView.Query q) = record { says = (known, tt) }
    igmp from (IgmpView.Report records) = record { says = (known, tt) }

    of_data : (p : Packet) → Fits (data_judged s i p)
    unfolding data_judged
    of_data p =
        three (is_own s p.source) (not (is_multicast p.destination)) (is_link_local p.destination)
        Ignored.Own Ignored.NotForMe Ignored.LinkLocal (Ok (Accepted.Data i p)) (record { says = (known, tt) })

    packet : (p : Packet) → Fits (packet_judged s i p)
    unfolding packet_judged pim_message_judged igmp_message_judged igmp_judged
    packet p =
        choosing ((p.protocol == protocol_pim) && (p.destination == all_pim_routers)) (pim_message_judged s i p) _
        (reading (pim_reading p.payload) (λ m. ignore_if (is_own s p.source) Ignored.Own >> pim_judged s i p.source m)
        (λ m. ignoring (is_own s p.source) Ignored.Own (pim_judged s i p.source m) (pim p.source m)))
        (choosing (p.protocol == protocol_igmp) (igmp_message_judged s i p) (data_judged s i p)
        (reading (igmp_reading p.payload) (igmp_judged s i p)
        (λ m. two (is_own s p.source) (not (is_multicast p.destination)) Ignored.Own Ignored.NotForMe
        (Ok (igmp_accepted i p.source m)) (igmp p.source m)))
        (of_data p))

  frame : (i : IfaceId) (bytes : List ℕ) → Fits (frame_judged s i bytes)
  unfolding frame_judged
  frame i bytes =
      let read : Judged = of_read (ipv4_reading bytes) (packet_judged s i) in
      let short : Judged = refuse_if (nat_lt frame_limit (length bytes)) Refusal.BadLength >> read in
      let up : Judged = refuse_if (not (is_up s i.number)) Refusal.InterfaceDown >> short in
      refusing (nat_le (iface_count s) i.number) Refusal.NoInterface up
      (λ e. refusing (not (is_up s i.number)) Refusal.InterfaceDown short
      (λ _. refusing (nat_lt frame_limit (length bytes)) Refusal.BadLength read
      (λ _. reading (ipv4_reading bytes) (packet_judged s i) (packet i (below i.number (iface_count s) e)))))

  -- ---- other events

  to_me : (p : Packet) (v : PimView) → Fits (pim_to_me_judged s p v)
  unfolding pim_to_me_judged register_judged register_stop_judged
  to_me p (PimView.Register r) =
      ignoring (is_link_local (registered_group r)) Ignored.LinkLocal (Ok (Accepted.Register p r))
      (record { says = (tt, tt) })
  to_me p (PimView.RegisterStop r) =
      two (not (r.mask_length == 32)) (not (is_rp s r.group.bits p.source)) Ignored.Mask Ignored.NotRp
      (Ok (Accepted.RegisterStop (addr p.source) r)) (record { says = (tt, tt) })
  to_me p (PimView.Hello h) = record { says = tt }
  to_me p (PimView.JoinPrune m) = record { says = tt }
  to_me p (PimView.Assert a) = record { says = tt }
  to_me p PimView.Other = record { says = tt }

  unicast : (bytes : List ℕ) → Fits (unicast_judged s bytes)
  unfolding unicast_judged unicast_packet_judged
  unicast bytes =
      reading (ipv4_reading bytes) (unicast_packet_judged s)
      (λ p. choosing (p.protocol == protocol_pim) _ (Err (Stop.Ignore Ignored.NotForMe))
      (reading (pim_reading p.payload)
      (λ m. ignore_if (not (is_own s p.destination)) Ignored.NotForMe >> pim_to_me_judged s p m)
      (λ m. ignoring (not (is_own s p.destination)) Ignored.NotForMe (pim_to_me_judged s p m) (to_me p m)))
      (record { says = tt }))

-- ---- any event

module _ (s : State) where
  any : (kind : EventKind) → Fits s kind (judged s kind)
  unfolding judged up_judged down_judged advance_judged routes_judged rps_judged candidates_judged
  any (EventKind.Advance moment) =
      refusing (nat_lt moment s.present) Refusal.MomentBack
      (refuse_if (nat_lt last_moment moment) Refusal.MomentFar >> Ok (Accepted.Advance moment))
      (λ _. refusing (nat_lt last_moment moment) Refusal.MomentFar (Ok (Accepted.Advance moment))
      (λ e. record { says = (within moment last_moment e, tt) }))
  any (EventKind.Frame i bytes) = frame s (EventKind.Frame i bytes) i bytes
  any (EventKind.Unicast bytes) = unicast s (EventKind.Unicast bytes) bytes
  any (EventKind.Up i) =
      refusing (nat_le (iface_count s) i.number) Refusal.NoInterface _
      (λ e. ignoring (is_up s i.number) Ignored.Already (Ok (Accepted.Up i))
      (record { says = (below i.number (iface_count s) e, tt) }))
  any (EventKind.Down i) =
      refusing (nat_le (iface_count s) i.number) Refusal.NoInterface _
      (λ e. ignoring (not (is_up s i.number)) Ignored.Already (Ok (Accepted.Down i))
      (record { says = (below i.number (iface_count s) e, tt) }))
  any (EventKind.Routes routes) =
      refusing (not (are_routes s.configured routes)) Refusal.BadRoutes (Ok (Accepted.Routes routes))
      (λ e. record { says = (tt, refl) })
  any (EventKind.Rps ranges) =
      refusing (not (are_rps ranges)) Refusal.BadRps (Ok (Accepted.Rps (with_ranges s.ranges ranges)))
      (λ e. record { says = (tt, λ table of. of) })
  any (EventKind.RpCandidates candidates) =
      refusing (not (are_candidates candidates)) Refusal.BadCandidates
      (Ok (Accepted.Rps (with_candidates s.ranges candidates)))
      (λ e. record { says = (tt, λ table of. of) })

  accepted_of : (kind : EventKind) (j : Judged) (a : Accepted) → j ≡ judged s kind → j ≡ Ok a
      → IsConfigured s a × IsBroughtBy s kind a
  accepted_of kind j a e f =
      subst (λ (x : Judged). Says (λ a. IsConfigured s a × IsBroughtBy s kind a) x) (sym e ∙ f) (any kind).says

  pub configured : (kind : EventKind) (j : Judged) (a : Accepted) → j ≡ judged s kind → j ≡ Ok a → IsConfigured s a
  configured kind j a e f = (accepted_of kind j a e f).0

  of_event : (kind : EventKind) (a : Accepted) (table : Option (Box RouteTable Global)) → IsBroughtBy s kind a → IsTableOf s kind table
      → Brings a table
  of_event kind (Accepted.Routes routes) table is of = subst (λ (k : EventKind). IsTableOf s k table) is of
  of_event kind (Accepted.Rps ranges) table is of = is table of
  of_event kind a table is of = tt

  pub brings : (kind : EventKind) (a : Accepted) (table : Option (Box RouteTable Global)) → judged s kind ≡ Ok a → IsTableOf s kind table
      → Brings a table
  brings kind a table heard of = of_event kind a table (accepted_of kind (judged s kind) a refl heard).1 of

  pub data_below : (kind : EventKind) (i : IfaceId) (p : Packet) → judged s kind ≡ Ok (Accepted.Data i p)
      → (lent : InterfaceTable) → lent ≡ interfaces_of s → length lent.configured.interfaces ≤ 120 → i.number < 120
  data_below kind i p heard lent lends few =
      let below : i.number < iface_count s = configured kind (judged s kind) (Accepted.Data i p) refl heard in
      let within : length s.configured.interfaces ≤ 120 = subst (λ (x : InterfaceTable). length x.configured.interfaces ≤ 120) lends few in
      omega (arith, below, within)
