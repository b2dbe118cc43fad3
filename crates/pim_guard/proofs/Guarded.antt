-- What the guard lets through brings no packet of IGMP or PIM.
use Rattle.std.{specs.{Prelude.{if◌then◌else◌}}, proofs.Common.{◌≡◌, ◌∙◌, ℕ, Bool, true, false, not, ◌&&◌, ◌||◌, ◌==◌, List, [], nat_le, nat_lt, length, Some, None, Result, Ok, Err, refl, sym, subst}}
use Rattle.pim_ip.{specs.{Addr.addr, Ipv4.{Packet, all_pim_routers, frame_limit, ipv4_reading, is_link_local, is_multicast, protocol_igmp, protocol_pim}, declared.{refusal.Refusal.Refusal}}}
use Rattle.igmp_wire.{specs.{Messages.igmp_reading, declared.view.IgmpView.IgmpView}}
use Rattle.pim_types.{specs.declared.{config.IfaceId.IfaceId, event.{Event.Event, EventKind.EventKind}, outcome.{Emission.Emission, Ignored.Ignored, Stop.Stop, Verdict.Verdict}}}
use Rattle.pim_wire.{specs.{Messages.pim_reading, RegisterParts.registered_group, Values.{Register, Encapsulated, Null}, declared.view.PimView.PimView}}
use Rattle.pim_model.{specs.{Cause.{done_as, if_done, packet_in}, Hellos.hello_holdtime_of, Judging.{Judged, last_moment, data_judged, frame_judged, igmp_judged, igmp_message_judged, ignore_if, judged, packet_judged, pim_judged, pim_message_judged, pim_to_me_judged, refuse_if, register_judged, register_stop_judged, unicast_judged, unicast_packet_judged, hello_judged, join_prune_judged, assert_judged, of_read, up_judged, down_judged, advance_judged, routes_judged, candidates_judged, rps_judged, ◌>>◌}, Limits.{are_candidates, are_routes, are_rps}, Neighbours.is_neighbour, State.{State, iface_count, is_own, is_up, my_address}, Step.step, Unicast.{is_rp, with_candidates, with_ranges}, declared.accepted.Accepted.Accepted}}
use Rattle.law_streams.{specs.Copies.{IsLower, happens}, proofs.Copies.ttl_falls}
use Rattle.pim_guard.{specs.{Guard.{brings_control, guarded, guarded_if, is_control, is_forwarded_pim, is_frame_stopped, is_kind_stopped, is_link_reading_stopped, is_message_stopped, is_packet_stopped, is_reading_stopped, is_unicast_stopped}, Laws.{GuardedCopiesAreData, IsOfData, WithoutGuardNothingChanges}}}

pub without_guard_nothing_changes : WithoutGuardNothingChanges
without_guard_nothing_changes e = refl

-- what is accepted brings no packet that is control
abbrev IsPlain : Judged → Type 0
IsPlain j = (a : Accepted) (q : Packet) → j ≡ Ok a → packet_in (Some a) ≡ Some q → is_control q ≡ false

-- what is accepted brings no packet
abbrev BringsNone : Judged → Type 0
BringsNone j = (a : Accepted) → j ≡ Ok a → packet_in (Some a) ≡ None

none_plain : (j : Judged) → BringsNone j → IsPlain j
none_plain j none a q is brought = let no : None ≡ Some q = sym (none a is) ∙ brought in cc

accepted_none : (b : Accepted) → packet_in (Some b) ≡ None → BringsNone (Ok b)
accepted_none b none a e = let same : b ≡ a = cc in subst (λ (x : Accepted). packet_in (Some x) ≡ None) same none

unless_ignored : (c : Bool) (reason : Ignored) (j : Judged) → BringsNone j → BringsNone (ignore_if c reason >> j)
unless_ignored true reason j none a e = cc
unless_ignored false reason j none a e = none a e

-- ---- a packet on a link

pim_none : (s : State) (i : IfaceId) (from : ℕ) (m : PimView) → BringsNone (pim_judged s i from m)
unfolding pim_judged hello_judged join_prune_judged assert_judged
pim_none s i from (PimView.Hello h) =
    unless_ignored ((hello_holdtime_of h == 0) && not (is_neighbour s i.number from)) Ignored.NoNeighbour (Ok (Accepted.Hello i (addr from) h))
    (accepted_none (Accepted.Hello i (addr from) h) refl)
pim_none s i from (PimView.JoinPrune m) =
    unless_ignored (not (is_neighbour s i.number from)) Ignored.NoNeighbour
    (Ok (if m.upstream == my_address s i.number then Accepted.JoinPruneToMe i m else Accepted.JoinPruneSeen i m))
    (to (m.upstream == my_address s i.number))
  where
    to : (c : Bool) → BringsNone (Ok (if c then Accepted.JoinPruneToMe i m else Accepted.JoinPruneSeen i m))
    to true = accepted_none (Accepted.JoinPruneToMe i m) refl
    to false = accepted_none (Accepted.JoinPruneSeen i m) refl
pim_none s i from (PimView.Assert a) =
    let told : Accepted = Accepted.Assert i (addr from) a in
    let near : Judged = ignore_if (not (is_neighbour s i.number from)) Ignored.NoNeighbour >> Ok told in
    unless_ignored (not (a.mask_length == 32)) Ignored.Mask (ignore_if (is_link_local a.group.bits) Ignored.LinkLocal >> near)
    (unless_ignored (is_link_local a.group.bits) Ignored.LinkLocal near
    (unless_ignored (not (is_neighbour s i.number from)) Ignored.NoNeighbour (Ok told) (accepted_none told refl)))
pim_none s i from (PimView.Register r) = λ a e. cc
pim_none s i from (PimView.RegisterStop r) = λ a e. cc
pim_none s i from PimView.Other = λ a e. cc

pim_message_none : (s : State) (i : IfaceId) (p : Packet) → BringsNone (pim_message_judged s i p)
unfolding pim_message_judged
pim_message_none s i p = go (pim_reading p.payload)
  where
    go : (r : Result PimView Refusal)
        → BringsNone (of_read r (λ m. ignore_if (is_own s p.source) Ignored.Own >> pim_judged s i p.source m))
    go (Ok m) = unless_ignored (is_own s p.source) Ignored.Own (pim_judged s i p.source m) (pim_none s i p.source m)
    go (Err refusal) = λ a e. cc

igmp_none : (s : State) (i : IfaceId) (p : Packet) → BringsNone (igmp_message_judged s i p)
unfolding igmp_message_judged igmp_judged
igmp_none s i p = go (igmp_reading p.payload)
  where
    from : (told : Accepted) → packet_in (Some told) ≡ None
        → BringsNone (ignore_if (is_own s p.source) Ignored.Own >> (ignore_if (not (is_multicast p.destination)) Ignored.NotForMe >> Ok told))
    from told none =
        unless_ignored (is_own s p.source) Ignored.Own (ignore_if (not (is_multicast p.destination)) Ignored.NotForMe >> Ok told)
        (unless_ignored (not (is_multicast p.destination)) Ignored.NotForMe (Ok told) (accepted_none told none))

    go : (r : Result IgmpView Refusal) → BringsNone (of_read r (igmp_judged s i p))
    go (Ok (IgmpView.Query q)) = from (Accepted.Query i (addr p.source) q) refl
    go (Ok (IgmpView.Report records)) = from (Accepted.Report i records) refl
    go (Err refusal) = λ a e. cc

not_forwarded : (pim many local : Bool) → (pim && (many && not local)) ≡ false → many ≡ true → local ≡ false → pim ≡ false
not_forwarded true true false e m l = cc
not_forwarded true true true e m l = cc
not_forwarded true false local e m l = cc
not_forwarded false many local e m l = refl

none_of : (igmp pim local : Bool) → igmp ≡ false → pim ≡ false → local ≡ false → (igmp || (pim || local)) ≡ false
none_of false false false i p l = refl
none_of true pim local i p l = cc
none_of false true local i p l = cc
none_of false false true i p l = cc

data_plain : (s : State) (i : IfaceId) (p : Packet) → (p.protocol == protocol_igmp) ≡ false → is_forwarded_pim p ≡ false
    → IsPlain (data_judged s i p)
unfolding data_judged
data_plain s i p igmp passed = go (is_own s p.source) (is_multicast p.destination) (is_link_local p.destination) refl refl
  where
    go : (own many local : Bool) → is_multicast p.destination ≡ many → is_link_local p.destination ≡ local
        → IsPlain (ignore_if own Ignored.Own >> (ignore_if (not many) Ignored.NotForMe >> (ignore_if local Ignored.LinkLocal >> Ok (Accepted.Data i p))))
    go true many local m l a q e brought = cc
    go false false local m l a q e brought = cc
    go false true true m l a q e brought = cc
    go false true false m l a q e brought =
        let same : Accepted.Data i p ≡ a = cc in
        let it : packet_in (Some (Accepted.Data i p)) ≡ Some q = subst (λ (x : Accepted). packet_in (Some x) ≡ Some q) (sym same) brought in
        let packet : p ≡ q = cc in
        subst (λ (x : Packet). is_control x ≡ false) packet
        (none_of (p.protocol == protocol_igmp) (p.protocol == protocol_pim) (is_link_local p.destination) igmp
        (not_forwarded (p.protocol == protocol_pim) (is_multicast p.destination) (is_link_local p.destination) passed m l) l)

packet_plain : (s : State) (i : IfaceId) (p : Packet) → is_forwarded_pim p ≡ false → IsPlain (packet_judged s i p)
unfolding packet_judged
packet_plain s i p passed = go ((p.protocol == protocol_pim) && (p.destination == all_pim_routers)) (p.protocol == protocol_igmp) refl
  where
    go : (pim igmp : Bool) → (p.protocol == protocol_igmp) ≡ igmp
        → IsPlain (if pim then pim_message_judged s i p else (if igmp then igmp_message_judged s i p else data_judged s i p))
    go true igmp is = none_plain (pim_message_judged s i p) (pim_message_none s i p)
    go false true is = none_plain (igmp_message_judged s i p) (igmp_none s i p)
    go false false is = data_plain s i p is passed

frame_plain : (s : State) (i : IfaceId) (b : List ℕ) → is_frame_stopped b ≡ false → IsPlain (frame_judged s i b)
unfolding frame_judged is_frame_stopped
frame_plain s i b passed =
    go (nat_le (iface_count s) i.number) (not (is_up s i.number)) (nat_lt frame_limit (length b)) (ipv4_reading b) passed
  where
    go : (c d e : Bool) (r : Result Packet Refusal) → is_link_reading_stopped r ≡ false
        → IsPlain (refuse_if c Refusal.NoInterface >> (refuse_if d Refusal.InterfaceDown >> (refuse_if e Refusal.BadLength >> of_read r (packet_judged s i))))
    go true d e r passed a q is brought = cc
    go false true e r passed a q is brought = cc
    go false false true r passed a q is brought = cc
    go false false false (Err refusal) passed a q is brought = cc
    go false false false (Ok p) passed a q is brought = packet_plain s i p passed a q is brought

-- ---- a packet by unicast

register_plain : (p : Packet) (r : Register) → brings_control r ≡ false → IsPlain (register_judged p r)
unfolding register_judged
register_plain p r passed = go (is_link_local (registered_group r)) r passed
  where
    go : (local : Bool) (r : Register) → brings_control r ≡ false
        → IsPlain (ignore_if local Ignored.LinkLocal >> Ok (Accepted.Register p r))
    go true r passed a q e brought = cc
    go false (Null source group) passed a q e brought =
        let same : Accepted.Register p (Null source group) ≡ a = cc in
        let it : packet_in (Some (Accepted.Register p (Null source group))) ≡ Some q = subst (λ (x : Accepted). packet_in (Some x) ≡ Some q) (sym same) brought in cc
    go false (Encapsulated inner) passed a q e brought =
        let same : Accepted.Register p (Encapsulated inner) ≡ a = cc in
        let it : packet_in (Some (Accepted.Register p (Encapsulated inner))) ≡ Some q = subst (λ (x : Accepted). packet_in (Some x) ≡ Some q) (sym same) brought in
        let packet : inner ≡ q = cc in
        subst (λ (x : Packet). is_control x ≡ false) packet passed

stop_none : (s : State) (p : Packet) (m : PimView) → is_message_stopped (Ok m) ≡ false → IsPlain (pim_to_me_judged s p m)
unfolding pim_to_me_judged register_stop_judged
stop_none s p (PimView.Register r) passed = register_plain p r passed
stop_none s p (PimView.RegisterStop r) passed =
    let told : Accepted = Accepted.RegisterStop (addr p.source) r in
    let from : Judged = ignore_if (not (is_rp s r.group.bits p.source)) Ignored.NotRp >> Ok told in
    none_plain (ignore_if (not (r.mask_length == 32)) Ignored.Mask >> from)
    (unless_ignored (not (r.mask_length == 32)) Ignored.Mask from
    (unless_ignored (not (is_rp s r.group.bits p.source)) Ignored.NotRp (Ok told) (accepted_none told refl)))
stop_none s p (PimView.Hello h) passed = λ a q e brought. cc
stop_none s p (PimView.JoinPrune m) passed = λ a q e brought. cc
stop_none s p (PimView.Assert x) passed = λ a q e brought. cc
stop_none s p PimView.Other passed = λ a q e brought. cc

unless_ignored_plain : (c : Bool) (reason : Ignored) (j : Judged) → IsPlain j → IsPlain (ignore_if c reason >> j)
unless_ignored_plain true reason j plain a q e brought = cc
unless_ignored_plain false reason j plain a q e brought = plain a q e brought

unicast_packet_plain : (s : State) (p : Packet) → is_packet_stopped p ≡ false → IsPlain (unicast_packet_judged s p)
unfolding unicast_packet_judged is_packet_stopped
unicast_packet_plain s p passed = go (p.protocol == protocol_pim) (pim_reading p.payload) passed
  where
    go : (pim : Bool) (r : Result PimView Refusal) → (if pim then is_message_stopped r else false) ≡ false
        → IsPlain (if pim then of_read r (λ m. ignore_if (not (is_own s p.destination)) Ignored.NotForMe >> pim_to_me_judged s p m) else Err (Stop.Ignore Ignored.NotForMe))
    go false r passed a q e brought = cc
    go true (Err refusal) passed a q e brought = cc
    go true (Ok m) passed a q e brought = unless_ignored_plain (not (is_own s p.destination)) Ignored.NotForMe (pim_to_me_judged s p m) (stop_none s p m passed) a q e brought

unicast_plain : (s : State) (b : List ℕ) → is_unicast_stopped b ≡ false → IsPlain (unicast_judged s b)
unfolding unicast_judged is_unicast_stopped
unicast_plain s b passed = go (ipv4_reading b) passed
  where
    go : (r : Result Packet Refusal) → is_reading_stopped r ≡ false → IsPlain (of_read r (unicast_packet_judged s))
    go (Ok p) passed a q e brought = unicast_packet_plain s p passed a q e brought
    go (Err refusal) passed a q e brought = cc

-- ---- any event

-- what was accepted of events that bring no packet
module _ (s : State) where
  unless_refused : (c : Bool) (refusal : Refusal) (j : Judged) → BringsNone j → BringsNone (refuse_if c refusal >> j)
  unless_refused true refusal j none a e = cc
  unless_refused false refusal j none a e = none a e

  configured : (i : IfaceId) (already : Bool) (told : Accepted) → packet_in (Some told) ≡ None
      → IsPlain (refuse_if (nat_le (iface_count s) i.number) Refusal.NoInterface >> (ignore_if already Ignored.Already >> Ok told))
  configured i already told none =
      none_plain (refuse_if (nat_le (iface_count s) i.number) Refusal.NoInterface >> (ignore_if already Ignored.Already >> Ok told))
      (unless_refused (nat_le (iface_count s) i.number) Refusal.NoInterface (ignore_if already Ignored.Already >> Ok told)
      (unless_ignored already Ignored.Already (Ok told) (accepted_none told none)))

  kind_plain : (kind : EventKind) → is_kind_stopped kind ≡ false → IsPlain (judged s kind)
  unfolding judged advance_judged up_judged down_judged routes_judged rps_judged candidates_judged
  kind_plain (EventKind.Frame i b) passed = frame_plain s i b passed
  kind_plain (EventKind.Unicast b) passed = unicast_plain s b passed
  kind_plain (EventKind.Advance moment) passed =
      let told : Accepted = Accepted.Advance moment in
      let late : Judged = refuse_if (nat_lt last_moment moment) Refusal.MomentFar >> Ok told in
      none_plain (refuse_if (nat_lt moment s.present) Refusal.MomentBack >> late)
      (unless_refused (nat_lt moment s.present) Refusal.MomentBack late
      (unless_refused (nat_lt last_moment moment) Refusal.MomentFar (Ok told) (accepted_none told refl)))
  kind_plain (EventKind.Up i) passed =
      configured i (is_up s i.number) (Accepted.Up i) refl
  kind_plain (EventKind.Down i) passed =
      configured i (not (is_up s i.number)) (Accepted.Down i) refl
  kind_plain (EventKind.Routes routes) passed =
      let told : Accepted = Accepted.Routes routes in
      none_plain (refuse_if (not (are_routes s.configured routes)) Refusal.BadRoutes >> Ok told)
      (unless_refused (not (are_routes s.configured routes)) Refusal.BadRoutes (Ok told) (accepted_none told refl))
  kind_plain (EventKind.Rps rps) passed =
      let told : Accepted = Accepted.Rps (with_ranges s.ranges rps) in
      none_plain (refuse_if (not (are_rps rps)) Refusal.BadRps >> Ok told)
      (unless_refused (not (are_rps rps)) Refusal.BadRps (Ok told) (accepted_none told refl))
  kind_plain (EventKind.RpCandidates candidates) passed =
      let told : Accepted = Accepted.Rps (with_candidates s.ranges candidates) in
      none_plain (refuse_if (not (are_candidates candidates)) Refusal.BadCandidates >> Ok told)
      (unless_refused (not (are_candidates candidates)) Refusal.BadCandidates (Ok told) (accepted_none told refl))

done_plain : (answer : Result Verdict Refusal) (j : Judged) (q : Packet) → IsPlain j → packet_in (if_done answer j) ≡ Some q → is_control q ≡ false
done_plain (Ok Verdict.Done) (Ok a) q plain brought = plain a q refl brought
done_plain (Ok Verdict.Done) (Err stop) q plain brought = cc
done_plain (Ok (Verdict.Ignored reason)) j q plain brought = cc
done_plain (Err refusal) j q plain brought = cc

empty_passes : is_unicast_stopped [] ≡ false
unfolding is_unicast_stopped ipv4_reading
empty_passes = refl

pub guarded_passes : (stopped : Bool) (e : Event) → is_kind_stopped e.kind ≡ stopped → is_kind_stopped (guarded_if stopped e).kind ≡ false
guarded_passes true e is = empty_passes
guarded_passes false e is = is

brought_plain : (s : State) (e : Event) (q : Packet) → is_kind_stopped e.kind ≡ false → packet_in (done_as (happens s e)) ≡ Some q
    → is_control q ≡ false
unfolding done_as
brought_plain s e q passed brought = done_plain (step s e).answer (judged s e.kind) q (kind_plain s e.kind passed) brought

of_data : (s : State) (e : Event) (x : Emission) → is_kind_stopped e.kind ≡ false → IsLower s e x → IsOfData s e x
of_data s e x passed lower = record {
  link = lower.link;
  packet = lower.packet;
  brought = lower.brought;
  is = lower.is;
  plain = brought_plain s e lower.packet passed lower.brought;
}

pub guarded_copies_are_data : GuardedCopiesAreData
guarded_copies_are_data s e =
    let passed : is_kind_stopped (guarded true e).kind ≡ false = guarded_passes (is_kind_stopped e.kind) e refl in
    λ k d h. of_data s (guarded true e) _ passed (ttl_falls s (guarded true e) k d h)
