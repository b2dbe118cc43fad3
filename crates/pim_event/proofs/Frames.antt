-- A packet of data comes on a link alone.
use Rattle.std.{proofs.Common.{◌≡◌, ℕ, Bool, true, false, not, ◌==◌, List, Ok, Err, refl, subst}, specs.Prelude.{nat_le, nat_lt}}
use Rattle.pim_ip.{specs.{Addr.addr, Ipv4.{Packet, ipv4_reading, is_link_local, protocol_pim}, declared.refusal.Refusal.Refusal}}
use Rattle.pim_types.{specs.declared.{config.IfaceId.IfaceId, event.EventKind.EventKind, outcome.{Ignored.Ignored, Stop.Stop}}}
use Rattle.pim_wire.{specs.{Messages.pim_reading, RegisterParts.registered_group, declared.view.PimView.PimView}}
use Rattle.pim_model.{specs.{declared.accepted.Accepted.Accepted, Judging.{Judged, advance_judged, down_judged, ignore_if, judged, last_moment, pim_to_me_judged, refuse_if, register_judged, register_stop_judged, routes_judged, candidates_judged, rps_judged, unicast_judged, unicast_packet_judged, up_judged, ◌>>◌}, Limits.{are_routes, are_rps, are_candidates}, State.{State, iface_count, is_own, is_up}, Unicast.{is_rp, with_candidates, with_ranges}}}
use Rattle.pim_intake.{specs.Memory.is_frame}
use Rattle.pim_event.{proofs.Judgements.{FitsTo, Says, choosing, ignoring, reading, refusing, two}}

abbrev IsntData : Accepted → Type 0
IsntData (Accepted.Data i p) = ⊥
IsntData a = Unit {0}

module _ (s : State) where
  abbrev Fits : Judged → Type 0
  Fits = FitsTo IsntData

  to_me : (p : Packet) (v : PimView) → Fits (pim_to_me_judged s p v)
  unfolding pim_to_me_judged register_judged register_stop_judged
  to_me p (PimView.Register r) =
      ignoring (is_link_local (registered_group r)) Ignored.LinkLocal (Ok (Accepted.Register p r))
      (record { says = tt })
  to_me p (PimView.RegisterStop r) =
      two (not (r.mask_length == 32)) (not (is_rp s r.group.bits p.source)) Ignored.Mask Ignored.NotRp
      (Ok (Accepted.RegisterStop (addr p.source) r)) (record { says = tt })
  to_me p (PimView.Hello h) = record { says = tt }
  to_me p (PimView.JoinPrune m) = record { says = tt }
  to_me p (PimView.Assert a) = record { says = tt }
  to_me p PimView.Other = record { says = tt }

  unicast : (bytes : List ℕ) → Fits (unicast_judged s bytes)
  unfolding unicast_judged unicast_packet_judged
  unicast bytes =
      reading (ipv4_reading bytes) (unicast_packet_judged s)
      (λ p. choosing (p.protocol == protocol_pim) _ (Err (Stop.Ignore Ignored.NotForMe))
      (reading (pim_reading p.payload)
      (λ m. ignore_if (not (is_own s p.destination)) Ignored.NotForMe >> pim_to_me_judged s p m)
      (λ m. ignoring (not (is_own s p.destination)) Ignored.NotForMe (pim_to_me_judged s p m) (to_me p m)))
      (record { says = tt }))

  other : (kind : EventKind) → is_frame kind ≡ false → Fits (judged s kind)
  unfolding judged up_judged down_judged advance_judged routes_judged rps_judged candidates_judged
  other (EventKind.Advance moment) e =
      refusing (nat_lt moment s.present) Refusal.MomentBack
      (refuse_if (nat_lt last_moment moment) Refusal.MomentFar >> Ok (Accepted.Advance moment))
      (λ _. refusing (nat_lt last_moment moment) Refusal.MomentFar (Ok (Accepted.Advance moment))
      (λ _. record { says = tt }))
  other (EventKind.Frame i bytes) e = cc
  other (EventKind.Unicast bytes) e = unicast bytes
  other (EventKind.Up i) e =
      refusing (nat_le (iface_count s) i.number) Refusal.NoInterface _
      (λ _. ignoring (is_up s i.number) Ignored.Already (Ok (Accepted.Up i)) (record { says = tt }))
  other (EventKind.Down i) e =
      refusing (nat_le (iface_count s) i.number) Refusal.NoInterface _
      (λ _. ignoring (not (is_up s i.number)) Ignored.Already (Ok (Accepted.Down i)) (record { says = tt }))
  other (EventKind.Routes routes) e =
      refusing (not (are_routes s.configured routes)) Refusal.BadRoutes (Ok (Accepted.Routes routes))
      (λ _. record { says = tt })
  other (EventKind.Rps ranges) e =
      refusing (not (are_rps ranges)) Refusal.BadRps (Ok (Accepted.Rps (with_ranges s.ranges ranges)))
      (λ _. record { says = tt })
  other (EventKind.RpCandidates candidates) e =
      refusing (not (are_candidates candidates)) Refusal.BadCandidates
      (Ok (Accepted.Rps (with_candidates s.ranges candidates))) (λ _. record { says = tt })

  pub data_is_frame : (kind : EventKind) (i : IfaceId) (p : Packet) → judged s kind ≡ Ok (Accepted.Data i p)
      → is_frame kind ≡ true
  data_is_frame kind i p e = go (is_frame kind) refl
    where
      go : (b : Bool) → is_frame kind ≡ b → b ≡ true
      go true is = refl
      go false is = absurd (subst (λ (x : Judged). Says IsntData x) e (other kind is).says)
