-- A packet of data comes by a frame, which has passed the tests of a plane.
use Rattle.std.{proofs.Common.{◌≡◌, ℕ, Bool, true, false, not, cond, ◌==◌, List, length, Result, Ok, Err, refl, subst, arith}, specs.Prelude.{nat_le, nat_lt}}
use Rattle.pim_ip.{specs.{Addr.addr, Ipv4.{Packet, frame_limit, ipv4_reading, is_link_local}, declared.refusal.Refusal.Refusal}}
use Rattle.pim_types.{specs.declared.{config.IfaceId.IfaceId, event.EventKind.EventKind, outcome.Ignored.Ignored}}
use Rattle.pim_wire.{specs.{RegisterParts.registered_group, declared.view.PimView.PimView}}
use Rattle.igmp_wire.{specs.declared.view.IgmpView.IgmpView}
use Rattle.pim_model.{specs.{declared.accepted.Accepted.Accepted, Judging.{Judged, advance_judged, assert_judged, candidates_judged, data_judged, down_judged, frame_judged, hello_judged, igmp_accepted, igmp_judged, igmp_message_judged, ignore_if, join_prune_judged, judged, of_read, packet_judged, pim_judged, pim_message_judged, pim_to_me_judged, refuse_if, register_judged, register_stop_judged, routes_judged, rps_judged, unicast_judged, unicast_packet_judged, up_judged, ◌>>◌}, State.{State, iface_count, is_up}, Unicast.is_rp}}
use Rattle.law_plane.{specs.OffloadLaws.IsData}

abbrev Says : (Accepted → Type 0) → Judged → Type 0
Says P (Ok a) = P a
Says P (Err stop) = Unit {0}

record FitsTo (P : Accepted → Type 0) (j : Judged) : Type 0 where
  says : Says P j

module _ {P : Accepted → Type 0} where
  ignoring : (b : Bool) (reason : Ignored) (next : Judged) → (b ≡ false → FitsTo P next) → FitsTo P (ignore_if b reason >> next)
  ignoring b reason next f = grind arith

  refusing : (b : Bool) (refusal : Refusal) (next : Judged) → (b ≡ false → FitsTo P next)
      → FitsTo P (refuse_if b refusal >> next)
  refusing b refusal next f = grind arith

  reading : {A : Type 0} (r : Result A Refusal) (next : A → Judged) → ((a : A) → r ≡ Ok a → FitsTo P (next a))
      → FitsTo P (of_read r next)
  reading (Ok a) next f = f a refl
  reading (Err refusal) next f = record { says = tt }

  choosing : (b : Bool) (x y : Judged) → FitsTo P x → (b ≡ false → FitsTo P y) → FitsTo P (cond b x y)
  choosing b x y f g = grind arith

pub record ByFrame (s : State) (kind : EventKind) (i : IfaceId) (p : Packet) : Type 0 where
  pub bytes : List ℕ
  pub kind_is : kind ≡ EventKind.Frame i bytes
  pub data_is : IsData s i bytes p

not_false : (b : Bool) → not b ≡ false → b ≡ true
not_false b e = grind arith

module _ (s : State) where
  abbrev Came : EventKind → Accepted → Type 0
  Came kind (Accepted.Data i p) = ByFrame s kind i p
  Came kind a = Unit {0}

  module _ (i : IfaceId) (bytes : List ℕ) where
    abbrev Fits : Judged → Type 0
    Fits = FitsTo (Came (EventKind.Frame i bytes))

    pim : (from : ℕ) (v : PimView) → Fits (pim_judged s i from v)
    unfolding pim_judged hello_judged join_prune_judged assert_judged
    pim from v = grind (arith, ignoring)

    igmp : (p : Packet) (m : IgmpView) → Fits (Ok (igmp_accepted i p.source m))
    igmp p m = grind arith

    module _ (there : nat_le (iface_count s) i.number ≡ false) (up : is_up s i.number ≡ true)
        (short : nat_lt frame_limit (length bytes) ≡ false) where
      packet : (p : Packet) → ipv4_reading bytes ≡ Ok p → Fits (packet_judged s i p)
      unfolding packet_judged pim_message_judged igmp_message_judged igmp_judged data_judged
      packet p read = grind (arith, choosing, reading, ignoring, pim, igmp, not_false)

    frame : Fits (frame_judged s i bytes)
    unfolding frame_judged
    frame = grind (arith, refusing, reading, packet, not_false)

  module _ (bytes : List ℕ) where
    abbrev FitsUnicast : Judged → Type 0
    FitsUnicast = FitsTo (Came (EventKind.Unicast bytes))

    to_me : (p : Packet) (v : PimView) → FitsUnicast (pim_to_me_judged s p v)
    unfolding pim_to_me_judged register_judged register_stop_judged
    to_me p (PimView.Register r) =
        ignoring (is_link_local (registered_group r)) Ignored.LinkLocal (Ok (Accepted.Register p r))
        (λ _. record { says = tt })
    to_me p (PimView.RegisterStop r) =
        ignoring (not (r.mask_length == 32)) Ignored.Mask _
        (λ _. ignoring (not (is_rp s r.group.bits p.source)) Ignored.NotRp (Ok (Accepted.RegisterStop (addr p.source) r))
        (λ _. record { says = tt }))
    to_me p (PimView.Hello h) = record { says = tt }
    to_me p (PimView.JoinPrune m) = record { says = tt }
    to_me p (PimView.Assert a) = record { says = tt }
    to_me p PimView.Other = record { says = tt }

    unicast : FitsUnicast (unicast_judged s bytes)
    unfolding unicast_judged unicast_packet_judged
    unicast = grind (arith, reading, choosing, ignoring, to_me)

  any : (kind : EventKind) → FitsTo (Came kind) (judged s kind)
  unfolding judged up_judged down_judged advance_judged routes_judged rps_judged candidates_judged
  any kind = grind (arith, refusing, frame, unicast, ignoring)

  pub by_frame : (kind : EventKind) (i : IfaceId) (p : Packet) → judged s kind ≡ Ok (Accepted.Data i p) → ByFrame s kind i p
  by_frame kind i p e = subst (λ (j : Judged). Says (Came kind) j) e (any kind).says
