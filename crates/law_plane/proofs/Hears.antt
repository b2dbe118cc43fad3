-- What an event brings doesn't depend on the ends of keepalive timers, nor on the present.
use Rattle.std.{proofs.Common.{◌≡◌, ℕ, Bool, List, Ok, arith}}
use Rattle.pim_ip.{specs.{Ipv4.Packet, declared.refusal.Refusal.Refusal}}
use Rattle.pim_types.{specs.declared.{config.IfaceId.IfaceId, event.EventKind.EventKind}}
use Rattle.pim_wire.{specs.declared.view.PimView.PimView}
use Rattle.pim_model.{specs.{declared.accepted.Accepted.Accepted, Judging.{advance_judged, assert_judged, candidates_judged, data_judged, down_judged, frame_judged, hello_judged, igmp_judged, igmp_message_judged, join_prune_judged, judged, packet_judged, pim_judged, pim_message_judged, pim_to_me_judged, refuse_if, register_stop_judged, routes_judged, rps_judged, unicast_judged, unicast_packet_judged, up_judged, ◌>>◌}, State.State, Unicast.rp_of}}
use Rattle.law_plane.{proofs.Ends.{Ends, with_ends}}

module _ (f : Ends) (s : State) (m : ℕ) where
  abbrev now : State
  now = with_ends f s m

  pim_alike : (i : IfaceId) (from : ℕ) (v : PimView) → pim_judged now i from v ≡ pim_judged s i from v
  unfolding pim_judged hello_judged join_prune_judged assert_judged
  pim_alike i from v = grind arith

  message_alike : (i : IfaceId) (p : Packet) → pim_message_judged now i p ≡ pim_message_judged s i p
  unfolding pim_message_judged
  message_alike i p = grind (arith, pim_alike)

  packet_alike : (i : IfaceId) (p : Packet) → packet_judged now i p ≡ packet_judged s i p
  unfolding packet_judged igmp_message_judged igmp_judged data_judged
  packet_alike i p = grind (arith, message_alike)

  frame_alike : (i : IfaceId) (bytes : List ℕ) → frame_judged now i bytes ≡ frame_judged s i bytes
  unfolding frame_judged
  frame_alike i bytes = grind (arith, packet_alike)

  to_me_alike : (p : Packet) (v : PimView) → pim_to_me_judged now p v ≡ pim_to_me_judged s p v
  unfolding pim_to_me_judged register_stop_judged rp_of
  to_me_alike p v = grind arith

  unicast_alike : (bytes : List ℕ) → unicast_judged now bytes ≡ unicast_judged s bytes
  unfolding unicast_judged unicast_packet_judged
  unicast_alike bytes = grind (arith, to_me_alike)

  no_data : (moment : ℕ) (i : IfaceId) (p : Packet) (b c : Bool)
      → (refuse_if b Refusal.MomentBack >> refuse_if c Refusal.MomentFar >> Ok (Accepted.Advance moment))
      ≡ Ok (Accepted.Data i p) → ⊥
  no_data moment i p b c e = grind arith

  -- a data packet is one whatever the timers
  pub data_alike : (kind : EventKind) (i : IfaceId) (p : Packet) → judged s kind ≡ Ok (Accepted.Data i p)
      → judged now kind ≡ Ok (Accepted.Data i p)
  unfolding judged advance_judged up_judged down_judged routes_judged rps_judged candidates_judged
  data_alike kind i p e = grind (arith, no_data, frame_alike, unicast_alike)
