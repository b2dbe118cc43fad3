-- A Hello that is accepted announces an override interval of two bytes, and so override timers end soon.
use Rattle.std.{proofs.Common.{arith, ◌≡◌, ℕ, ◌<◌, nat_lt, Bool, true, false, cond, List, Ok, Err, Result, ltb-true}, specs.List.list_all}
use Rattle.pim_ip.{specs.{Ipv4.{Packet, ipv4_reading}, declared.refusal.Refusal.Refusal}}
use Rattle.pim_types.{specs.declared.{config.IfaceId.IfaceId, event.EventKind.EventKind, outcome.{Ignored.Ignored, Stop.Stop}}}
use Rattle.pim_wire.{specs.{Values.JoinPrune, declared.view.PimView.PimView}}
use Rattle.igmp_wire.{specs.declared.view.IgmpView.IgmpView}
use Rattle.pim_model.{specs.{declared.accepted.Accepted.Accepted, Judging.{Judged, advance_judged, assert_judged, candidates_judged, data_judged, down_judged, frame_judged, hello_judged, igmp_accepted, igmp_judged, igmp_message_judged, ignore_if, join_prune_judged, judged, of_read, packet_judged, pim_judged, pim_message_judged, pim_to_me_judged, refuse_if, register_judged, register_stop_judged, routes_judged, rps_judged, unicast_judged, unicast_packet_judged, up_judged, ◌>>◌}, State.State, Unicast.{with_candidates, with_ranges}}}
use Rattle.law_settled.{proofs.ListLaws.{by_cond, each_more, each_of_list}}
use Rattle.law_streams.{specs.Uncounted.is_of_bytes, proofs.{Announced.{AreSmall, IsGood, ReadsShort, ReadsSmall, message_short, packet_small}, OverrideEnds.IsBriefly}}

abbrev Accepts : Judged → Type 0
Accepts (Err stop) = Unit {0}
Accepts (Ok a) = IsBriefly a

pub record IsSaid (r : Judged) : Type 0 where
  pub accepts : Accepts r

stops : (stop : Stop) → IsSaid (Err stop)
stops stop = record { accepts = tt }

accepted : (a : Accepted) → IsBriefly a → IsSaid (Ok a)
accepted a f = record { accepts = f }

refuse_then : (b : Bool) (refusal : Refusal) (next : Judged) → IsSaid next → IsSaid (refuse_if b refusal >> next)
refuse_then b refusal next f = grind (arith, stops)

ignore_then : (b : Bool) (reason : Ignored) (next : Judged) → IsSaid next → IsSaid (ignore_if b reason >> next)
ignore_then b reason next f = grind (arith, stops)

read_then : {A : Type 0} (r : Result A Refusal) (next : A → Judged) → ((a : A) → IsSaid (next a)) → IsSaid (of_read r next)
read_then r next f = grind (arith, stops)

view_then : (r : Result PimView Refusal) (next : PimView → Judged) → ReadsShort r → ((view : PimView) → IsGood view → IsSaid (next view))
    → IsSaid (of_read r next)
view_then r next g f = grind (arith, stops)

packet_then : (r : Result Packet Refusal) (next : Packet → Judged) → ReadsSmall r → ((p : Packet) → AreSmall p.payload → IsSaid (next p))
    → IsSaid (of_read r next)
packet_then r next g f = grind (arith, stops)

module _ (s : State) where
  joined : (i : IfaceId) (m : JoinPrune) (b : Bool) → IsBriefly (cond b (Accepted.JoinPruneToMe i m) (Accepted.JoinPruneSeen i m))
  joined i m true = tt
  joined i m false = tt

  igmp_briefly : (i : IfaceId) (from : ℕ) (view : IgmpView) → IsBriefly (igmp_accepted i from view)
  igmp_briefly i from view = grind arith

  pim_said : (i : IfaceId) (from : ℕ) (view : PimView) → IsGood view → IsSaid (pim_judged s i from view)
  unfolding pim_judged hello_judged join_prune_judged assert_judged
  pim_said i from view g = grind (arith, ignore_then, accepted, joined, stops)

  packet_said : (i : IfaceId) (p : Packet) → AreSmall p.payload → IsSaid (packet_judged s i p)
  unfolding packet_judged pim_message_judged igmp_message_judged igmp_judged data_judged
  packet_said i p small =
      grind (arith, by_cond, view_then, message_short, ignore_then, pim_said, read_then, accepted, igmp_briefly)

  pim_to_me_said : (p : Packet) (view : PimView) → IsSaid (pim_to_me_judged s p view)
  unfolding pim_to_me_judged register_judged register_stop_judged
  pim_to_me_said p view = grind (arith, ignore_then, accepted, stops)

  unicast_said : (p : Packet) → IsSaid (unicast_packet_judged s p)
  unfolding unicast_packet_judged
  unicast_said p = grind (arith, by_cond, read_then, ignore_then, pim_to_me_said, stops)

  pub kind_said : (kind : EventKind) → is_of_bytes kind ≡ true → IsSaid (judged s kind)
  unfolding judged frame_judged unicast_judged up_judged down_judged routes_judged rps_judged candidates_judged advance_judged
  kind_said (EventKind.Advance moment) e =
      refuse_then _ Refusal.MomentBack _ (refuse_then _ Refusal.MomentFar _ (accepted (Accepted.Advance moment) tt))
  kind_said (EventKind.Frame i bytes) e =
      refuse_then _ Refusal.NoInterface _ (refuse_then _ Refusal.InterfaceDown _ (refuse_then _ Refusal.BadLength _
      (packet_then (ipv4_reading bytes) _ (packet_small bytes (bytes_small bytes e)) (packet_said i))))
    where
      bytes_small : (bytes : List ℕ) → list_all (λ b. nat_lt b 256) bytes ≡ true → AreSmall bytes
      bytes_small bytes e = each_more (λ b. nat_lt b 256 ≡ true) (λ b. b < 256) (λ b h. ltb-true b 256 h) bytes (each_of_list (λ b. nat_lt b 256) bytes e)
  kind_said (EventKind.Unicast bytes) e = read_then (ipv4_reading bytes) _ unicast_said
  kind_said (EventKind.Up i) e = refuse_then _ Refusal.NoInterface _ (ignore_then _ Ignored.Already _ (accepted (Accepted.Up i) tt))
  kind_said (EventKind.Down i) e = refuse_then _ Refusal.NoInterface _ (ignore_then _ Ignored.Already _ (accepted (Accepted.Down i) tt))
  kind_said (EventKind.Routes routes) e = refuse_then _ Refusal.BadRoutes _ (accepted (Accepted.Routes routes) tt)
  kind_said (EventKind.Rps rps) e = refuse_then _ Refusal.BadRps _ (accepted (Accepted.Rps (with_ranges s.ranges rps)) tt)
  kind_said (EventKind.RpCandidates candidates) e =
      refuse_then _ Refusal.BadCandidates _ (accepted (Accepted.Rps (with_candidates s.ranges candidates)) tt)
