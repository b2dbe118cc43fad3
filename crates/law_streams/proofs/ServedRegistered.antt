-- A Register brings its packet to the RP.
use Rattle.std.{proofs.Common.{◌≡◌, ◌∙◌, ℕ, false, true, List, Some, Ok, refl, ap, eq-eqb, arith}}
use Rattle.pim_ip.{specs.Ipv4.is_link_local}
use Rattle.pim_types.{specs.declared.event.{Event.Event, EventKind.EventKind}}
use Rattle.pim_wire.{specs.Values.Encapsulated}
use Rattle.pim_model.{specs.{declared.accepted.Accepted.Accepted, Full.is_full, Judging.{judged, pim_to_me_judged, register_judged, unicast_judged, unicast_packet_judged}, Network.Network, Sets.spt_bit, State.{State, is_own}, Unicast.{is_rp, rp_of}}}
use Rattle.law_streams.{specs.{Roots.{CanRegister, InRegister, IsBrought, IsRegister, RegisterIsBrought}, Ways.{HasTaken, Place, state_of}}, proofs.{Passes.done_if, Serves.has_room}}

module _ (n : Network) (g rp src draw lives : ℕ) (bytes payload : List ℕ) (p : Place) (h : HasTaken n g rp p)
    (far : is_link_local g ≡ false) (can : CanRegister g rp src (state_of p)) (r : IsRegister g src rp bytes payload lives) where
  abbrev t : State
  t = h.state

  abbrev event : Event
  event = record { draw = draw; kind = EventKind.Unicast bytes }

  abbrev register : Accepted
  register = Accepted.Register r.outer (Encapsulated r.packet)

  own_there : is_own t (r.outer).destination ≡ true
  own_there = grind arith

  far_there : is_link_local (r.packet).destination ≡ false
  far_there = ap is_link_local r.group ∙ far

  judged_so : judged t event.kind ≡ Ok register
  unfolding judged unicast_judged unicast_packet_judged pim_to_me_judged register_judged
  judged_so = rw (r.reads, r.of_pim, r.is, own_there, far_there) refl

  known : rp_of t g ≡ Some rp
  known = (h.goes_on).rp_known rp can.rp_known

  is_rp_there : is_rp t (r.packet).destination (r.outer).destination ≡ true
  is_rp_there = rw (r.group, r.destination, known, eq-eqb rp rp refl) refl

  room : is_full t register ≡ false
  unfolding is_full
  room = grind (arith, is_rp_there, has_room)

  unset : spt_bit t (r.packet).destination (r.packet).source ≡ false
  unset = rw (r.group, r.source) ((h.goes_on).unset src can.unknown)

  brought : IsBrought t event g src p.down payload lives
  brought = record {
    bytes = r.inner;
    packet = r.packet;
    reads = r.inner_reads;
    fits = r.fits;
    group = r.group;
    source = r.source;
    is_data = r.is_data;
    same = r.same;
    time_to_live = r.time_to_live;
    comes = InRegister r.outer (done_if t event register judged_so room) is_rp_there unset;
  }

pub register_is_brought : RegisterIsBrought
register_is_brought n g rp src draw lives bytes payload p h far can r =
    brought n g rp src draw lives bytes payload p h far can r
