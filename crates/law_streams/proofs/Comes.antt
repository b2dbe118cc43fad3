-- A packet comes down a way.
use Rattle.std.{proofs.Common.{◌≡◌, ℕ, ◌+◌, ◌<◌, ◌⊎◌, true, false, List, Some}}
use Rattle.pim_ip.{specs.Ipv4.{is_link_local, is_multicast}}
use Rattle.pim_model.{specs.{Network.{Network, station_at}, Sets.spt_bit, Unicast.is_rpf_interface_rp}}
use Rattle.law_streams.{specs.{Served.{IsMember, IsServed}, Flows.{DataFlows, IsCarried, IsChannel, PassesOn}, Ways.{Place, state_of, up_iface}}, proofs.{Carries.{IsPassedOn, flow, is_judged, is_passed_on, lives_on, of_packet}, Forwards.passes_on}}

module _ (g src : ℕ) (payload : List ℕ) (group : is_multicast g ≡ true) (far : is_link_local g ≡ false) where
  passes : (n : Network) (link lives : ℕ) (p : Place) → 0 < lives → PassesOn g src link p
      → station_at n p.router ≡ Some p.station → IsCarried n g src p.next_link payload (lives + 1)
      → IsPassedOn g src payload n link lives p
  passes n link lives p some f at c =
      let on = of_packet g src payload n link lives p at c in
      is_passed_on g src payload n link lives p at c f.up_linked f.down_linked
      (passes_on (state_of p) (up_iface p) p.draw p.down c.bytes c.packet
      (is_judged g src payload n link lives p at c group far f.configured f.is_up f.foreign f.room)
      (lives_on g src payload n link lives p at c some)
      (on (λ d a. is_rpf_interface_rp (state_of p) d (up_iface p) ≡ true) f.on_tree)
      (on (λ d a. spt_bit (state_of p) d a ≡ false) f.unset)
      (on (λ d a. IsServed (state_of p) d a p.down ⊎ IsMember (state_of p) d a p.down) f.wanted) f.on)

pub data_flows : DataFlows
data_flows n g src link lives payload ps group far some way stand apart c =
    flow g src payload (IsChannel g src) (λ link p ps way. way.1)
    (λ n link lives p ps some way. passes g src payload group far n link lives p some way.0) link lives ps n some way
    stand apart c
