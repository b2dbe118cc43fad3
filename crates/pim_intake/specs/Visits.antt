-- How many nodes of tries are visited where an event is judged: those that lead to the RP of a Register-Stop's group.
use Rattle.std.{specs.Prelude.{Err, List, Ok, Result, if◌then◌else◌, ℕ, ◌==◌}}
use Rattle.pim_ip.{specs.{Ipv4.{Packet, ipv4_reading, protocol_pim}, declared.refusal.Refusal.Refusal}}
use Rattle.pim_types.{specs.declared.event.EventKind.EventKind}
use Rattle.pim_wire.{specs.{Messages.pim_reading, declared.{register.RegisterStop.RegisterStop, view.PimView.PimView}}}
use Rattle.pim_model.{specs.State.{State, is_own}}
use Rattle.pim_mrib.{specs.Routes.rp_nodes}

-- what is looked up of a value that was read
abbrev pub read_nodes : {A : Type 0} → Result A Refusal → (A → ℕ) → ℕ
read_nodes (Ok a) nodes = nodes a
read_nodes (Err refusal) nodes = 0

-- RP(G) of a Register-Stop with the mask of one group
abbrev pub register_stop_nodes : State → RegisterStop → ℕ
register_stop_nodes s r = if r.mask_length == 32 then rp_nodes s.ranges r.group.bits else 0

-- The nodes of the tests of a unicast message: none for another message than a Register-Stop.
abbrev pub pim_to_me_nodes : State → PimView → ℕ
pim_to_me_nodes s (PimView.RegisterStop r) = register_stop_nodes s r
pim_to_me_nodes s _ = 0

-- a packet to the router's own address
unfoldable pub unicast_packet_nodes : State → Packet → ℕ
unicast_packet_nodes s p =
    if p.protocol == protocol_pim
    then read_nodes (pim_reading p.payload) (λ m. if is_own s p.destination then pim_to_me_nodes s m else 0)
    else 0

unfoldable pub unicast_nodes : State → List ℕ → ℕ
unicast_nodes s bytes = read_nodes (ipv4_reading bytes) (unicast_packet_nodes s)

-- the nodes visited for the tests of an event: only a unicast packet needs a look-up
abbrev pub judged_nodes : State → EventKind → ℕ
judged_nodes s (EventKind.Unicast bytes) = unicast_nodes s bytes
judged_nodes s _ = 0
