-- Messages become packets, in their order (RFC 7761, section 4.9; RFC 3376, section 4). A Hello that is owed goes
-- directly before the next Join/Prune or Assert on its interface (RFC 7761, section 4.3.1).
use Rattle.std.{specs.{Option.option_map_or, Prelude.{Bool, List, [], false, if◌then◌else◌, map, nat_lt, ℕ, ◌&&◌, ◌==◌, ◌∷◌}}}
use Rattle.pim_ip.{specs.{Addr.addr, Ipv4.{Packet, all_pim_routers, all_systems, copy_text, igmp_packet_text, pim_packet_text}}}
use Rattle.pim_types.{specs.{Keys.{iface_key, is_on}, declared.{fact.{InterfaceRow.InterfaceRow, Key.Key}, outcome.Emission.Emission}}}
use Rattle.pim_wire.{specs.{Asserts.assert_text, Hellos.hello_text, JoinPrunes.join_prune_text, Registers.{null_register_text, register_stop_text, register_text}}}
use Rattle.igmp_wire.{specs.Queries.query_text}
use Rattle.pim_model.{specs.{Messages.Message, Querier.each_in_turn, Registers.registering_address, Sets.{Set, joins, members, prunes}, State.{InterfaceTable, State, address_among, interfaces_of, value_among}, Tables.{row_at, Table}, Unicast.rp_of, Upstream.upstream}}

-- here: the TTL of a Register and a Register-Stop
abbrev pub unicast_time_to_live : ℕ
unicast_time_to_live = 64

-- a packet on a link
abbrev pub on_link : ℕ → List ℕ → Emission
on_link i packet = Emission.Link (record { number = i }) packet

-- What a message becomes depends only on the interface table.

-- a PIM message to all routers of the link
unfoldable pub pim_on_link : InterfaceTable → ℕ → List ℕ → Emission
pim_on_link t i text = on_link i (pim_packet_text 1 (address_among t.configured i) all_pim_routers text)

-- a PIM message to an address
unfoldable pub pim_to : ℕ → ℕ → List ℕ → Emission
pim_to from to text = Emission.Unicast (addr to) (pim_packet_text unicast_time_to_live from to text)

-- a Hello on an interface, with the delays, the DR priority and the GenID of the interface (RFC 7761, section 4.3.1)
unfoldable pub hello_emission : InterfaceTable → ℕ → Emission
hello_emission t i =
    let generation : ℕ = option_map_or (λ (r : InterfaceRow). r.generation) (row_at t.rows (iface_key i)) 0 in
    pim_on_link t i
    (hello_text (value_among (λ c. c.propagation_delay) t.configured i)
    (value_among (λ c. c.override_interval) t.configured i)
    (value_among (λ c. c.priority) t.configured i) generation)

-- a general query goes to all systems, any other to its group
abbrev pub query_destination : ℕ → ℕ
query_destination group = if group == 0 then all_systems else group

-- the packet that a message becomes
unfoldable pub emission_of : InterfaceTable → Message → Emission
emission_of t (Message.Hello i) = hello_emission t i
emission_of t (Message.JoinPrune i upstream group joins prunes) =
    pim_on_link t i (join_prune_text upstream group joins prunes)
emission_of t (Message.Assert i group source m) =
    pim_on_link t i (assert_text group source m.rpt m.preference m.metric)
emission_of t (Message.Query i q) =
    on_link i (igmp_packet_text (address_among t.configured i) (query_destination q.group) (query_text q))
emission_of t (Message.RegisterStop from to group source) = pim_to from to (register_stop_text group source)
emission_of t (Message.NullRegister from to source group) = pim_to from to (null_register_text source group)

-- a Hello is owed on the interface
abbrev pub is_hello_owed : InterfaceTable → ℕ → Bool
is_hello_owed t i = option_map_or (λ (r : InterfaceRow). r.is_hello_owed) (row_at t.rows (iface_key i)) false

-- no Hello is owed on the interface: any Hello that leaves there is the owed one
unfoldable pub hellos_paid : ℕ → Table InterfaceRow → Table InterfaceRow
hellos_paid i rows =
    map (λ (e : Key × InterfaceRow). if is_on i e.0 then (e.0, record e.1 { is_hello_owed = false }) else e) rows

-- an interface table in which no Hello is owed on the interface
unfoldable pub hello_paid : InterfaceTable → ℕ → InterfaceTable
hello_paid t i = record t { rows = hellos_paid i t.rows }

-- the packet of a message, after the Hello that is owed on its interface
unfoldable pub with_owed_hello : InterfaceTable → ℕ → Emission → InterfaceTable × List Emission
with_owed_hello t i emission =
    if is_hello_owed t i then (hello_paid t i, hello_emission t i ∷ emission ∷ []) else (t, emission ∷ [])

-- the packets of a message; an owed Hello goes before a Join/Prune and an Assert
unfoldable pub written : InterfaceTable → Message → InterfaceTable × List Emission
written t (Message.Hello i) = (hello_paid t i, hello_emission t i ∷ [])
written t (Message.JoinPrune i upstream group joins prunes) =
    with_owed_hello t i (emission_of t (Message.JoinPrune i upstream group joins prunes))
written t (Message.Assert i group source m) =
    with_owed_hello t i (emission_of t (Message.Assert i group source m))
written t m = (t, emission_of t m ∷ [])

-- the packets of messages, one after the other
unfoldable pub all_written : InterfaceTable → List Message → InterfaceTable × List Emission
all_written t messages = each_in_turn written t messages

-- the packets of messages, one after the other, and the state after them
unfoldable pub write_all : State → List Message → State × List Emission
write_all s messages =
    let sent : InterfaceTable × List Emission = all_written (interfaces_of s) messages in
    (record s { interfaces = (sent.0).rows }, sent.1)

-- a copy leaves with the TTL one lower; a packet with TTL 0 or 1 has no copy
abbrev pub leaves : Packet → Bool
leaves p = nat_lt 1 p.time_to_live

-- forward packet on all interfaces in oiflist (RFC 7761, section 4.2), ascending
unfoldable pub copies_of : State → Packet → Set → List Emission
copies_of s p list = if leaves p then map (λ i. on_link i (copy_text p)) (members s list) else []

-- the packet, with the TTL one lower, in a Register to RP(G) (RFC 7761, section 4.4.1)
unfoldable pub register_of_packet : State → Packet → ℕ → List Emission
register_of_packet s p rp = pim_to (registering_address s p.source) rp (register_text (copy_text p)) ∷ []

-- a Register of the packet to RP(G) leaves if the register tunnel is in oiflist (4.4.1)
unfoldable pub tunnel_of : State → Packet → Bool → List Emission
tunnel_of s p to_tunnel =
    if to_tunnel && leaves p then option_map_or (register_of_packet s p) (rp_of s p.destination) [] else []
