-- Data packets (4.2), and Registers at the RP (4.4.2). Sections are those of RFC 7761.
use Rattle.std.{specs.Prelude.{Bool, List, [], false, if◌then◌else◌, is_some, not, true, ℕ, ◌&&◌, ◌==◌, ◌||◌, ◌∷◌}}
use Rattle.pim_ip.{specs.Ipv4.Packet}
use Rattle.pim_types.{specs.{Keys.{source_key, star_key}, declared.fact.Key.Key}}
use Rattle.pim_model.{specs.{Asserts.{data_seen, with_spt_bit}, Desires.{is_inherited_empty, join_desired, rpf_source, rpf_star}, Messages.Message, Registers.{is_spt_wanted, settle_register, with_keepalive}, Sets.{Set, assert_source, inherited_olist, inherited_olist_rpt, is_empty, is_loser, pim_exclude, pim_include, pim_include_star, spt_bit, tunnel, ◌∖◌, ◌∪◌}, State.State, Tables.{same_hop, same_option}, Unicast.{is_connected, is_rp, is_rpf_interface, is_rpf_interface_rp, rpf_interface, rpf_interface_rp}}}

-- the list of outgoing interfaces of a packet, with the tunnel, and the messages on the way
pub record Forwarded : Type 0 where
  pub state : State
  pub messages : List Message
  pub list : Set
  pub to_tunnel : Bool

-- NULL: the empty set of interfaces
abbrev pub no_interface : Set
no_interface i = false

-- a change that is made on a condition
abbrev pub when : Bool → (State → State) → State → State
when true change s = change s
when false change s = s

-- if DirectlyConnected(S) AND iif == RPF_interface(S): set KeepaliveTimer(S,G) to Keepalive_Period (4.2); here: the
-- register machine is settled at once
unfoldable pub source_here : State → ℕ → ℕ → ℕ → State
source_here s g src iif =
    if is_connected s src && is_rpf_interface s src iif
    then settle_register (with_keepalive s g src) (source_key 0 g src) else s

-- if iif == RPF_interface(S) AND UpstreamJPState(S,G) == Joined AND inherited_olist(S,G) != NULL:
-- set KeepaliveTimer(S,G) to Keepalive_Period (4.2)
unfoldable pub source_joined : State → ℕ → ℕ → ℕ → State
source_joined s g src iif =
    when (is_rpf_interface s src iif && join_desired s g src && not (is_inherited_empty s g src))
    (λ t. with_keepalive t g src) s

-- the test of Update_SPTbit(S,G,iif) (4.2.2): iif == RPF_interface(S) AND JoinDesired(S,G) AND (DirectlyConnected(S)
-- OR RPF_interface(S) != RPF_interface(RP(G)) OR inherited_olist(S,G,rpt) == NULL
-- OR (RPF'(S,G) == RPF'(*,G) AND RPF'(S,G) != NULL) OR I_Am_Assert_Loser(S,G,iif))
unfoldable pub is_spt_reached : State → ℕ → ℕ → ℕ → Bool
is_spt_reached s g src iif =
    is_rpf_interface s src iif && join_desired s g src
    && (is_connected s src
    || not (same_option (rpf_interface s src) (rpf_interface_rp s g))
    || is_empty s (inherited_olist_rpt s g src)
    || (is_some (rpf_source s g src) && same_hop (rpf_source s g src) (rpf_star s g))
    || is_loser (assert_source s g src iif))

-- Update_SPTbit(S,G,iif) (4.2.2)
unfoldable pub spt_updated : State → ℕ → ℕ → ℕ → State
spt_updated s g src iif = when (is_spt_reached s g src iif) (λ t. with_spt_bit t g src) s

-- pim_include(*,G) (-) pim_exclude(S,G) (+) pim_include(S,G) != NULL (4.2.1)
unfoldable pub has_local_receivers : State → ℕ → ℕ → Bool
has_local_receivers s g src =
    not (is_empty s ((pim_include_star s g ∖ pim_exclude s g src) ∪ pim_include s g src))

-- CheckSwitchToSpt(S,G) (4.2.1): if `has_local_receivers` AND SwitchToSptDesired(S,G), set KeepaliveTimer(S,G) to
-- Keepalive_Period
unfoldable pub watched : State → ℕ → ℕ → State
watched s g src = when (has_local_receivers s g src && is_spt_wanted s) (λ t. with_keepalive t g src) s

-- RPF check failed (4.2): the data is an event of the assert machine of (S,G) if SPTbit(S,G) AND iif in
-- inherited_olist(S,G), for that of (*,G) if NOT SPTbit(S,G) AND iif in inherited_olist(S,G,rpt)
unfoldable pub stray : State → ℕ → ℕ → ℕ → Forwarded
stray s g src iif =
    let k : Key = (if spt_bit s g src then source_key iif g src else star_key iif g) in
    let list : Set = (if spt_bit s g src then inherited_olist s g src else inherited_olist_rpt s g src) in
    let asserted : State × List Message = (if list iif then data_seen s k else (s, [])) in
    record { state = asserted.0; messages = asserted.1; list = no_interface; to_tunnel = false }

-- oiflist (4.2): inherited_olist(S,G) if iif == RPF_interface(S) AND SPTbit(S,G); inherited_olist(S,G,rpt), and
-- CheckSwitchToSpt(S,G), if iif == RPF_interface(RP(G)) AND NOT SPTbit(S,G); else NULL, and `stray`, since the RPF
-- check failed
unfoldable pub list_chosen : State → ℕ → ℕ → ℕ → Forwarded
list_chosen s g src iif =
    if is_rpf_interface s src iif && spt_bit s g src
    then record { state = s; messages = []; list = inherited_olist s g src; to_tunnel = tunnel s g src }
    else (if is_rpf_interface_rp s g iif && not (spt_bit s g src)
    then record { state = watched s g src; messages = []; list = inherited_olist_rpt s g src; to_tunnel = false }
    else stray s g src iif)

-- On receipt of data from S to G on interface iif (4.2): the steps in their order, and at last oiflist (-) iif
unfoldable pub forwarded : State → ℕ → ℕ → ℕ → Forwarded
forwarded s g src iif =
    let here : State = source_here s g src iif in
    let joined : State = source_joined here g src iif in
    let f : Forwarded = list_chosen (spt_updated joined g src iif) g src iif in
    record f { list = λ i. f.list i && not (i == iif) }

-- ---- a Register at one of the router's own addresses

-- send Register-Stop(S,G) to outer.src, here from the address that the Register came to
abbrev pub register_stop_to : Packet → ℕ → ℕ → List Message
register_stop_to p g src = Message.RegisterStop p.destination p.source g src ∷ []

-- packet_arrives_on_rp_tunnel (4.4.2) where outer.dst == RP(G):
-- send Register-Stop(S,G) if SPTbit(S,G) OR (SwitchToSptDesired(S,G) AND inherited_olist(S,G) == NULL);
-- set KeepaliveTimer(S,G) if SPTbit(S,G) OR SwitchToSptDesired(S,G);
-- forward the inner packet to inherited_olist(S,G,rpt) if NOT SPTbit(S,G) AND NOT pkt.NullRegisterBit
unfoldable pub register_at_rp : State → Packet → ℕ → ℕ → Bool → Forwarded
register_at_rp s p g src is_null =
    let on_tree : Bool = spt_bit s g src in
    let is_stopped : Bool = on_tree || (is_spt_wanted s && is_inherited_empty s g src) in
    record {
      state = when (on_tree || is_spt_wanted s) (λ t. with_keepalive t g src) s;
      messages = (if is_stopped then register_stop_to p g src else []);
      list = (if on_tree || is_null then no_interface else inherited_olist_rpt s g src);
      to_tunnel = false;
    }

-- packet_arrives_on_rp_tunnel (4.4.2): where outer.dst isn't RP(G), send Register-Stop(S,G)
unfoldable pub register_received : State → Packet → ℕ → ℕ → Bool → Forwarded
register_received s p g src is_null =
    if is_rp s g p.destination then register_at_rp s p g src is_null
    else record { state = s; messages = register_stop_to p g src; list = no_interface; to_tunnel = false }
