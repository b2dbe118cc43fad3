-- Unicast routes, which the RFC calls the MRIB, and RPs. Sections are those of RFC 7761. A line `here:` says
-- where this profile decides what the RFC leaves open, or does otherwise.
use Rattle.std.{specs.{List.list_any, Option.option_map_or, Prelude.{Bool, None, Option, Some, [], false, find, if◌then◌else◌, nat_lt, option_and_then, option_map, true, ℕ, ◌&&◌, ◌||◌, List, length, slice_get}}}
use Rattle.pim_ip.{specs.{Addr.addr, Ipv4.is_source_specific, Prefixes.{contains, longest_match}, declared.addr.Prefix.Prefix}}
use Rattle.pim_types.{specs.{Keys.iface_key, declared.{config.{InterfaceConfig.InterfaceConfig, Route.Route, RpCandidate.RpCandidate, RpRange.RpRange, RpTable.RpTable}, fact.InterfaceRow.InterfaceRow, path.Path.Path}}}
use Rattle.pim_model.{specs.{Candidates.chosen_among, State.{Addressing, State, is_own_among}, Tables.{same_option, Table, has_row, below}}}

-- the prefix of an interface's link
abbrev pub subnet : InterfaceConfig → Prefix
subnet c = record { address = c.address; length = c.length }

-- The rules with names in `_among` read the configured interfaces, the rows of those that are up, the routes and the RP
-- ranges with the candidates; `route` and `rp_of` are those of a state.

-- the address is in the subnet of the interface, and the interface is up
unfoldable pub is_on_link_among : Addressing → Table InterfaceRow → ℕ → ℕ → Bool
is_on_link_among configured up address i =
    has_row up (iface_key i) && option_map_or (λ c. contains (subnet c) address) (slice_get configured.interfaces i) false

-- the first interface whose link the address is on
unfoldable pub link_among : Addressing → Table InterfaceRow → ℕ → Option ℕ
link_among configured up address = find (is_on_link_among configured up address) (below (length configured.interfaces))

-- the route to a directly connected address (4.2): over the link itself, with preference and metric 0
abbrev pub link_path : ℕ → ℕ → Path
link_path address i = record {
  iface = record { number = i };
  next_hop = addr address;
  preference = 0;
  metric = 0;
  is_connected = true;
}

-- the path of a configured route: its interface, next hop, preference and metric
abbrev pub route_path : Route → Path
route_path r = record {
  iface = r.iface;
  next_hop = r.next_hop;
  preference = r.preference;
  metric = r.metric;
  is_connected = false;
}

-- the path of a route; here: none where its interface is down
abbrev pub path_if_up : Table InterfaceRow → Path → Option Path
path_if_up up p = if has_row up (iface_key p.iface.number) then Some p else None

-- the route with the longest prefix that contains the address; none where its interface is down
unfoldable pub routed_among : Table InterfaceRow → List Route → ℕ → Option Path
routed_among up routes address =
    option_and_then (λ r. path_if_up up (route_path r)) (longest_match (λ (r : Route). r.prefix) routes address)

-- the route to A: RPF_interface(A) (4.2), MRIB.next_hop(A) (4.1.5), MRIB.pref(A) and MRIB.metric(A) (4.6.3)
-- here: none to an address of the router; else over the link that A is on; else the route with the longest prefix
unfoldable pub route_among : Addressing → Table InterfaceRow → List Route → ℕ → Option Path
route_among configured up routes address =
    let over_link : Option ℕ = link_among configured up address in
    let over_route : Option Path = routed_among up routes address in
    if is_own_among configured address then None
    else option_map_or (λ i. Some (link_path address i)) over_link over_route

-- the route to A in a state (4.1.5, 4.2)
-- reads: the configured interfaces, those that are up, the routes
unfoldable pub route : State → ℕ → Option Path
route s address = route_among s.configured s.interfaces s.routes address

-- of a range and a candidate for a group the one of the longer prefix
-- here: of one prefix the range, which somebody wrote down for just that prefix
abbrev pub nearer_rp : Option RpRange → Option RpCandidate → Option ℕ
nearer_rp None None = None
nearer_rp None (Some c) = Some c.rp.bits
nearer_rp (Some r) None = Some r.rp.bits
nearer_rp (Some r) (Some c) = Some (if nat_lt r.prefix.length c.prefix.length then c.rp.bits else r.rp.bits)

-- RP(G) (4.7.1): of the range with the longest prefix that contains G and the candidate that is chosen for G the one of
-- the longer prefix; an SSM group has none (4.8.1)
unfoldable pub rp_among : RpTable → ℕ → Option ℕ
rp_among ranges g =
    if is_source_specific g then None
    else nearer_rp (longest_match (λ (r : RpRange). r.prefix) ranges.static_ranges g) (chosen_among ranges.candidates g)

-- the RP of a range, or of a candidate, passes a test
abbrev pub any_rp : (ℕ → Bool) → RpTable → Bool
any_rp test ranges =
    list_any (λ (r : RpRange). test r.rp.bits) ranges.static_ranges
    || list_any (λ (c : RpCandidate). test c.rp.bits) ranges.candidates

-- no RP ranges and no candidates
abbrev pub no_ranges : RpTable
no_ranges = record { static_ranges = []; candidates = [] }

-- other RP ranges beside the same candidates
abbrev pub with_ranges : RpTable → List RpRange → RpTable
with_ranges table ranges = record { static_ranges = ranges; candidates = table.candidates }

-- other candidates beside the same RP ranges
abbrev pub with_candidates : RpTable → List RpCandidate → RpTable
with_candidates table candidates = record { static_ranges = table.static_ranges; candidates = candidates }

-- RP(G) (4.7.1) in a state
-- reads: the RP ranges
unfoldable pub rp_of : State → ℕ → Option ℕ
rp_of s g = rp_among s.ranges g

-- A == RP(G)
abbrev pub is_rp : State → ℕ → ℕ → Bool
is_rp s g address = same_option (rp_of s g) (Some address)

-- the route to RP(G): none at the RP itself
-- reads: the RP ranges, and the route to RP(G)
unfoldable pub rp_route : State → ℕ → Option Path
rp_route s g = option_and_then (route s) (rp_of s g)

-- RPF_interface(S) (4.2)
-- reads: the route to the address
unfoldable pub rpf_interface : State → ℕ → Option ℕ
rpf_interface s address = option_map (λ (p : Path). p.iface.number) (route s address)

-- RPF_interface(RP(G)) (4.2)
-- here: none at the RP, where the RFC has the interface on which Registers are decapsulated
-- reads: the RP ranges, and the route to RP(G)
unfoldable pub rpf_interface_rp : State → ℕ → Option ℕ
rpf_interface_rp s g = option_map (λ (p : Path). p.iface.number) (rp_route s g)

-- RPF_interface(S) == I
abbrev pub is_rpf_interface : State → ℕ → ℕ → Bool
is_rpf_interface s address i = same_option (rpf_interface s address) (Some i)

-- RPF_interface(RP(G)) == I
abbrev pub is_rpf_interface_rp : State → ℕ → ℕ → Bool
is_rpf_interface_rp s g i = same_option (rpf_interface_rp s g) (Some i)

-- DirectlyConnected(S) (4.2): the source is on a link of the router
-- reads: the route to the source
unfoldable pub is_connected : State → ℕ → Bool
is_connected s src = option_map_or (λ (p : Path). p.is_connected) (route s src) false
