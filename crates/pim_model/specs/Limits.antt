-- The configurations, routes, RP ranges and candidate RPs that are accepted.
use Rattle.std.{specs.{List.{list_all, list_any}, Prelude.{Bool, List, Result, [], length, map, nat_le, nat_lt, not, true, ℕ, ◌&&◌, ◌*◌, ◌==◌, ◌||◌, ◌∷◌}}}
use Rattle.pim_ip.{specs.{Ipv4.{is_multicast, is_unicast}, Prefixes.{contains, is_host_clear}, Tests.{expect, ◌>>◌}, declared.{addr.{Addr.Addr, Prefix.Prefix}, refusal.Refusal.Refusal}}}
use Rattle.pim_types.{specs.declared.config.{Config.Config, InterfaceConfig.InterfaceConfig, Route.Route, RpCandidate.RpCandidate, RpRange.RpRange}}
use Rattle.pim_model.{specs.{State.{Addressing, addressing_of, is_own_among}, Unicast.subnet}}

-- ---- routes, RP ranges and candidate RPs

-- two prefixes are equal
abbrev pub same_prefix : Prefix → Prefix → Bool
same_prefix p q = (p.address.bits == q.address.bits) && (p.length == q.length)

-- no prefix is listed twice
unfoldable pub are_distinct : List Prefix → Bool
are_distinct [] = true
are_distinct (p ∷ ps) = not (list_any (same_prefix p) ps) && are_distinct ps

-- a prefix of at most 32 bits, with no bit set past its length
abbrev pub is_prefix : Prefix → Bool
is_prefix p = nat_le p.length 32 && is_host_clear p

-- a route that is accepted: its next hop is a unicast address, and none of the router's
unfoldable pub is_route : Addressing → Route → Bool
is_route configured r =
    is_prefix r.prefix
    && nat_lt r.iface.number (length configured.interfaces)
    && is_unicast r.next_hop.bits
    && not (is_own_among configured r.next_hop.bits)
    && nat_le r.preference 0x7FFF_FFFE

-- the most routes
abbrev pub most_routes : ℕ
most_routes = 100000

-- a list of routes is accepted
unfoldable pub are_routes : Addressing → List Route → Bool
are_routes configured routes =
    nat_le (length routes) most_routes && list_all (is_route configured) routes
    && are_distinct (map (λ (r : Route). r.prefix) routes)

-- a range inside 224.0.0.0/4, with a unicast address as RP
unfoldable pub is_rp_range : RpRange → Bool
is_rp_range r =
    is_prefix r.prefix && is_multicast r.prefix.address.bits && nat_le 4 r.prefix.length && is_unicast r.rp.bits

-- the most RP ranges
abbrev pub most_rps : ℕ
most_rps = 256

-- a list of RP ranges is accepted
unfoldable pub are_rps : List RpRange → Bool
are_rps rps =
    nat_le (length rps) most_rps && list_all is_rp_range rps
    && are_distinct (map (λ (r : RpRange). r.prefix) rps)

-- a candidate RP of a range inside 224.0.0.0/4: a unicast address, with a priority and a mask length that have a meaning
unfoldable pub is_candidate : RpCandidate → Bool
is_candidate c =
    is_prefix c.prefix && is_multicast c.prefix.address.bits && nat_le 4 c.prefix.length && is_unicast c.rp.bits
    && nat_le c.priority 255 && nat_le c.hash_length 32

-- two candidates have the same prefix and the same RP
abbrev pub same_candidate : RpCandidate → RpCandidate → Bool
same_candidate c d = same_prefix c.prefix d.prefix && (c.rp.bits == d.rp.bits)

-- no RP is listed twice for a prefix
unfoldable pub are_distinct_candidates : List RpCandidate → Bool
are_distinct_candidates [] = true
are_distinct_candidates (c ∷ cs) = not (list_any (same_candidate c) cs) && are_distinct_candidates cs

-- the most candidates
abbrev pub most_candidates : ℕ
most_candidates = 256

-- a list of candidates is accepted
unfoldable pub are_candidates : List RpCandidate → Bool
are_candidates candidates =
    nat_le (length candidates) most_candidates && list_all is_candidate candidates
    && are_distinct_candidates candidates

-- ---- configurations

-- the most interfaces
abbrev pub most_ifaces : ℕ
most_ifaces = 120

-- two subnets overlap where the one that is shorter contains the other's address
abbrev pub overlaps : InterfaceConfig → InterfaceConfig → Bool
overlaps a b = contains (subnet a) b.address.bits || contains (subnet b) a.address.bits

-- of a list of subnets no two overlap
unfoldable pub are_apart : List InterfaceConfig → Bool
are_apart [] = true
are_apart (c ∷ cs) = not (list_any (overlaps c) cs) && are_apart cs

-- a number in [low, high]
abbrev pub is_between : ℕ → ℕ → ℕ → Bool
is_between low high n = nat_le low n && nat_le n high

-- [Robustness Variable], [Query Interval] in seconds, [Query Response Interval] in tenths of a second and below it, and
-- [Last Member Query Interval] in tenths (RFC 3376, section 8)
unfoldable pub is_querier_config : Config → Bool
is_querier_config c =
    is_between 2 7 c.robustness && is_between 1 31744 c.query_interval
    && is_between 1 31744 c.query_response_interval
    && nat_lt c.query_response_interval (10 * c.query_interval)
    && is_between 1 255 c.last_member_query_interval

-- the propagation delay and the override interval fit into the fields of LAN Prune Delay (RFC 7761, section 4.9.2), in
-- ms
abbrev pub is_delay_config : InterfaceConfig → Bool
is_delay_config c = nat_le c.propagation_delay 32767 && nat_le c.override_interval 65535

-- the most own addresses of no interface
abbrev pub most_addresses : ℕ
most_addresses = 16

-- the address is in the subnet of an interface
abbrev pub is_in_subnet : List InterfaceConfig → ℕ → Bool
is_in_subnet interfaces address = list_any (λ (c : InterfaceConfig). contains (subnet c) address) interfaces

-- an own address of no interface: a host's, in no interface's subnet
abbrev pub is_apart : List InterfaceConfig → Addr → Bool
is_apart interfaces a = is_unicast a.bits && not (is_in_subnet interfaces a.bits)

-- no address is listed twice
unfoldable pub are_once : List Addr → Bool
are_once [] = true
are_once (a ∷ others) = not (list_any (λ (b : Addr). a.bits == b.bits) others) && are_once others

-- the own addresses that are of no interface
unfoldable pub are_own_addresses : Addressing → Bool
are_own_addresses configured =
    nat_le (length configured.addresses) most_addresses
    && list_all (is_apart configured.interfaces) configured.addresses && are_once configured.addresses

-- the tests of a configuration, in their order
unfoldable pub config_test : Config → Result (Unit {0}) Refusal
config_test c =
    expect (is_between 1 most_ifaces (length c.interfaces)) Refusal.InterfaceCount
    >> expect (list_all (λ (i : InterfaceConfig). is_unicast i.address.bits) c.interfaces) Refusal.InterfaceAddress
    >> expect (list_all (λ (i : InterfaceConfig). is_between 1 31 i.length) c.interfaces) Refusal.InterfaceLength
    >> expect (are_apart c.interfaces) Refusal.Overlap
    >> expect (is_between 1 1000000 c.limit) Refusal.BadLimit
    >> expect (is_querier_config c) Refusal.BadQuerier
    >> expect (list_all is_delay_config c.interfaces) Refusal.BadDelay
    >> expect (are_routes (addressing_of c) c.routes) Refusal.ConfiguredRoutes
    >> expect (are_rps c.rps) Refusal.ConfiguredRps
    >> expect (are_own_addresses (addressing_of c)) Refusal.OwnAddresses
