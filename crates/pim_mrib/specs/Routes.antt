-- The routes, the RP ranges and the candidates as one value, and how many trie nodes a look-up visits.
use Rattle.std.{specs.{List.list_all, Prelude.{Bool, ℕ, List, if◌then◌else◌, is_some, nat_le, ◌||◌}}}
use Rattle.pim_types.{specs.declared.{config.{Route.Route, RpCandidate.RpCandidate, RpRange.RpRange, RpTable.RpTable}, fact.InterfaceRow.InterfaceRow}}
use Rattle.pim_model.{specs.{State.{Addressing, is_own_among}, Tables.Table, Unicast.link_among}}
use Rattle.pim_ip.{specs.Ipv4.is_source_specific}
use Rattle.pim_mrib.{specs.Index.nodes_visited}

-- RP ranges and candidates, each in the order in which they were given
abbrev pub table_of : List RpRange → List RpCandidate → RpTable
table_of ranges candidates = record { static_ranges = ranges; candidates = candidates }

-- the unicast routes, and what RP(G) is chosen from
pub record RouteTable : Type 0 where
  pub routes : List Route
  pub ranges : RpTable

-- the preferences of routes are below that of a router without a route
abbrev pub are_preferred : List Route → Bool
are_preferred routes = list_all (λ (r : Route). nat_le r.preference 0x7FFF_FFFE) routes

-- The nodes of a route: none for an address of the router and for one on a link, since no route is looked up.
unfoldable pub route_nodes : Addressing → Table InterfaceRow → List Route → ℕ → ℕ
route_nodes configured up routes address =
    if is_own_among configured address || is_some (link_among configured up address) then 0
    else nodes_visited (λ (r : Route). r.prefix) routes address

-- The nodes of RP(G): none for a source-specific group. Candidates are in a list.
unfoldable pub rp_nodes : RpTable → ℕ → ℕ
rp_nodes ranges group =
    if is_source_specific group then 0 else nodes_visited (λ (r : RpRange). r.prefix) ranges.static_ranges group
