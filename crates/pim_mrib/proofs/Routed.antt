-- Routes and RPs, by what was found on the way, and the nodes that were visited.
use Rattle.std.proofs.Common.{◌≡◌, ℕ, true, false, List, Option, Some, None, refl, arith}
use Rattle.pim_ip.{specs.{Prefixes.longest_match, Ipv4.is_source_specific}}
use Rattle.pim_types.{specs.{declared.{config.{Route.Route, RpRange.RpRange, RpTable.RpTable}, fact.InterfaceRow.InterfaceRow}, Keys.iface_key}}
use Rattle.pim_trie.{specs.Meter.raised}
use Rattle.pim_model.{specs.{State.{Addressing, is_own_among}, Tables.{Table, has_row}, Unicast.{link_among, link_path, route_among, route_path, routed_among, rp_among, nearer_rp}, Candidates.chosen_among}}
use Rattle.pim_mrib.{specs.{Index.nodes_visited, Routes.{route_nodes, rp_nodes}}}

module _ (configured : Addressing) (up : Table InterfaceRow) (routes : List Route) (address : ℕ) where
  pub route_own : is_own_among configured address ≡ true → route_among configured up routes address ≡ None
  unfolding route_among
  route_own own = rw own refl

  pub route_linked : (i : ℕ) → is_own_among configured address ≡ false → link_among configured up address ≡ Some i
      → route_among configured up routes address ≡ Some (link_path address i)
  unfolding route_among
  route_linked i own link = rw (own, link) refl

  pub route_missing : is_own_among configured address ≡ false → link_among configured up address ≡ None
      → longest_match (λ (r : Route). r.prefix) routes address ≡ None
      → route_among configured up routes address ≡ None
  unfolding route_among routed_among
  route_missing own link longest = rw (own, link, longest) refl

  pub route_down : (r : Route) → is_own_among configured address ≡ false → link_among configured up address ≡ None
      → longest_match (λ (r : Route). r.prefix) routes address ≡ Some r → has_row up (iface_key r.iface.number) ≡ false
      → route_among configured up routes address ≡ None
  unfolding route_among routed_among
  route_down r own link longest down = rw (own, link, longest, down) refl

  pub route_over : (r : Route) → is_own_among configured address ≡ false → link_among configured up address ≡ None
      → longest_match (λ (r : Route). r.prefix) routes address ≡ Some r → has_row up (iface_key r.iface.number) ≡ true
      → route_among configured up routes address ≡ Some (route_path r)
  unfolding route_among routed_among
  route_over r own link longest over = rw (own, link, longest, over) refl

  pub nodes_own : is_own_among configured address ≡ true → route_nodes configured up routes address ≡ 0
  unfolding route_nodes
  nodes_own own = rw own refl

  pub nodes_linked : (i : ℕ) → is_own_among configured address ≡ false → link_among configured up address ≡ Some i
      → route_nodes configured up routes address ≡ 0
  unfolding route_nodes
  nodes_linked i own link = rw (own, link) refl

  pub nodes_routed : is_own_among configured address ≡ false → link_among configured up address ≡ None
      → route_nodes configured up routes address ≡ nodes_visited (λ (r : Route). r.prefix) routes address
  unfolding route_nodes
  nodes_routed own link = rw (own, link) refl

module _ (ranges : RpTable) (group : ℕ) where
  pub rp_none : is_source_specific group ≡ true → rp_among ranges group ≡ None
  unfolding rp_among
  rp_none ssm = rw ssm refl

  pub rp_found : (best : Option RpRange) → is_source_specific group ≡ false
      → longest_match (λ (r : RpRange). r.prefix) ranges.static_ranges group ≡ best
      → rp_among ranges group ≡ nearer_rp best (chosen_among ranges.candidates group)
  unfolding rp_among
  rp_found best ssm longest = rw (ssm, longest) refl

  pub rp_nodes_none : is_source_specific group ≡ true → rp_nodes ranges group ≡ 0
  unfolding rp_nodes
  rp_nodes_none ssm = rw ssm refl

  pub rp_nodes_found : is_source_specific group ≡ false
      → rp_nodes ranges group ≡ nodes_visited (λ (r : RpRange). r.prefix) ranges.static_ranges group
  unfolding rp_nodes
  rp_nodes_found ssm = rw ssm refl

pub raised-zero : (count : ℕ) → raised count 0 ≡ count
unfolding raised
raised-zero count = grind arith

pub ruleset routed = (
  route_own,
  route_linked,
  route_missing,
  route_down,
  route_over,
  nodes_own,
  nodes_linked,
  nodes_routed,
  rp_none,
  rp_found,
  rp_nodes_none,
  rp_nodes_found,
  raised-zero,
)
