-- What all groups share: routes, neighbours, the designated router. It is the same in every scope.
use Rattle.std.{proofs.{Common.{◌≡◌, ℕ, Bool, false, ◌&&◌, List, length, map, Option, None, option_map, option_and_then, refl, ap, ◌∙◌, arith, rules}, lemmas.List.Folds.list_all-map}, specs.{List.find, Option.option_map_or, Prelude.slice_get}}
use Rattle.pim_ip.{specs.Prefixes.contains}
use Rattle.pim_types.{specs.{declared.{config.Route.Route, fact.{InterfaceRow.InterfaceRow, Key.Key, NeighbourRow.NeighbourRow}, path.Path.Path}, Keys.{iface_key, neighbour_key}}}
use Rattle.pim_model.{specs.{Neighbours.{all_have_priority, is_better_dr, is_dr, is_dr_among, is_neighbour, nbr, nbr_among}, State.{Addressing, State, my_address, my_priority}, Tables.{Table, below, has_row, rows_on}, Unicast.{is_on_link_among, link_among, route, route_among, routed_among, rp_of, rp_route, rpf_interface, rpf_interface_rp, subnet}}}
use Rattle.law_settled.{proofs.{TableLaws.any_of_map, RowLaws.has_row_map}}
use Rattle.law_events.{specs.Scopes.{only_priority, only_up, scope}, proofs.Rows.rows_on_cut}

is_up_cut : (k : Key) (t : Table InterfaceRow) → has_row (map only_up t) k ≡ has_row t k
is_up_cut k t = has_row_map k only_up (λ e. refl) t

module _ (configured : Addressing) (t : Table InterfaceRow) (address : ℕ) where
  link_cut : link_among configured (map only_up t) address ≡ link_among configured t address
  unfolding link_among is_on_link_among
  link_cut =
      λ j. find (λ i. is_up_cut (iface_key i) t j && option_map_or (λ c. contains (subnet c) address)
      (slice_get configured.interfaces i) false) (below (length configured.interfaces))

  routed_cut : (routes : List Route) → routed_among (map only_up t) routes address ≡ routed_among t routes address
  unfolding routed_among
  routed_cut routes = search (rules, is_up_cut)

  pub route_cut : (routes : List Route)
      → route_among configured (map only_up t) routes address ≡ route_among configured t routes address
  unfolding route_among
  route_cut routes = grind (arith, link_cut, routed_cut)

abbrev cut_neighbour : NeighbourRow → NeighbourRow
cut_neighbour r = record r { end = None; lan_delay = None; generation = None }

pub nbr_cut : (t : Table NeighbourRow) (p : Option Path) → nbr_among (map only_priority t) p ≡ nbr_among t p
unfolding nbr_among
nbr_cut t p = grind (arith, has_row_map)

priorities_cut : (t : Table NeighbourRow) → all_have_priority (map only_priority t) ≡ all_have_priority t
unfolding all_have_priority
priorities_cut t = list_all-map _ only_priority t

dr_cut : (priority address : ℕ) (t : Table NeighbourRow)
    → is_dr_among priority address (map only_priority t) ≡ is_dr_among priority address t
unfolding is_dr_among is_better_dr
dr_cut priority address t = grind (arith, priorities_cut, any_of_map)

module _ (sees : Key → Bool) (s : State) where
  pub route_local : (address : ℕ) → route (scope sees s) address ≡ route s address
  unfolding route scope
  route_local address = route_cut s.configured s.interfaces address s.routes

  pub rp_of_local : (h : ℕ) → rp_of (scope sees s) h ≡ rp_of s h
  unfolding rp_of scope
  rp_of_local h = refl

  pub rp_route_local : (h : ℕ) → rp_route (scope sees s) h ≡ rp_route s h
  unfolding rp_route
  rp_route_local h = λ j. option_and_then (λ address. route_local address j) (rp_of_local h j)

  pub rpf_interface_local : (address : ℕ) → rpf_interface (scope sees s) address ≡ rpf_interface s address
  unfolding rpf_interface
  rpf_interface_local address = λ j. option_map (λ (p : Path). p.iface.number) (route_local address j)

  pub rpf_interface_rp_local : (h : ℕ) → rpf_interface_rp (scope sees s) h ≡ rpf_interface_rp s h
  unfolding rpf_interface_rp
  rpf_interface_rp_local h = λ j. option_map (λ (p : Path). p.iface.number) (rp_route_local h j)

  pub nbr_local : (p : Option Path) → nbr (scope sees s) p ≡ nbr s p
  unfolding nbr scope
  nbr_local p = nbr_cut s.neighbours p

  pub is_neighbour_local : (i address : ℕ) → is_neighbour (scope sees s) i address ≡ is_neighbour s i address
  unfolding scope
  is_neighbour_local i address = has_row_map (neighbour_key i address) only_priority (λ e. refl) s.neighbours

  pub is_dr_local : (i : ℕ) → is_dr (scope sees s) i ≡ is_dr s i
  unfolding is_dr scope
  is_dr_local i =
      ap (λ (t : Table NeighbourRow). is_dr_among (my_priority s i) (my_address s i) t)
      (rows_on_cut cut_neighbour i s.neighbours)
      ∙ dr_cut (my_priority s i) (my_address s i) (rows_on i s.neighbours)
