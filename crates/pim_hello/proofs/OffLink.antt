-- Where no source of a fact is in the subnet of an interface, no source of a fact is on its link.
use Rattle.std.{proofs.Common.{◌≡◌, ◌==◌, ◌&&◌, ◌||◌, ◌++◌, ℕ, Bool, true, false, append-nil, find, List, [], ◌∷◌, filter, Option, Some, None, is_some, length, refl, sym, ap, ◌∙◌, eqb-true}, specs.{Cmp.second_so, List.{flat_map, list_any}, Option.option_map_or, Prelude.{if◌then◌else◌, option_and_then, slice_get}}}
use Rattle.pim_ip.specs.Prefixes.{contains, longest_match}
use Rattle.pim_types.specs.{declared.{config.{InterfaceConfig.InterfaceConfig, Route.Route}, fact.{InterfaceRow.InterfaceRow, Key.Key}, path.Path.Path}, Keys.{iface_key, source_in}}
use Rattle.pim_model.specs.{State.{Addressing, State, is_own_among}, Tables.{Table, below, has_row}, Unicast.{is_on_link_among, link_among, link_path, path_if_up, route, route_among, route_path, routed_among, subnet}, Upstream.{fact_keys, groups_of, sources_of}}
use Rattle.law_events.{specs.Adjacent.{is_linked, linked_of_group, linked_sources}, proofs.Nowhere.{neither_first, neither_second, sources_fail}}
use Rattle.pim_state.{specs.Sources.{is_within, has_source_on_subnet}}

-- ---- a source that is on the link is in the subnet

-- what is found passes the test
found_passes : (test : ℕ → Bool) (ns : List ℕ) (n : ℕ) → find test ns ≡ Some n → test n ≡ true
found_passes test [] n e = cc
found_passes test (m ∷ ns) n e = go (test m) refl (found_passes test ns n) e
  where
    go : (b : Bool) → test m ≡ b → (find test ns ≡ Some n → test n ≡ true)
        → (if b then Some m else find test ns) ≡ Some n → test n ≡ true
    go true is rest e = let same : m ≡ n = cc in sym (ap test same) ∙ is
    go false is rest e = rest e

-- the interface has the address in its subnet
abbrev has_address : Addressing → ℕ → ℕ → Bool
has_address configured i a = option_map_or (λ c. contains (subnet c) a) (slice_get configured.interfaces i) false

module _ (configured : Addressing) (up : Table InterfaceRow) (routes : List Route) (i a : ℕ)
    (outside : has_address configured i a ≡ false) where
  unlinked_route : (best : Option Route) → is_linked i (option_and_then (λ r. path_if_up up (route_path r)) best) ≡ false
  unlinked_route None = refl
  unlinked_route (Some r) = go (has_row up (iface_key r.iface.number))
    where
      go : (b : Bool) → is_linked i (if b then Some (route_path r) else None) ≡ false
      go true = refl
      go false = refl

  on_other : (j : ℕ) → is_on_link_among configured up a j ≡ true → (i == j) ≡ false
  unfolding is_on_link_among
  on_other j on = go (i == j) refl
    where
      go : (b : Bool) → (i == j) ≡ b → b ≡ false
      go false e = refl
      go true e =
          let here : has_address configured i a ≡ true =
          ap (λ (n : ℕ). has_address configured n a) (eqb-true i j e)
          ∙ second_so (has_row up (iface_key j)) (has_address configured j a) on in cc (here, outside)

  by_link : (link : Option ℕ) → link_among configured up a ≡ link → (path : Option Path) → is_linked i path ≡ false
      → is_linked i (option_map_or (λ j. Some (link_path a j)) link path) ≡ false
  unfolding link_among
  by_link None is path none = none
  by_link (Some j) is path none = on_other j (found_passes (is_on_link_among configured up a) (below (length configured.interfaces)) j is)

  unlinked : is_linked i (route_among configured up routes a) ≡ false
  unfolding route_among routed_among
  unlinked =
      unless_own (is_own_among configured a) _
      (by_link (link_among configured up a) refl _ (unlinked_route (longest_match (λ (r : Route). r.prefix) routes a)))
    where
      unless_own : (own : Bool) (path : Option Path) → is_linked i path ≡ false
          → is_linked i (if own then None else path) ≡ false
      unless_own true path none = refl
      unless_own false path none = none

-- ---- of all groups

module _ (s : State) (i : ℕ) (none : has_source_on_subnet s i ≡ false) where
  abbrev within : ℕ → Bool
  within a = has_address s.configured i a

  none_in : list_any (λ k. is_some k.source && within (source_in k)) (fact_keys s) ≡ false
  unfolding has_source_on_subnet
  none_in = go (slice_get s.configured.interfaces i) none
    where
      never : (ks : List Key) → list_any (λ (k : Key). is_some k.source && false) ks ≡ false
      never [] = refl
      never (k ∷ ks) = nor (is_some k.source) (never ks)
        where
          nor : (b : Bool) → list_any (λ (k : Key). is_some k.source && false) ks ≡ false
              → ((b && false) || list_any (λ (k : Key). is_some k.source && false) ks) ≡ false
          nor true e = e
          nor false e = e

      go : (o : Option InterfaceConfig) → option_map_or (λ c. list_any (is_within (subnet c)) (fact_keys s)) o false ≡ false
          → list_any (λ k. is_some k.source && option_map_or (λ c. contains (subnet c) (source_in k)) o false) (fact_keys s) ≡ false
      go None e = never (fact_keys s)
      go (Some c) e = e

  none_of : (ns : List ℕ) → list_any within ns ≡ false → filter (λ src. is_linked i (route s src)) ns ≡ []
  unfolding route
  none_of [] others = refl
  none_of (n ∷ ns) others =
      rw (unlinked s.configured s.interfaces s.routes i n (neither_first (within n) _ others))
      (none_of ns (neither_second (within n) _ others))

  of_group : (g : ℕ) → list_any within (sources_of g (fact_keys s)) ≡ false
  of_group g = sources_fail within (fact_keys s) none_in g

  nothing_of : (g : ℕ) → linked_of_group s i g ≡ []
  unfolding linked_of_group
  nothing_of g = rw (none_of (sources_of g (fact_keys s)) (of_group g)) refl

  nothing_of_any : (gs : List ℕ) → flat_map (linked_of_group s i) gs ≡ []
  nothing_of_any [] = refl
  nothing_of_any (g ∷ gs) = rw (nothing_of g) (nothing_of_any gs)

  nothing_linked : linked_sources s i ≡ []
  unfolding linked_sources
  nothing_linked = nothing_of_any (groups_of (fact_keys s))

-- nothing is put behind the keys
pub none_put : (s : State) (i : ℕ) (keys : List Key) → has_source_on_subnet s i ≡ false → keys ≡ keys ++ linked_sources s i
none_put s i keys none =
    sym (append-nil keys) ∙ ap (λ (ks : List Key). keys ++ ks) (sym (nothing_linked s i none))
