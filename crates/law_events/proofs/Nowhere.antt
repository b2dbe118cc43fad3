-- A neighbour whose address is no next hop, no RP and no source with a fact: no path leads to it.
use Rattle.std.{proofs.{Common.{◌≡◌, ◌==◌, ◌&&◌, ◌||◌, ℕ, Bool, true, false, List, [], ◌∷◌, filter, Option, Some, None, is_some, refl, arith}, Math.Bool.and-false}, specs.{List.{flat_map, list_any}, Option.option_map_or, Prelude.{if◌then◌else◌, nat_lt, option_and_then}}}
use Rattle.pim_ip.{specs.{Ipv4.is_source_specific, Prefixes.{longer, longest_match}, declared.addr.Prefix.Prefix}}
use Rattle.pim_types.{specs.{declared.{config.{Route.Route, RpCandidate.RpCandidate, RpRange.RpRange, RpTable.RpTable}, fact.{InterfaceRow.InterfaceRow, Key.Key}, path.Path.Path}, Keys.source_in}}
use Rattle.pim_model.{specs.{Candidates.{chosen, chosen_among}, State.{Addressing, State}, Tables.Table, Unicast.{any_rp, link_path, nearer_rp, path_if_up, route, route_among, route_path, routed_among, rp_among, rp_of, rp_route}, Upstream.{fact_keys, groups_of, sources_of}}}
use Rattle.law_settled.{proofs.{ListLaws.any_more, Numbers.any_ascending, TableLaws.{any_in_filter, any_of_map}}}
use Rattle.law_events.{specs.Adjacent.{leads_to, led_keys, led_of_group, led_sources, may_lead}}

-- ---- tests that fail

pub neither_first : (a b : Bool) → (a || b) ≡ false → a ≡ false
neither_first a b e = grind arith

pub neither_second : (a b : Bool) → (a || b) ≡ false → b ≡ false
neither_second a b e = grind arith

-- a test that passes fewer fails where the other does
fewer_fail : (a b : Bool) → (a ≡ true → b ≡ true) → b ≡ false → a ≡ false
fewer_fail a b more fails = grind arith

-- the longest match is one of the list
module _ {X : Type 0} (prefix_of : X → Prefix) (test : X → Bool) where
  longer_fails : (x : X) (best : Option X) → test x ≡ false → option_map_or test best false ≡ false
      → test (longer prefix_of x best) ≡ false
  unfolding longer
  longer_fails x best here later = grind arith

  match_fails : (x : X) (best : Option X) (b : Bool) → test x ≡ false → option_map_or test best false ≡ false
      → option_map_or test (if b then Some (longer prefix_of x best) else best) false ≡ false
  match_fails x best b here later = grind (arith, longer_fails)

  pub longest_fails : (address : ℕ) (xs : List X) → list_any test xs ≡ false
      → option_map_or test (longest_match prefix_of xs address) false ≡ false
  unfolding longest_match
  longest_fails address [] none = refl
  longest_fails address (x ∷ xs) none =
      grind (arith, longest_fails address xs (neither_second (test x) (list_any test xs) none), match_fails, neither_first, neither_second)

-- the candidate that is chosen is one of the list
module _ (test : RpCandidate → Bool) (g : ℕ) where
  chosen_fails : (c : RpCandidate) (best : Option RpCandidate) → test c ≡ false → option_map_or test best false ≡ false
      → test (chosen g c best) ≡ false
  unfolding chosen
  chosen_fails c best here later = grind arith

  choice_fails : (c : RpCandidate) (best : Option RpCandidate) (b : Bool) → test c ≡ false
      → option_map_or test best false ≡ false
      → option_map_or test (if b then Some (chosen g c best) else best) false ≡ false
  choice_fails c best b here later = grind (arith, chosen_fails)

  none_chosen : (cs : List RpCandidate) → list_any test cs ≡ false
      → option_map_or test (chosen_among cs g) false ≡ false
  unfolding chosen_among
  none_chosen [] none = refl
  none_chosen (c ∷ cs) none =
      grind (arith, none_chosen cs (neither_second (test c) (list_any test cs) none), choice_fails, neither_first, neither_second)

-- RP(G) is the RP of a range or of a candidate
module _ (test : ℕ → Bool) where
  either_fails : (b : Bool) (m n : ℕ) → test m ≡ false → test n ≡ false → test (if b then m else n) ≡ false
  either_fails true m n first second = first
  either_fails false m n first second = second

  nearer_fails : (r : Option RpRange) (c : Option RpCandidate)
      → option_map_or (λ (r : RpRange). test r.rp.bits) r false ≡ false
      → option_map_or (λ (c : RpCandidate). test c.rp.bits) c false ≡ false
      → option_map_or test (nearer_rp r c) false ≡ false
  nearer_fails None None first second = refl
  nearer_fails None (Some c) first second = second
  nearer_fails (Some r) None first second = first
  nearer_fails (Some r) (Some c) first second =
      either_fails (nat_lt r.prefix.length c.prefix.length) c.rp.bits r.rp.bits second first

  unless_specific_fails : (b : Bool) (rp : Option ℕ) → option_map_or test rp false ≡ false
      → option_map_or test (if b then None else rp) false ≡ false
  unless_specific_fails true rp fails = refl
  unless_specific_fails false rp fails = fails

  pub rp_fails : (g : ℕ) (ranges : RpTable) → any_rp test ranges ≡ false
      → option_map_or test (rp_among ranges g) false ≡ false
  unfolding rp_among
  rp_fails g ranges none =
      unless_specific_fails (is_source_specific g) _
      (nearer_fails (longest_match (λ (r : RpRange). r.prefix) ranges.static_ranges g) (chosen_among ranges.candidates g)
      (longest_fails (λ (r : RpRange). r.prefix) (λ (r : RpRange). test r.rp.bits) g ranges.static_ranges
      (neither_first _ _ none))
      (none_chosen (λ (c : RpCandidate). test c.rp.bits) g ranges.candidates (neither_second _ _ none)))

-- no source of a group passes
pub sources_fail : (test : ℕ → Bool) (keys : List Key)
    → list_any (λ k. is_some k.source && test (source_in k)) keys ≡ false → (g : ℕ)
    → list_any test (sources_of g keys) ≡ false
unfolding sources_of
sources_fail test keys none g = grind (arith, any_ascending, any_of_map, any_in_filter, fewer_fail, any_more)

-- ---- a route to another address

module _ (configured : Addressing) (up : Table InterfaceRow) (routes : List Route) (i address : ℕ)
    (no_hop : list_any (λ (r : Route). r.next_hop.bits == address) routes ≡ false) where
  over_interface : (r : Route) (b : Bool) → (r.next_hop.bits == address) ≡ false
      → leads_to i address (if b then Some (route_path r) else None) ≡ false
  over_interface r b other = grind (arith, and-false)

  over_found : (best : Option Route) → option_map_or (λ (r : Route). r.next_hop.bits == address) best false ≡ false
      → leads_to i address (option_and_then (λ r. path_if_up up (route_path r)) best) ≡ false
  over_found best other = grind (arith, over_interface)

  over_route : (a : ℕ) → leads_to i address (routed_among up routes a) ≡ false
  unfolding routed_among
  over_route a = grind (arith, over_found, longest_fails, no_hop)

  over_link : (a : ℕ) (link : Option ℕ) (path : Option Path) → (a == address) ≡ false
      → leads_to i address path ≡ false
      → leads_to i address (option_map_or (λ j. Some (link_path a j)) link path) ≡ false
  over_link a link path other is = grind (arith, and-false)

  unless_own : (own : Bool) (path : Option Path) → leads_to i address path ≡ false
      → leads_to i address (if own then None else path) ≡ false
  unless_own own path is = grind arith

  route_elsewhere : (a : ℕ) → (a == address) ≡ false
      → leads_to i address (route_among configured up routes a) ≡ false
  unfolding route_among
  route_elsewhere a other = grind (arith, unless_own, over_link, over_route)

-- ---- of a group

-- the key names the address as its source
abbrev is_from : ℕ → Key → Bool
is_from address k = is_some k.source && (source_in k == address)

module _ (s : State) (i address : ℕ) (none : may_lead s address ≡ false) where
  no_hop : list_any (λ (r : Route). r.next_hop.bits == address) s.routes ≡ false
  unfolding may_lead
  no_hop = neither_first _ _ (neither_first _ _ none)

  no_rp : any_rp (λ rp. rp == address) s.ranges ≡ false
  unfolding may_lead
  no_rp = neither_second _ _ (neither_first _ _ none)

  no_source : list_any (is_from address) (fact_keys s) ≡ false
  unfolding may_lead
  no_source = neither_second _ _ none

  elsewhere : (a : ℕ) → (a == address) ≡ false → leads_to i address (route s a) ≡ false
  unfolding route
  elsewhere a other = route_elsewhere s.configured s.interfaces s.routes i address no_hop a other

  to_rp : (rp : Option ℕ) → option_map_or (λ n. n == address) rp false ≡ false
      → leads_to i address (option_and_then (route s) rp) ≡ false
  to_rp rp other = grind (arith, elsewhere)

  rp_elsewhere : (g : ℕ) → leads_to i address (rp_route s g) ≡ false
  unfolding rp_route rp_of
  rp_elsewhere g = to_rp (rp_among s.ranges g) (rp_fails (λ n. n == address) g s.ranges no_rp)

  none_led : (ns : List ℕ) → list_any (λ n. n == address) ns ≡ false
      → filter (λ src. leads_to i address (route s src)) ns ≡ []
  none_led [] others = refl
  none_led (n ∷ ns) others =
      rw (elsewhere n (neither_first (n == address) _ others)) (none_led ns (neither_second (n == address) _ others))

  -- no source of a group is the address
  of_others : (g : ℕ) → list_any (λ n. n == address) (sources_of g (fact_keys s)) ≡ false
  of_others g = sources_fail (λ n. n == address) (fact_keys s) no_source g

  nothing_of : (g : ℕ) → led_of_group s i address g ≡ []
  unfolding led_of_group led_sources
  nothing_of g = rw (rp_elsewhere g, none_led (sources_of g (fact_keys s)) (of_others g)) refl

  nothing_of_any : (gs : List ℕ) → flat_map (led_of_group s i address) gs ≡ []
  nothing_of_any [] = refl
  nothing_of_any (g ∷ gs) = rw (nothing_of g) (nothing_of_any gs)

  pub leads_nowhere : led_keys s i address ≡ []
  unfolding led_keys
  leads_nowhere = nothing_of_any (groups_of (fact_keys s))
