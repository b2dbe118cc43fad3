-- Which lists of routes and of RP ranges are accepted.
use Rattle.std.{proofs.Common.{◌≡◌, Bool, true, false, ◌&&◌, List, [], ◌∷◌, length, map, refl, ap}, specs.{List.list_all, Prelude.nat_le}}
use Rattle.pim_types.{specs.declared.config.{Route.Route, RpRange.RpRange}}
use Rattle.pim_trie.{specs.Entries.is_canonical}
use Rattle.pim_model.{specs.{Limits.{are_distinct, are_routes, are_rps, is_route, is_rp_range, most_routes, most_rps}, State.Addressing}}

pub and_first : (a b : Bool) → (a && b) ≡ true → a ≡ true
and_first true b e = refl
and_first false b e = cc

pub and_second : (a b : Bool) → (a && b) ≡ true → b ≡ true
and_second true b e = e
and_second false b e = cc

-- a list whose members each pass a stricter test
pub all_pass : {X : Type 0} (strict test : X → Bool) → ((x : X) → strict x ≡ true → test x ≡ true) → (xs : List X)
    → list_all strict xs ≡ true → list_all test xs ≡ true
all_pass strict test weaker [] h = refl
all_pass strict test weaker (x ∷ xs) h =
    rw (weaker x (and_first (strict x) _ h), all_pass strict test weaker xs (and_second (strict x) _ h)) refl

module _ (configured : Addressing) where
  -- the tests of each route, and the one of all together
  abbrev pub pass_each : List Route → Bool
  pass_each routes = nat_le (length routes) most_routes && list_all (is_route configured) routes

  route_prefix : (r : Route) → is_route configured r ≡ true → is_canonical r.prefix ≡ true
  unfolding is_route is_canonical
  route_prefix r h = and_first _ _ (and_first _ _ (and_first _ _ (and_first _ _ h)))

  pub routes_canonical : (routes : List Route) → pass_each routes ≡ true
      → list_all (λ (r : Route). is_canonical r.prefix) routes ≡ true
  routes_canonical routes h =
      all_pass (is_route configured) (λ (r : Route). is_canonical r.prefix) route_prefix routes
      (and_second (nat_le (length routes) most_routes) _ h)

  pub routes_apart : (routes : List Route) → pass_each routes ≡ true
      → are_routes configured routes ≡ are_distinct (map (λ (r : Route). r.prefix) routes)
  unfolding are_routes
  routes_apart routes h = ap (λ (b : Bool). b && are_distinct (map (λ (r : Route). r.prefix) routes)) h

  pub routes_refused : (routes : List Route) → pass_each routes ≡ false → are_routes configured routes ≡ false
  unfolding are_routes
  routes_refused routes h = ap (λ (b : Bool). b && are_distinct (map (λ (r : Route). r.prefix) routes)) h

abbrev pub pass_each_rp : List RpRange → Bool
pass_each_rp ranges = nat_le (length ranges) most_rps && list_all is_rp_range ranges

range_prefix : (r : RpRange) → is_rp_range r ≡ true → is_canonical r.prefix ≡ true
unfolding is_rp_range is_canonical
range_prefix r h = and_first _ _ (and_first _ _ (and_first _ _ h))

pub ranges_canonical : (ranges : List RpRange) → pass_each_rp ranges ≡ true
    → list_all (λ (r : RpRange). is_canonical r.prefix) ranges ≡ true
ranges_canonical ranges h =
    all_pass is_rp_range (λ (r : RpRange). is_canonical r.prefix) range_prefix ranges
    (and_second (nat_le (length ranges) most_rps) _ h)

pub ranges_apart : (ranges : List RpRange) → pass_each_rp ranges ≡ true
    → are_rps ranges ≡ are_distinct (map (λ (r : RpRange). r.prefix) ranges)
unfolding are_rps
ranges_apart ranges h = ap (λ (b : Bool). b && are_distinct (map (λ (r : RpRange). r.prefix) ranges)) h

pub ranges_refused : (ranges : List RpRange) → pass_each_rp ranges ≡ false → are_rps ranges ≡ false
unfolding are_rps
ranges_refused ranges h = ap (λ (b : Bool). b && are_distinct (map (λ (r : RpRange). r.prefix) ranges)) h

pub ruleset accepted = (routes_canonical, routes_apart, routes_refused, ranges_canonical, ranges_apart, ranges_refused)
