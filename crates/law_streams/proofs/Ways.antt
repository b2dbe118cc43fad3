-- The way to an address is the same where routes, ranges and the interfaces that are up are.
use Rattle.std.{proofs.Common.{◌≡◌, ℕ, Bool, false, ◌&&◌, List, length, Option, Some, None, refl, arith}, specs.{Option.option_map_or, Prelude.{find, if◌then◌else◌, option_and_then, slice_get}}}
use Rattle.pim_ip.{specs.Prefixes.{contains, longest_match}}
use Rattle.pim_types.{specs.declared.{config.Route.Route, path.Path.Path}}
use Rattle.pim_model.{specs.{State.{Addressing, State, is_own_among, is_up}, Tables.below, Unicast.{is_on_link_among, is_rpf_interface, is_rpf_interface_rp, link_among, link_path, route, route_among, route_path, routed_among, rp_of, rp_route, rpf_interface, rpf_interface_rp, subnet}}}

-- the route by a test of which interfaces are up
unfoldable path_by : (ℕ → Bool) → Path → Option Path
path_by up p = if up p.iface.number then Some p else None

unfoldable route_by : Addressing → (ℕ → Bool) → List Route → ℕ → Option Path
route_by configured up routes address =
    let over_link : Option ℕ =
    find (λ i. up i && option_map_or (λ c. contains (subnet c) address) (slice_get configured.interfaces i) false) (below (length configured.interfaces)) in
    let over_route : Option Path =
    option_and_then (λ r. path_by up (route_path r)) (longest_match (λ (r : Route). r.prefix) routes address) in
    if is_own_among configured address then None
    else option_map_or (λ i. Some (link_path address i)) over_link over_route

by_test : (s : State) (address : ℕ) → route s address ≡ route_by s.configured (is_up s) s.routes address
unfolding route route_among link_among routed_among is_on_link_among route_by path_by
by_test s address = refl

pub record SameGround (s t : State) : Type 0 where
  pub configured : t.configured ≡ s.configured
  pub routes : t.routes ≡ s.routes
  pub ranges : t.ranges ≡ s.ranges
  pub up : (i : ℕ) → is_up t i ≡ is_up s i

pub same_route : (s t : State) → SameGround s t → (address : ℕ) → route t address ≡ route s address
same_route s t f address = grind (arith, by_test)

pub same_interface : (s t : State) → SameGround s t → (address i : ℕ) → is_rpf_interface t address i ≡ is_rpf_interface s address i
unfolding rpf_interface
same_interface s t f address i = rw (same_route s t f address) refl

pub same_interface_rp : (s t : State) → SameGround s t → (g i : ℕ) → is_rpf_interface_rp t g i ≡ is_rpf_interface_rp s g i
unfolding rpf_interface_rp rp_route rp_of
same_interface_rp s t f g i = grind (arith, same_route)

pub ground_again : (s t u : State) → SameGround s t → SameGround t u → SameGround s u
ground_again s t u f h = grind arith

pub ground_itself : (s : State) → SameGround s s
ground_itself s = record { configured = refl; routes = refl; ranges = refl; up = λ i. refl }
