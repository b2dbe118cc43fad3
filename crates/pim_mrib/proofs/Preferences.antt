-- The preferences of routes have 31 bits.
use Rattle.std.{proofs.{Common.{◌≡◌, ◌<◌, ◌^◌, ℕ, Bool, true, false, List, [], ◌∷◌, Option, Some, None, ap, ◌∙◌, arith}, lemmas.Bool.Decides.nat_tests}, specs.{List.list_all, Option.{IfSome, option_map_or}, Prelude.{nat_le, nat_lt, if◌then◌else◌, option_and_then}}}
use Rattle.pim_ip.{specs.{declared.addr.Prefix.Prefix, Prefixes.{contains, longer, longest_match}}}
use Rattle.pim_types.{specs.{declared.{config.Route.Route, fact.InterfaceRow.InterfaceRow, path.Path.Path}, Keys.iface_key}}
use Rattle.pim_model.{specs.{State.{Addressing, is_own_among}, Tables.{Table, has_row}, Limits.is_route, Unicast.{link_among, link_path, path_if_up, route_among, route_path, routed_among}}}
use Rattle.pim_mrib.{specs.Routes.are_preferred, proofs.Accepted.{all_pass, and_first, and_second, pass_each}}

-- what passes a test that all members pass
module _ {X : Type 0} (prefix_of : X → Prefix) (test : X → Bool) where
  longer_passes : (x : X) (best : Option X) → test x ≡ true → IfSome best (λ y. test y ≡ true)
      → test (longer prefix_of x best) ≡ true
  unfolding longer
  longer_passes x None here later = here
  longer_passes x (Some y) here later = go (nat_lt (prefix_of y).length (prefix_of x).length)
    where
      go : (b : Bool) → test (if b then x else y) ≡ true
      go true = here
      go false = later

  match_passes : (x : X) (best : Option X) (b : Bool) → test x ≡ true → IfSome best (λ y. test y ≡ true)
      → IfSome (if b then Some (longer prefix_of x best) else best) (λ y. test y ≡ true)
  match_passes x best true here later = longer_passes x best here later
  match_passes x best false here later = later

  longest_passes : (address : ℕ) (xs : List X) → list_all test xs ≡ true
      → IfSome (longest_match prefix_of xs address) (λ y. test y ≡ true)
  unfolding longest_match
  longest_passes address [] all = tt
  longest_passes address (x ∷ xs) all =
      match_passes x (longest_match prefix_of xs address) (contains (prefix_of x) address)
      (and_first (test x) (list_all test xs) all)
      (longest_passes address xs (and_second (test x) (list_all test xs) all))

abbrev IsShort : Option Path → Type 0
IsShort path = IfSome path (λ (p : Path). p.preference < 2 ^ 31)

short : (n : ℕ) → nat_le n 0x7FFF_FFFE ≡ true → n < 2 ^ 31
short n within = grind (arith, nat_tests)

module _ (configured : Addressing) (up : Table InterfaceRow) (routes : List Route) (address : ℕ)
    (all : are_preferred routes ≡ true) where
  up_is_short : (r : Route) (b : Bool) → nat_le r.preference 0x7FFF_FFFE ≡ true
      → IsShort (if b then Some (route_path r) else None)
  up_is_short r true within = short r.preference within
  up_is_short r false within = tt

  found_is_short : (best : Option Route) → IfSome best (λ (r : Route). nat_le r.preference 0x7FFF_FFFE ≡ true)
      → IsShort (option_and_then (λ r. path_if_up up (route_path r)) best)
  found_is_short None within = tt
  found_is_short (Some r) within = up_is_short r (has_row up (iface_key r.iface.number)) within

  routed_is_short : IsShort (routed_among up routes address)
  unfolding routed_among
  routed_is_short =
      found_is_short (longest_match (λ (r : Route). r.prefix) routes address)
      (longest_passes (λ (r : Route). r.prefix) (λ (r : Route). nat_le r.preference 0x7FFF_FFFE) address routes all)

  link_is_short : (link : Option ℕ) (path : Option Path) → IsShort path
      → IsShort (option_map_or (λ i. Some (link_path address i)) link path)
  link_is_short None path is = is
  link_is_short (Some i) path is = omega arith

  unless_own : (own : Bool) (path : Option Path) → IsShort path → IsShort (if own then None else path)
  unless_own true path is = tt
  unless_own false path is = is

  pub route_is_short : IsShort (route_among configured up routes address)
  unfolding route_among
  route_is_short =
      unless_own (is_own_among configured address) _
      (link_is_short (link_among configured up address) (routed_among up routes address) routed_is_short)

-- the routes that are accepted
module _ (configured : Addressing) where
  route_is_preferred : (r : Route) → is_route configured r ≡ true → nat_le r.preference 0x7FFF_FFFE ≡ true
  unfolding is_route
  route_is_preferred r is = and_second _ _ is

  pub accepted_are_preferred : (routes : List Route) → pass_each configured routes ≡ true
      → are_preferred routes ≡ true
  accepted_are_preferred routes accepted =
      all_pass (is_route configured) (λ (r : Route). nat_le r.preference 0x7FFF_FFFE) route_is_preferred routes
      (and_second _ _ accepted)

pub replaced_are_preferred : (b : Bool) (routes old new : List Route) → new ≡ (if b then routes else old)
    → are_preferred routes ≡ true → are_preferred old ≡ true → are_preferred new ≡ true
replaced_are_preferred true routes old new is here before = ap are_preferred is ∙ here
replaced_are_preferred false routes old new is here before = ap are_preferred is ∙ before
