-- A source that a change doesn't touch isn't named, whether it has a fact or not, where routes and RP ranges are as
-- they were.
use Rattle.std.{proofs.Common.{◌≡◌, ℕ, false, inl, inr, map, true, sym, ap, ◌∙◌}, specs.{Cmp.Derive.both_true, Prelude.option_and_then}}
use Rattle.pim_types.specs.declared.config.RpTable.{RpTable}
use Rattle.pim_model.{specs.{Clearing.clear, State.State, Unicast.{route, route_among, rp_among, rp_of, rp_route}}}
use Rattle.law_events.{specs.{Locality.IsQuiet, Moved.IsRerouted, Named.{has_same_routes, has_same_rp, is_source_named}, Scopes.only_up}, proofs.{Configured.ups, Rerouted.{around_rerouted, rerouted_beside, rerouted_unnamed}, SharedMacros.route_cut, Sights.{options_same, paths_same}, Touched.touched_names}}
use Rattle.pim_state.{specs.declared.touched.Touched.Touched}
use Rattle.pim_fanout.{specs.{Contains.Switches, Disturbed.is_disturbed, Laws.UntouchedIsUnnamed}}

module _ (o c : State) (is : IsRerouted o c) (routes : o.routes ≡ c.routes) (ranges : o.ranges ≡ c.ranges)
    (ups : ups c ≡ ups o) where
  route_same : (address : ℕ) → route o address ≡ route c address
  unfolding route
  route_same address =
      sym (route_cut o.configured o.interfaces address o.routes)
      ∙ (λ j. route_among (ap (λ (u : State). u.configured) (sym is.only) j) (sym ups j) (routes j) address)
      ∙ route_cut c.configured c.interfaces address c.routes

  rp_same : (g : ℕ) → rp_of o g ≡ rp_of c g
  unfolding rp_of
  rp_same g = ap (λ (rs : RpTable). rp_among rs g) ranges

  rp_route_same : (g : ℕ) → rp_route o g ≡ rp_route c g
  unfolding rp_route
  rp_route_same g =
      ap (option_and_then (route o)) (rp_same g)
      ∙ (λ j. option_and_then (λ a. route_same a j) (rp_of c g))

  routes_same : (g src : ℕ) → has_same_routes g src o c ≡ true
  unfolding has_same_routes has_same_rp
  routes_same g src =
      both_true (both_true (options_same (rp_of o g) (rp_of c g) (rp_same g))
      (paths_same (rp_route o g) (rp_route c g) (rp_route_same g)))
      (paths_same (route o src) (route c src) (route_same src))

-- where routes, RP ranges and interfaces that are up are as they were, a source isn't named
pub unmoved_is_unnamed : (o c : State) → IsQuiet o → IsRerouted o c → o.routes ≡ c.routes → o.ranges ≡ c.ranges
    → ups c ≡ ups o → (g src : ℕ) → is_source_named g src o (clear o c).0 ≡ false
unmoved_is_unnamed o c quiet is routes ranges same g src =
    rerouted_unnamed o c (around_rerouted o c is) (rerouted_beside o c is) quiet g src
    (routes_same o c is routes ranges same g src)

-- an interface that goes up or down changes no such thing
pub switched_is_unnamed : (o c : State) → IsQuiet o → (touched : Touched) → Switches touched o c → o.routes ≡ c.routes
    → o.ranges ≡ c.ranges → ups c ≡ ups o → (g src : ℕ) → is_source_named g src o (clear o c).0 ≡ false
switched_is_unnamed o c quiet Touched.All none routes ranges same g src = absurd none
switched_is_unnamed o c quiet (Touched.Keys keys) switches routes ranges same g src =
    unmoved_is_unnamed o c quiet switches.rerouted routes ranges same g src

pub untouched_is_unnamed : UntouchedIsUnnamed
unfolding is_disturbed
untouched_is_unnamed o c quiet Touched.All covers g src routes ranges out = cc
untouched_is_unnamed o c quiet (Touched.Keys keys) (inl concerns) g src routes ranges out =
    touched_names keys o c quiet concerns.agrees g src out
untouched_is_unnamed o c quiet (Touched.Keys keys) (inr moves) g src routes ranges out =
    unmoved_is_unnamed o c quiet (moves.0).rerouted routes ranges (ap (map only_up) (sym moves.1)) g src
