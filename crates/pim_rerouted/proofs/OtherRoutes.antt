-- What new routes move of a group, and that routes and RP ranges which are those there are move nothing.
use Rattle.std.{proofs.{Common.{◌≡◌, ℕ, Bool, true, false, not, List, [], ◌∷◌, ◌++◌, Some, None, filter, map, refl, ap, subst, sym, ◌∙◌, eq-eqb}, lemmas.List.Concat.flat_map-cons}, specs.{Cmp.Derive.both_true, List.flat_map, Prelude.if◌then◌else◌}}
use Rattle.pim_types.{specs.{declared.{config.{Route.Route, RpTable.RpTable}, fact.{Key.Key, RegisterRow.RegisterRow, RegisterState.RegisterState}}, Keys.{group_in, source_key, star_key}}}
use Rattle.pim_model.{specs.{Registers.registers_after_rps, Rows.{same_both, same_path}, State.State, Step.rps_replaced, Tables.{Table, same_option}, Unicast.{route, rp_of, rp_route}, Upstream.{fact_keys, groups_of, sources_of}}}
use Rattle.law_events.{specs.{Moved.{keys_by_routes, keys_by_rps, moved_of_group, rerouted_sources}, Named.has_same_rp}, proofs.{Sights.{options_same, paths_same}, Differing.none_left}}
use Rattle.pim_rerouted.{specs.OtherRoutes.{has_other_route, with_routes}}

turned : (m b d : Bool) → m ≡ not b → m ≡ not d → b ≡ d
turned m true true e f = refl
turned true true false e f = cc
turned false true false e f = cc
turned true false true e f = cc
turned false false true e f = cc
turned m false false e f = refl

module _ (s : State) (routes : List Route) (g : ℕ) where
  abbrev after : State
  after = with_routes s routes

  pub moved_with_rp : (rp : ℕ) → rp_of s g ≡ Some rp → has_other_route s after rp ≡ not (has_same_rp g s after)
  unfolding has_same_rp rp_route rp_of
  moved_with_rp rp is = rw (is, eq-eqb rp rp refl) refl

  pub unmoved_without_rp : rp_of s g ≡ None → false ≡ not (has_same_rp g s after)
  unfolding has_same_rp rp_route rp_of
  unmoved_without_rp is = rw is refl

  -- m tells whether its RP has another route
  module _ (m : Bool) (tells : m ≡ not (has_same_rp g s after)) where
    pub all_moved : m ≡ true → star_key 0 g ∷ [] ≡ moved_of_group s after g
    unfolding moved_of_group
    all_moved moved = rw (turned m (has_same_rp g s after) false tells moved) refl

    pub some_moved : m ≡ false → (sources : List ℕ) → sources ≡ sources_of g (fact_keys s)
        → map (source_key 0 g) (filter (has_other_route s after) sources) ≡ moved_of_group s after g
    unfolding moved_of_group rerouted_sources
    some_moved calm sources are =
        rw (turned m (has_same_rp g s after) true tells calm)
        (ap (λ (ns : List ℕ). map (source_key 0 g) (filter (has_other_route s after) ns)) are)

-- ---- where they are those there are nothing is moved

flat_map_none : {A B : Type 0} (f : A → List B) → ((x : A) → f x ≡ []) → (xs : List A) → flat_map f xs ≡ []
flat_map_none f none [] = refl
flat_map_none f none (x ∷ xs) =
    flat_map-cons f x xs ∙ ap (λ (ys : List _). ys ++ flat_map f xs) (none x) ∙ flat_map_none f none xs

module _ (s : State) where
  group_same : (g : ℕ) → has_same_rp g s s ≡ true
  unfolding has_same_rp
  group_same g =
      both_true (options_same (rp_of s g) (rp_of s g) refl) (paths_same (rp_route s g) (rp_route s g) refl)

  no_source_moved : (g : ℕ) → rerouted_sources s s g ≡ []
  unfolding rerouted_sources
  no_source_moved g =
      none_left (λ src. not (same_both same_path (route s src) (route s src)))
      (λ src. ap not (paths_same (route s src) (route s src) refl)) (sources_of g (fact_keys s))

  none_of_group : (g : ℕ) → moved_of_group s s g ≡ []
  unfolding moved_of_group
  none_of_group g =
      rw (group_same g) (ap (λ (ns : List ℕ). map (source_key 0 g) ns) (no_source_moved g))

  none_by_itself : keys_by_routes s s ≡ []
  unfolding keys_by_routes
  none_by_itself = flat_map_none (moved_of_group s s) none_of_group (groups_of (fact_keys s))

  pub none_by_same_routes : (routes : List Route) → s.routes ≡ routes → [] ≡ keys_by_routes s (with_routes s routes)
  none_by_same_routes routes same =
      subst (λ (rs : List Route). [] ≡ keys_by_routes s (with_routes s rs)) same (sym none_by_itself)

  none_by_rps : [] ≡ keys_by_rps s (rps_replaced s s.ranges)
  unfolding keys_by_rps rps_replaced rp_of
  none_by_rps =
      sym (ap (map (star_key 0)) (none_left (λ g. not (same_option (rp_of s g) (rp_of s g)))
      (λ g. ap not (options_same (rp_of s g) (rp_of s g) refl)) (groups_of (fact_keys s))))

  pub none_by_same_rps : (ranges : RpTable) → s.ranges ≡ ranges → [] ≡ keys_by_rps s (rps_replaced s ranges)
  none_by_same_rps ranges same =
      subst (λ (rs : RpTable). [] ≡ keys_by_rps s (rps_replaced s rs)) same none_by_rps

  registers_same : (t : Table RegisterRow)
      → map (λ (e : Key × RegisterRow). if same_option (rp_of s (group_in e.0)) (rp_of s (group_in e.0)) then e
      else (e.0, record { state = RegisterState.Join })) t ≡ t
  registers_same [] = refl
  registers_same (e ∷ es) =
      rw (options_same (rp_of s (group_in e.0)) (rp_of s (group_in e.0)) refl)
      (ap (λ (t : Table RegisterRow). e ∷ t) (registers_same es))

  pub same_rps_replaced : s ≡ rps_replaced s s.ranges
  unfolding rps_replaced registers_after_rps rp_of
  same_rps_replaced =
      sym (ap (λ (t : Table RegisterRow). let x : State = record s { registers = t } in x) (registers_same s.registers))
