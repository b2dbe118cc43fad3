-- The macros of a state with other neighbours: all are as they were where the router is the DR of the same interfaces
-- among those where a receiver or the source is, but for the upstream neighbours, which are where the next hops are.
use Rattle.std.{proofs.Common.{◌≡◌, ℕ, Bool, Option, false, not, ◌||◌, ◌&&◌, cond, refl, ap, ◌∙◌, arith}, specs.Option.{option_map_or, option_or}}
use Rattle.pim_types.{specs.{declared.{fact.{Key.Key, NeighbourRow.NeighbourRow}, path.Path.Path}, Keys.{group_in, iface_in, is_star, source_in}}}
use Rattle.pim_model.{specs.{AssertMacros.{could_assert, could_assert_star, forwarding_set, infinite, is_tracking_desired, is_tracking_desired_star, my_metric, my_metric_star}, Asserts.{could_assert_at, is_tracking_at, my_metric_at}, Cache.may_register, Clearing.is_rpf_at, Desires.{is_immediate_empty, is_inherited_empty, join_desired, join_desired_star, prune_desired, rpf_rpt, rpf_source, rpf_star, tree_state, winner_hop}, Forwarding.has_local_receivers, Neighbours.{is_dr, nbr}, Receivers.{is_exclude, local_receiver_exclude, local_receiver_exclude_among, local_receiver_include}, Registers.{could_register, has_other_rp, is_dr_of_path}, Sets.{assert_source, assert_star, immediate_olist, immediate_olist_star, inherited_olist, inherited_olist_rpt, is_beaten, is_empty, is_kept_alive, is_winner, joins, joins_star, lost_assert, lost_assert_rpt, lost_assert_star, pim_exclude, pim_include, pim_include_star, prunes, rpt_metric, serves, serves_star, spt_bit, spt_metric, tunnel, ◌∖◌, ◌∪◌}, State.State, Tables.Table, Unicast.{is_connected, is_rpf_interface, is_rpf_interface_rp, route, rp_of, rp_route, rpf_interface, rpf_interface_rp}}}
use Rattle.law_events.{specs.Adjacent.with_neighbour_rows, proofs.KeptSources.{narrower, served, tracked}}

module _ (t : State) (rows : Table NeighbourRow) where
  abbrev u : State
  u = with_neighbour_rows t rows

  -- ---- what reads no neighbours

  pub rp_as : (g : ℕ) → rp_of t g ≡ rp_of u g
  unfolding rp_of
  rp_as g = refl

  pub rp_route_as : (g : ℕ) → rp_route t g ≡ rp_route u g
  unfolding rp_route rp_of route
  rp_route_as g = refl

  pub route_as : (src : ℕ) → route t src ≡ route u src
  unfolding route
  route_as src = refl

  pub rpf_interface_rp_as : (g : ℕ) → rpf_interface_rp t g ≡ rpf_interface_rp u g
  unfolding rpf_interface_rp rp_route rp_of route
  rpf_interface_rp_as g = refl

  pub rpf_interface_as : (src : ℕ) → rpf_interface t src ≡ rpf_interface u src
  unfolding rpf_interface route
  rpf_interface_as src = refl

  rpf_rp_as : (g i : ℕ) → is_rpf_interface_rp t g i ≡ is_rpf_interface_rp u g i
  unfolding rpf_interface_rp rp_route rp_of route
  rpf_rp_as g i = refl

  pub rpf_as : (src i : ℕ) → is_rpf_interface t src i ≡ is_rpf_interface u src i
  unfolding rpf_interface route
  rpf_as src i = refl

  lost_star_as : (g : ℕ) → lost_assert_star t g ≡ lost_assert_star u g
  unfolding lost_assert_star rpf_interface_rp rp_route rp_of route
  lost_star_as g = refl

  lost_as : (g src : ℕ) → lost_assert t g src ≡ lost_assert u g src
  unfolding lost_assert is_beaten spt_metric rpf_interface route
  lost_as g src = refl

  lost_rpt_as : (g src : ℕ) → lost_assert_rpt t g src ≡ lost_assert_rpt u g src
  unfolding lost_assert_rpt rpf_interface_rp rpf_interface rp_route rp_of route spt_bit
  lost_rpt_as g src = refl

  pub joins_star_as : (g : ℕ) → joins_star t g ≡ joins_star u g
  unfolding joins_star
  joins_star_as g = refl

  pub joins_as : (g src : ℕ) → joins t g src ≡ joins u g src
  unfolding joins
  joins_as g src = refl

  pub prunes_as : (g src : ℕ) → prunes t g src ≡ prunes u g src
  unfolding prunes
  prunes_as g src = refl

  pub exclude_as : (g : ℕ) → is_exclude t g ≡ is_exclude u g
  unfolding is_exclude
  exclude_as g = refl

  pub local_include_as : (g src : ℕ) → local_receiver_include t g src ≡ local_receiver_include u g src
  unfolding local_receiver_include
  local_include_as g src = refl

  pub local_exclude_as : (g src : ℕ) → local_receiver_exclude t g src ≡ local_receiver_exclude u g src
  unfolding local_receiver_exclude
  local_exclude_as g src = refl

  pub spt_as : (g src : ℕ) → spt_bit t g src ≡ spt_bit u g src
  unfolding spt_bit
  spt_as g src = refl

  kept_alive_as : (g src : ℕ) → is_kept_alive t g src ≡ is_kept_alive u g src
  unfolding is_kept_alive
  kept_alive_as g src = refl

  pub tunnel_as : (g src : ℕ) → tunnel t g src ≡ tunnel u g src
  unfolding tunnel
  tunnel_as g src = refl

  pub beaten_as : (g src : ℕ) → is_beaten t g src ≡ is_beaten u g src
  unfolding is_beaten spt_metric route
  beaten_as g src = refl

  rpt_metric_as : (g i : ℕ) → rpt_metric t g i ≡ rpt_metric u g i
  unfolding rpt_metric rp_route rp_of route
  rpt_metric_as g i = refl

  spt_metric_as : (src i : ℕ) → spt_metric t src i ≡ spt_metric u src i
  unfolding spt_metric route
  spt_metric_as src i = refl

  other_rp_as : (g : ℕ) → has_other_rp t g ≡ has_other_rp u g
  unfolding has_other_rp rp_of
  other_rp_as g = refl

  pub connected_as : (src : ℕ) → is_connected t src ≡ is_connected u src
  unfolding is_connected route
  connected_as src = refl

  empty_as : (a : ℕ → Bool) → is_empty t a ≡ is_empty u a
  unfolding is_empty
  empty_as a = refl

  empty_so : (a b : ℕ → Bool) → a ≡ b → is_empty t a ≡ is_empty u b
  empty_so a b e = empty_as a ∙ ap (is_empty u) e

  -- ---- what reads where the router is the DR

  -- of the interfaces with a receiver of (*,G) the router is the DR with both tables of neighbours, or with neither
  abbrev pub SameStarDr : ℕ → Type 0
  SameStarDr g = (i : ℕ) → (is_dr t i && is_exclude t g i) ≡ (is_dr u i && is_exclude t g i)

  -- and of those with a receiver of the source
  abbrev pub SameSourceDr : ℕ → ℕ → Type 0
  SameSourceDr g src =
      (i : ℕ) → (is_dr t i && local_receiver_include t g src i) ≡ (is_dr u i && local_receiver_include t g src i)

  -- and of the source's own link
  abbrev pub SameLinkDr : ℕ → Type 0
  SameLinkDr src =
      option_map_or (is_dr_of_path t) (route t src) false ≡ option_map_or (is_dr_of_path u) (route t src) false

  module _ (g : ℕ) (star_dr : SameStarDr g) where
    -- among some of the receivers of (*,G)
    serves_star_so : (i : ℕ) (x : Bool) → (is_dr t i && x) ≡ (is_dr u i && x)
        → (serves_star t g i && x) ≡ (serves_star u g i && x)
    unfolding serves_star
    serves_star_so i x here = grind (arith, lost_star_as, served)

    include_star_at : (i : ℕ) → pim_include_star t g i ≡ pim_include_star u g i
    unfolding pim_include_star
    include_star_at i = grind (arith, serves_star_so, exclude_as)

    pub include_star_so : pim_include_star t g ≡ pim_include_star u g
    include_star_so = λ j i. include_star_at i j

    immediate_star_so : immediate_olist_star t g ≡ immediate_olist_star u g
    unfolding immediate_olist_star
    immediate_star_so = λ j. joins_star_as g j ∪ include_star_so j ∖ lost_star_as g j

    pub desired_star_so : join_desired_star t g ≡ join_desired_star u g
    unfolding join_desired_star
    desired_star_so = ap not (empty_so _ _ immediate_star_so)

    pub could_star_so : (i : ℕ) → could_assert_star t g i ≡ could_assert_star u g i
    unfolding could_assert_star
    could_star_so i = λ j. (joins_star_as g j ∪ include_star_so j) i && not (rpf_rp_as g i j)

    asked_star_so : (i : ℕ) → (is_exclude t g i && (is_dr t i || is_winner (assert_star t g i)))
        ≡ (is_exclude u g i && (is_dr u i || is_winner (assert_star u g i)))
    asked_star_so i = grind (arith, tracked, exclude_as)

    tracking_star_so : (i : ℕ) → is_tracking_desired_star t g i ≡ is_tracking_desired_star u g i
    unfolding is_tracking_desired_star
    tracking_star_so i = grind (arith, could_star_so, asked_star_so, rpf_rp_as, desired_star_so)

    metric_star_so : (i : ℕ) → my_metric_star t g i ≡ my_metric_star u g i
    unfolding my_metric_star
    metric_star_so i = λ j. cond (could_star_so i j) (rpt_metric_as g i j) infinite

    module _ (src : ℕ) (source_dr : SameSourceDr g src) where
      include_at : (i : ℕ) → pim_include t g src i ≡ pim_include u g src i
      unfolding pim_include serves
      include_at i = grind (arith, lost_as, served, local_include_as)

      pub include_so : pim_include t g src ≡ pim_include u g src
      include_so = λ j i. include_at i j

      -- receivers that exclude the source are receivers of (*,G)
      excluded_dr : (i : ℕ) → (is_dr t i && local_receiver_exclude t g src i) ≡ (is_dr u i && local_receiver_exclude t g src i)
      unfolding is_exclude local_receiver_exclude local_receiver_exclude_among
      excluded_dr i = narrower (is_dr t i) (is_dr u i) (is_exclude t g i) _ (star_dr i)

      exclude_at : (i : ℕ) → pim_exclude t g src i ≡ pim_exclude u g src i
      unfolding pim_exclude
      exclude_at i = grind (arith, serves_star_so, excluded_dr, local_exclude_as)

      pub exclude_so : pim_exclude t g src ≡ pim_exclude u g src
      exclude_so = λ j i. exclude_at i j

      pub immediate_so : immediate_olist t g src ≡ immediate_olist u g src
      unfolding immediate_olist
      immediate_so = λ j. joins_as g src j ∪ include_so j ∖ lost_as g src j

      pub inherited_rpt_so : inherited_olist_rpt t g src ≡ inherited_olist_rpt u g src
      unfolding inherited_olist_rpt
      inherited_rpt_so = grind (arith, joins_star_as, prunes_as, include_star_so, exclude_so, lost_star_as, lost_rpt_as)

      pub inherited_so : inherited_olist t g src ≡ inherited_olist u g src
      unfolding inherited_olist
      inherited_so = λ j. inherited_rpt_so j ∪ joins_as g src j ∪ include_so j ∖ lost_as g src j

      immediate_empty_so : is_immediate_empty t g src ≡ is_immediate_empty u g src
      unfolding is_immediate_empty
      immediate_empty_so = λ j. empty_so _ _ immediate_so j && not (tunnel_as g src j)

      pub inherited_empty_so : is_inherited_empty t g src ≡ is_inherited_empty u g src
      unfolding is_inherited_empty
      inherited_empty_so = λ j. empty_so _ _ inherited_so j && not (tunnel_as g src j)

      pub inherited_rpt_empty_so : is_empty t (inherited_olist_rpt t g src) ≡ is_empty u (inherited_olist_rpt u g src)
      inherited_rpt_empty_so = empty_so _ _ inherited_rpt_so

      pub desired_so : join_desired t g src ≡ join_desired u g src
      unfolding join_desired
      desired_so = λ j. not (immediate_empty_so j) || (kept_alive_as g src j && not (inherited_empty_so j))

      forwarding_so : forwarding_set t g src ≡ forwarding_set u g src
      unfolding forwarding_set
      forwarding_so = grind (arith, joins_star_as, prunes_as, include_star_so, exclude_so, lost_star_as, joins_as)

      pub could_so : (i : ℕ) → could_assert t g src i ≡ could_assert u g src i
      unfolding could_assert
      could_so i = λ j. spt_as g src j && not (rpf_as src i j) && (forwarding_so j ∪ include_so j) i

      asked_so : (i : ℕ) → (local_receiver_include t g src i && (is_dr t i || is_winner (assert_source t g src i)))
          ≡ (local_receiver_include u g src i && (is_dr u i || is_winner (assert_source u g src i)))
      asked_so i = grind (arith, tracked, local_include_as)

      tracking_so : (i : ℕ) → is_tracking_desired t g src i ≡ is_tracking_desired u g src i
      unfolding is_tracking_desired
      tracking_so i = grind (arith, forwarding_so, asked_so, rpf_as, desired_so, rpf_rp_as, desired_star_so, spt_as)

      metric_so : (i : ℕ) → my_metric t g src i ≡ my_metric u g src i
      unfolding my_metric
      metric_so i = λ j. cond (could_so i j) (spt_metric_as src i j) (metric_star_so i j)

      pub has_receivers_so : has_local_receivers t g src ≡ has_local_receivers u g src
      unfolding has_local_receivers
      has_receivers_so = grind (arith, empty_so, include_star_so, exclude_so, include_so)

      -- ---- which tree is joined

      module _ (star_up : rpf_star t g ≡ rpf_star u g) (source_up : rpf_source t g src ≡ rpf_source u g src) where
        prune_desired_so : prune_desired t g src ≡ prune_desired u g src
        unfolding prune_desired
        prune_desired_so = grind (arith, desired_star_so, inherited_rpt_empty_so, spt_as)

        pub tree_state_so : tree_state t g src ≡ tree_state u g src
        unfolding tree_state
        tree_state_so = grind (arith, desired_star_so, prune_desired_so)

  -- ---- registers

  module _ (g src : ℕ) (link_dr : SameLinkDr src) where
    link_so : option_map_or (is_dr_of_path t) (route t src) false ≡ option_map_or (is_dr_of_path u) (route u src) false
    link_so = link_dr ∙ ap (λ (path : Option Path). option_map_or (is_dr_of_path u) path false) (route_as src)

    pub may_register_so : may_register t g src ≡ may_register u g src
    unfolding may_register
    may_register_so = λ j. link_so j && other_rp_as g j

    pub could_register_so : could_register t g src ≡ could_register u g src
    unfolding could_register
    could_register_so = λ j. link_so j && kept_alive_as g src j && other_rp_as g j

  -- ---- by the key of an assert

  module _ (k : Key) (star_dr : SameStarDr (group_in k)) (source_dr : SameSourceDr (group_in k) (source_in k)) where
    pub could_at_so : could_assert_at t k ≡ could_assert_at u k
    could_at_so = grind (arith, could_star_so, could_so)

    pub tracking_at_so : is_tracking_at t k ≡ is_tracking_at u k
    tracking_at_so = grind (arith, tracking_star_so, tracking_so)

    pub metric_at_so : my_metric_at t k ≡ my_metric_at u k
    metric_at_so = grind (arith, metric_star_so, metric_so)

  pub rpf_at_so : (k : Key) → is_rpf_at t k ≡ is_rpf_at u k
  rpf_at_so k = λ j. cond (is_star k) (rpf_rp_as (group_in k) (iface_in k) j) (rpf_as (source_in k) (iface_in k) j)

  -- ---- upstream neighbours

  pub star_winner_as : (g : ℕ) → winner_hop (rpf_interface_rp t g) (assert_star t g) ≡ winner_hop (rpf_interface_rp u g) (assert_star u g)
  unfolding rpf_interface_rp rp_route rp_of route
  star_winner_as g = refl

  pub rpt_winner_as : (g src : ℕ)
      → winner_hop (rpf_interface_rp t g) (assert_source t g src)
      ≡ winner_hop (rpf_interface_rp u g) (assert_source u g src)
  unfolding rpf_interface_rp rp_route rp_of route
  rpt_winner_as g src = refl

  pub source_winner_as : (g src : ℕ)
      → winner_hop (rpf_interface t src) (assert_source t g src)
      ≡ winner_hop (rpf_interface u src) (assert_source u g src)
  unfolding rpf_interface route
  source_winner_as g src = refl

  module _ (g : ℕ) (rp_hop : nbr t (rp_route t g) ≡ nbr u (rp_route u g)) where
    pub rpf_star_so : rpf_star t g ≡ rpf_star u g
    unfolding rpf_star
    rpf_star_so = λ j. option_or (star_winner_as g j) (rp_hop j)

    module _ (src : ℕ) where
      pub rpf_rpt_so : rpf_rpt t g src ≡ rpf_rpt u g src
      unfolding rpf_rpt
      rpf_rpt_so = λ j. option_or (rpt_winner_as g src j) (rpf_star_so j)

      module _ (hop : nbr t (route t src) ≡ nbr u (route u src)) where
        pub rpf_source_so : rpf_source t g src ≡ rpf_source u g src
        unfolding rpf_source
        rpf_source_so = λ j. option_or (source_winner_as g src j) (hop j)
