-- Each macro of a source is the same in two states where it reads the same: its own body, with the laws of its parts.
use Rattle.std.{proofs.Common.{◌≡◌, ℕ, false, not, ◌||◌, ◌&&◌, cond, option_map, sym, ap, ◌∙◌, Option, Some, option_and_then, arith}, specs.{List.list_any, Prelude.length, Option.option_map_or}}
use Rattle.pim_types.{specs.declared.{fact.{AssertMetric.AssertMetric, AssertRow.AssertRow}, path.Path.Path}}
use Rattle.pim_model.{specs.{AssertMacros.{could_assert, could_assert_star, forwarding_set, infinite, is_tracking_desired, is_tracking_desired_star, my_metric, my_metric_star}, Desires.{is_immediate_empty, is_inherited_empty, join_desired, join_desired_star, prune_desired, rpf_rpt, rpf_source, rpf_star, tree_state, winner_hop}, Receivers.{is_exclude, local_receiver_exclude, local_receiver_exclude_among, local_receiver_include}, Registers.{could_register, has_other_rp}, Sets.{Set, assert_source, immediate_olist, immediate_olist_star, inherited_olist, inherited_olist_rpt, is_beaten, is_better, is_empty, is_kept_alive, lost_assert, lost_assert_rpt, lost_assert_star, pim_exclude, pim_include, pim_include_star, rpt_metric, serves, serves_star, spt_metric, tunnel, ◌∖◌, ◌∪◌}, State.{State, is_own, is_own_among}, Tables.{below, same_option}, Unicast.{is_connected, is_rpf_interface, is_rpf_interface_rp, rpf_interface, rpf_interface_rp}}}
use Rattle.law_events.{specs.Sees.{SeesSource, SeesStar}}

pub hop_by : (row : ℕ → Option AssertRow) (o : Option ℕ)
    → winner_hop o row ≡ option_and_then (λ i. winner_hop (Some i) row) o
hop_by row o = grind arith

pub hop_same : (row row' : ℕ → Option AssertRow) → ((i : ℕ) → winner_hop (Some i) row ≡ winner_hop (Some i) row')
    → (o p : Option ℕ) → o ≡ p
    → winner_hop o row ≡ winner_hop p row'
hop_same row row' same o p e = hop_by row o ∙ (λ j. option_and_then (λ i. same i j) (e j)) ∙ sym (hop_by row' p)

pub by_winner : (mine : AssertMetric) (o : Option AssertRow)
    → option_map_or (λ (r : AssertRow). is_better r.winner mine) o false ≡ option_map_or (λ m. is_better m mine)
    (option_map (λ (r : AssertRow). r.winner) o) false
by_winner mine o = grind arith

module _ (g : ℕ) (s t : State) (same : SeesStar g s t) where
  pub is_empty_same : (a b : Set) → a ≡ b → is_empty s a ≡ is_empty t b
  unfolding is_empty
  is_empty_same a b e = λ j. not (list_any (e j) (below (length (same.configured j).interfaces)))

  is_own_same : (a : ℕ) → is_own s a ≡ is_own t a
  is_own_same a = λ j. is_own_among (same.configured j) a

  pub rpf_interface_rp_same : rpf_interface_rp s g ≡ rpf_interface_rp t g
  unfolding rpf_interface_rp
  rpf_interface_rp_same = λ j. option_map (λ (p : Path). p.iface.number) (same.rp_path j)

  pub rpf_rp_at_same : (i : ℕ) → is_rpf_interface_rp s g i ≡ is_rpf_interface_rp t g i
  rpf_rp_at_same i = λ j. same_option (rpf_interface_rp_same j) (Some i)

  pub lost_assert_star_same : lost_assert_star s g ≡ lost_assert_star t g
  unfolding lost_assert_star
  lost_assert_star_same = λ j i. not (rpf_rp_at_same i j) && same.losers i j

  pub serves_star_same : serves_star s g ≡ serves_star t g
  unfolding serves_star
  serves_star_same = λ j i. (same.dr j i && not (lost_assert_star_same j i)) || same.winners i j

  pub pim_include_star_same : pim_include_star s g ≡ pim_include_star t g
  unfolding pim_include_star
  pim_include_star_same = λ j i. serves_star_same j i && same.excluding j i

  pub immediate_olist_star_same : immediate_olist_star s g ≡ immediate_olist_star t g
  unfolding immediate_olist_star
  immediate_olist_star_same = λ j. same.joined j ∪ pim_include_star_same j ∖ lost_assert_star_same j

  pub join_desired_star_same : join_desired_star s g ≡ join_desired_star t g
  unfolding join_desired_star
  join_desired_star_same = ap not (is_empty_same _ _ immediate_olist_star_same)

  pub rpf_star_same : rpf_star s g ≡ rpf_star t g
  unfolding rpf_star
  rpf_star_same = grind (arith, hop_same, same, rpf_interface_rp_same)

  rpt_metric_same : (i : ℕ) → rpt_metric s g i ≡ rpt_metric t g i
  unfolding rpt_metric
  rpt_metric_same i = cc

  pub could_assert_star_same : (i : ℕ) → could_assert_star s g i ≡ could_assert_star t g i
  unfolding could_assert_star
  could_assert_star_same i = λ j. (same.joined j ∪ pim_include_star_same j) i && not (rpf_rp_at_same i j)

  pub is_tracking_star_same : (i : ℕ) → is_tracking_desired_star s g i ≡ is_tracking_desired_star t g i
  unfolding is_tracking_desired_star
  is_tracking_star_same i = grind (arith, could_assert_star_same, same, rpf_rp_at_same, join_desired_star_same)

  pub my_metric_star_same : (i : ℕ) → my_metric_star s g i ≡ my_metric_star t g i
  unfolding my_metric_star
  my_metric_star_same i = λ j. cond (could_assert_star_same i j) (rpt_metric_same i j) infinite

  pub has_other_rp_same : has_other_rp s g ≡ has_other_rp t g
  unfolding has_other_rp
  has_other_rp_same = λ j. option_map_or (λ rp. not (is_own_same rp j)) (same.rp j) false

module _ (g src : ℕ) (s t : State) (sees : SeesSource g src s t) where
  same : SeesStar g s t
  same = sees.star

  pub rpf_interface_same : rpf_interface s src ≡ rpf_interface t src
  unfolding rpf_interface
  rpf_interface_same = λ j. option_map (λ (p : Path). p.iface.number) (sees.path j)

  pub is_connected_same : is_connected s src ≡ is_connected t src
  unfolding is_connected
  is_connected_same = λ j. option_map_or (λ (p : Path). p.is_connected) (sees.path j) false

  pub rpf_at_same : (i : ℕ) → is_rpf_interface s src i ≡ is_rpf_interface t src i
  rpf_at_same i = λ j. same_option (rpf_interface_same j) (Some i)

  pub tunnel_same : tunnel s g src ≡ tunnel t g src
  tunnel_same = sees.to_rp

  pub local_include_same : local_receiver_include s g src ≡ local_receiver_include t g src
  local_include_same = sees.included

  local_exclude_same : local_receiver_exclude s g src ≡ local_receiver_exclude t g src
  unfolding is_exclude local_receiver_exclude local_receiver_exclude_among
  local_exclude_same = λ j i.
      same.excluding j i && sees.excluded i j

  pub spt_metric_same : (i : ℕ) → spt_metric s src i ≡ spt_metric t src i
  unfolding spt_metric
  spt_metric_same i = cc

  better_same : (i : ℕ) → option_map_or (λ (r : AssertRow). is_better r.winner (spt_metric s src i))
      (assert_source s g src i) false
      ≡ option_map_or (λ (r : AssertRow). is_better r.winner (spt_metric t src i)) (assert_source t g src i) false
  better_same i = grind (arith, by_winner, spt_metric_same)

  pub lost_assert_same : lost_assert s g src ≡ lost_assert t g src
  unfolding lost_assert is_beaten
  lost_assert_same = λ j i.
      not (rpf_at_same i j) && sees.losers i j
      && better_same i j

  pub lost_assert_rpt_same : lost_assert_rpt s g src ≡ lost_assert_rpt t g src
  unfolding lost_assert_rpt
  lost_assert_rpt_same = grind (arith, rpf_rp_at_same, same, rpf_at_same)

  serves_same : serves s g src ≡ serves t g src
  unfolding serves
  serves_same = λ j i. (same.dr j i && not (lost_assert_same j i)) || sees.winners i j

  pub pim_include_same : pim_include s g src ≡ pim_include t g src
  unfolding pim_include
  pim_include_same = λ j i. serves_same j i && local_include_same j i

  pub pim_exclude_same : pim_exclude s g src ≡ pim_exclude t g src
  unfolding pim_exclude
  pim_exclude_same = λ j i. serves_star_same g s t same j i && local_exclude_same j i

  pub immediate_olist_same : immediate_olist s g src ≡ immediate_olist t g src
  unfolding immediate_olist
  immediate_olist_same = λ j. sees.joined j ∪ pim_include_same j ∖ lost_assert_same j

  pub inherited_olist_rpt_same : inherited_olist_rpt s g src ≡ inherited_olist_rpt t g src
  unfolding inherited_olist_rpt
  inherited_olist_rpt_same =
      grind (arith, same, pim_include_star_same, pim_exclude_same, lost_assert_star_same, lost_assert_rpt_same)

  pub inherited_olist_same : inherited_olist s g src ≡ inherited_olist t g src
  unfolding inherited_olist
  inherited_olist_same = λ j. inherited_olist_rpt_same j ∪ sees.joined j ∪ pim_include_same j ∖ lost_assert_same j

  pub is_immediate_empty_same : is_immediate_empty s g src ≡ is_immediate_empty t g src
  unfolding is_immediate_empty
  is_immediate_empty_same = λ j. is_empty_same g s t same _ _ immediate_olist_same j && not (tunnel_same j)

  pub is_inherited_empty_same : is_inherited_empty s g src ≡ is_inherited_empty t g src
  unfolding is_inherited_empty
  is_inherited_empty_same = λ j. is_empty_same g s t same _ _ inherited_olist_same j && not (tunnel_same j)

  -- the keepalive timer is read by JoinDesired(S,G) and CouldRegister(S,G) alone
  pub join_desired_same : is_kept_alive s g src ≡ is_kept_alive t g src → join_desired s g src ≡ join_desired t g src
  unfolding join_desired
  join_desired_same kept = λ j. not (is_immediate_empty_same j) || (kept j && not (is_inherited_empty_same j))

  pub rpf_source_same : rpf_source s g src ≡ rpf_source t g src
  unfolding rpf_source
  rpf_source_same = grind (arith, hop_same, rpf_interface_same)

  pub rpf_rpt_same : rpf_rpt s g src ≡ rpf_rpt t g src
  unfolding rpf_rpt
  rpf_rpt_same = grind (arith, hop_same, rpf_interface_rp_same, same, rpf_star_same)

  prune_desired_same : prune_desired s g src ≡ prune_desired t g src
  unfolding prune_desired
  prune_desired_same =
      grind (arith, join_desired_star_same, same, is_empty_same, inherited_olist_rpt_same, rpf_star_same, rpf_source_same)

  pub tree_state_same : tree_state s g src ≡ tree_state t g src
  unfolding tree_state
  tree_state_same = grind (arith, join_desired_star_same, same, prune_desired_same)

  pub forwarding_same : forwarding_set s g src ≡ forwarding_set t g src
  unfolding forwarding_set
  forwarding_same = grind (arith, same, pim_include_star_same, pim_exclude_same, lost_assert_star_same)

  pub could_assert_same : (i : ℕ) → could_assert s g src i ≡ could_assert t g src i
  unfolding could_assert
  could_assert_same i = λ j. sees.spt j && not (rpf_at_same i j) && (forwarding_same j ∪ pim_include_same j) i

  pub is_tracking_same : join_desired s g src ≡ join_desired t g src → (i : ℕ)
      → is_tracking_desired s g src i ≡ is_tracking_desired t g src i
  unfolding is_tracking_desired
  is_tracking_same desired i =
      grind (arith, forwarding_same, local_include_same, same, rpf_at_same, rpf_rp_at_same, join_desired_star_same)

  pub my_metric_same : (i : ℕ) → my_metric s g src i ≡ my_metric t g src i
  unfolding my_metric
  my_metric_same i = λ j. cond (could_assert_same i j) (spt_metric_same i j) (my_metric_star_same g s t same i j)

  pub could_register_same : is_kept_alive s g src ≡ is_kept_alive t g src
      → could_register s g src ≡ could_register t g src
  unfolding could_register
  could_register_same kept = grind (arith, same, has_other_rp_same)
