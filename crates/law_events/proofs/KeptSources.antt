-- A source that isn't named keeps its answers: each macro is its own body, with the laws of its parts. A set is the
-- same on the interfaces that can be configured.
use Rattle.std.{proofs.{Common.{◌≡◌, ◌==◌, ℕ, zero, suc, ◌+◌, ◌<◌, ◌≤◌, Bool, true, false, not, ◌&&◌, ◌||◌, cond, nat_lt, length, Option, Some, option_map, refl, ap, sym, ◌∙◌, arith, eqb-true}, lemmas.Bool.Decides.nat_tests}, specs.{Cmp.{first_so, second_so}, List.{list_all, list_any, range_with_len}, Option.{option_map_or, option_or}, Prelude.slice_get}}
use Rattle.pim_types.{specs.declared.{config.InterfaceConfig.InterfaceConfig, path.{Hop.Hop, Path.Path}}}
use Rattle.pim_model.{specs.{AssertMacros.{could_assert, could_assert_star, forwarding_set, infinite, is_tracking_desired, is_tracking_desired_star, my_metric, my_metric_star}, Cache.may_register, Desires.{is_immediate_empty, is_inherited_empty, join_desired, join_desired_star, prune_desired, rpf_rpt, rpf_source, rpf_star, tree_state, winner_hop}, Forwarding.has_local_receivers, Limits.most_ifaces, Neighbours.{is_dr, nbr}, Receivers.{is_exclude, local_receiver_exclude, local_receiver_exclude_among, local_receiver_include}, Registers.could_register, Rows.{same_both, same_path, same_register_state}, Sets.{Set, assert_source, assert_star, immediate_olist, immediate_olist_star, inherited_olist, inherited_olist_rpt, is_beaten, is_empty, is_loser, is_winner, joins, joins_star, lost_assert, lost_assert_rpt, lost_assert_star, pim_exclude, pim_include, pim_include_star, prunes, register_state, route_metric, rpt_metric, serves, serves_star, spt_bit, spt_metric, tunnel}, State.{State, is_own, is_own_among, my_address}, Tables.{same_bool, same_hop, same_option}, Unicast.{is_connected, is_rpf_interface, is_rpf_interface_rp, route, rp_of, rp_route, rpf_interface, rpf_interface_rp}}}
use Rattle.law_events.{specs.{Keeps.{KeepsAnswers, KeepsAt}, Named.{is_source_named, is_same_beside, is_same_sight, is_same_star, same_set}}, proofs.{Reached.IsConfigured, NamedSameRows.{both_of, not_false, options, paths, tunnel_alike}, SameRows.flags}}

abbrev pub Low : ℕ → Type 0
Low i = nat_lt i most_ifaces ≡ true

-- ---- what is the same is equal

number_step : (p : ℕ → Bool) (a n i : ℕ) (b : Bool) → (a == i) ≡ b → p a ≡ true
    → (a + 1 ≤ i → i < (a + 1) + n → p i ≡ true) → a ≤ i → i < a + suc n → p i ≡ true
number_step p a n i b e here ih low high = grind (arith, eqb-true, nat_tests)

all_at : (p : ℕ → Bool) (a n i : ℕ) → list_all p (range_with_len a n) ≡ true → a ≤ i → i < a + n → p i ≡ true
all_at p a zero i all low high = absurd (omega arith)
all_at p a (suc n) i all low high =
    grind (arith, all_at p (a + 1) n i (second_so (p a) (list_all p (range_with_len (a + 1) n)) all), number_step)

pub any_same : (f h : Set) (a n : ℕ) → ((i : ℕ) → a ≤ i → i < a + n → f i ≡ h i)
    → list_any f (range_with_len a n) ≡ list_any h (range_with_len a n)
any_same f h a zero same = refl
any_same f h a (suc n) same = λ j.
    same a (omega arith) (omega arith) j
    || any_same f h (a + 1) n (λ i low high. same i (omega arith) (omega arith)) j

pub set_at : (f h : Set) → same_set f h ≡ true → (i : ℕ) → Low i → f i ≡ h i
unfolding same_set
set_at f h same i low =
    flags (f i) (h i)
    (all_at (λ m. same_bool (f m) (h m)) 0 most_ifaces i same (omega arith) (grind (arith, nat_tests, low)))

pub hop_equal : (a b : Option Hop) → same_hop a b ≡ true → a ≡ b
hop_equal a b e = grind (arith, both_of, eqb-true)

-- ---- the parts of a sight

record SameStar (g : ℕ) (o a : State) : Type 0 where
  rp : rp_of o g ≡ rp_of a g
  path : rp_route o g ≡ rp_route a g
  hop : nbr o (rp_route o g) ≡ nbr a (rp_route a g)
  winner : winner_hop (rpf_interface_rp o g) (assert_star o g) ≡ winner_hop (rpf_interface_rp a g) (assert_star a g)
  joined : (i : ℕ) → Low i → joins_star o g i ≡ joins_star a g i
  losers : (i : ℕ) → Low i → is_loser (assert_star o g i) ≡ is_loser (assert_star a g i)
  winners : (i : ℕ) → Low i → is_winner (assert_star o g i) ≡ is_winner (assert_star a g i)
  receivers : (i : ℕ) → Low i → is_exclude o g i ≡ is_exclude a g i
  serving : (i : ℕ) → Low i → (is_dr o i && is_exclude o g i) ≡ (is_dr a i && is_exclude a g i)

same_star : (g : ℕ) (o a : State) → is_same_star g o a ≡ true → SameStar g o a
unfolding is_same_star
same_star g o a e =
    let e8 : _ = first_so _ (same_set (λ i. is_dr o i && is_exclude o g i) (λ i. is_dr a i && is_exclude a g i)) e in
    let e7 : _ = first_so _ (same_set (is_exclude o g) (is_exclude a g)) e8 in
    let e6 : _ = first_so _ (same_set (λ i. is_winner (assert_star o g i)) (λ i. is_winner (assert_star a g i))) e7 in
    let e5 : _ = first_so _ (same_set (λ i. is_loser (assert_star o g i)) (λ i. is_loser (assert_star a g i))) e6 in
    let e4 : _ = first_so _ (same_set (joins_star o g) (joins_star a g)) e5 in
    let e3 : _ = first_so _ (same_hop (winner_hop (rpf_interface_rp o g) (assert_star o g)) (winner_hop (rpf_interface_rp a g) (assert_star a g))) e4 in
    let e2 : _ = first_so _ (same_hop (nbr o (rp_route o g)) (nbr a (rp_route a g))) e3 in
    record {
      rp = options _ _ (first_so (same_option (rp_of o g) (rp_of a g)) (same_both same_path (rp_route o g) (rp_route a g)) e2);
      path = paths _ _ (second_so (same_option (rp_of o g) (rp_of a g)) (same_both same_path (rp_route o g) (rp_route a g)) e2);
      hop = hop_equal _ _ (second_so _ _ e3);
      winner = hop_equal _ _ (second_so _ _ e4);
      joined = set_at _ _ (second_so _ _ e5);
      losers = set_at _ _ (second_so _ _ e6);
      winners = set_at _ _ (second_so _ _ e7);
      receivers = set_at _ _ (second_so _ _ e8);
      serving = set_at _ _ (second_so _ _ e);
    }

record SameSource (g src : ℕ) (o a : State) : Type 0 where
  star : SameStar g o a
  path : route o src ≡ route a src
  hop : nbr o (route o src) ≡ nbr a (route a src)
  winner : winner_hop (rpf_interface o src) (assert_source o g src) ≡ winner_hop (rpf_interface a src)
      (assert_source a g src)
  tree_winner : winner_hop (rpf_interface_rp o g) (assert_source o g src) ≡ winner_hop (rpf_interface_rp a g)
      (assert_source a g src)
  joined : (i : ℕ) → Low i → joins o g src i ≡ joins a g src i
  pruned : (i : ℕ) → Low i → prunes o g src i ≡ prunes a g src i
  losers : (i : ℕ) → Low i → is_loser (assert_source o g src i) ≡ is_loser (assert_source a g src i)
  winners : (i : ℕ) → Low i → is_winner (assert_source o g src i) ≡ is_winner (assert_source a g src i)
  beaten : (i : ℕ) → Low i → is_beaten o g src i ≡ is_beaten a g src i
  included : (i : ℕ) → Low i → local_receiver_include o g src i ≡ local_receiver_include a g src i
  excluded : (i : ℕ) → Low i → local_receiver_exclude o g src i ≡ local_receiver_exclude a g src i
  serving : (i : ℕ) → Low i
      → (is_dr o i && local_receiver_include o g src i) ≡ (is_dr a i && local_receiver_include a g src i)
  spt : spt_bit o g src ≡ spt_bit a g src

same_source : (g src : ℕ) (o a : State) → is_same_sight g src o a ≡ true → SameSource g src o a
unfolding is_same_sight
same_source g src o a e =
    let e13 : _ = first_so _ (same_bool (spt_bit o g src) (spt_bit a g src)) e in
    let e12 : _ = first_so _ (same_set (λ i. is_dr o i && local_receiver_include o g src i) (λ i. is_dr a i && local_receiver_include a g src i)) e13 in
    let e11 : _ = first_so _ (same_set (local_receiver_exclude o g src) (local_receiver_exclude a g src)) e12 in
    let e10 : _ = first_so _ (same_set (local_receiver_include o g src) (local_receiver_include a g src)) e11 in
    let e9 : _ = first_so _ (same_set (is_beaten o g src) (is_beaten a g src)) e10 in
    let e8 : _ = first_so _ (same_set (λ i. is_winner (assert_source o g src i)) (λ i. is_winner (assert_source a g src i))) e9 in
    let e7 : _ = first_so _ (same_set (λ i. is_loser (assert_source o g src i)) (λ i. is_loser (assert_source a g src i))) e8 in
    let e6 : _ = first_so _ (same_set (prunes o g src) (prunes a g src)) e7 in
    let e5 : _ = first_so _ (same_set (joins o g src) (joins a g src)) e6 in
    let e4 : _ = first_so _ (same_hop (winner_hop (rpf_interface_rp o g) (assert_source o g src)) (winner_hop (rpf_interface_rp a g) (assert_source a g src))) e5 in
    let e3 : _ = first_so _ (same_hop (winner_hop (rpf_interface o src) (assert_source o g src)) (winner_hop (rpf_interface a src) (assert_source a g src))) e4 in
    let e2 : _ = first_so _ (same_hop (nbr o (route o src)) (nbr a (route a src))) e3 in
    record {
      star = same_star g o a (first_so (is_same_star g o a) (same_both same_path (route o src) (route a src)) e2);
      path = paths _ _ (second_so (is_same_star g o a) (same_both same_path (route o src) (route a src)) e2);
      hop = hop_equal _ _ (second_so _ _ e3);
      winner = hop_equal _ _ (second_so _ _ e4);
      tree_winner = hop_equal _ _ (second_so _ _ e5);
      joined = set_at _ _ (second_so _ _ e6);
      pruned = set_at _ _ (second_so _ _ e7);
      losers = set_at _ _ (second_so _ _ e8);
      winners = set_at _ _ (second_so _ _ e9);
      beaten = set_at _ _ (second_so _ _ e10);
      included = set_at _ _ (second_so _ _ e11);
      excluded = set_at _ _ (second_so _ _ e12);
      serving = set_at _ _ (second_so _ _ e13);
      spt = flags _ _ (second_so _ _ e);
    }

-- ---- where the router serves receivers

no_matter : (b : Bool) → (b && false) ≡ false
no_matter b = grind arith

-- what is asked of the DR where there are receivers is the same
pub served : (d e l w x : Bool) → (d && x) ≡ (e && x) → (((d && l) || w) && x) ≡ (((e && l) || w) && x)
served true true l w x same = refl
served false false l w x same = refl
served true false l w true same = cc
served false true l w true same = cc
served true false l w false same = no_matter ((true && l) || w) ∙ sym (no_matter ((false && l) || w))
served false true l w false same = no_matter ((false && l) || w) ∙ sym (no_matter ((true && l) || w))

pub tracked : (d e w x : Bool) → (d && x) ≡ (e && x) → (x && (d || w)) ≡ (x && (e || w))
tracked d e w x same = grind arith

pub narrower : (d e x z : Bool) → (d && x) ≡ (e && x) → (d && (x && z)) ≡ (e && (x && z))
narrower d e x z same = grind (arith, no_matter)

-- ---- (*,G)

module _ (g : ℕ) (o a : State) (config : IsConfigured o a) (few : length o.configured.interfaces ≤ most_ifaces) where
  pub empty_same : (f h : Set) → ((i : ℕ) → Low i → f i ≡ h i) → is_empty o f ≡ is_empty a h
  unfolding is_empty
  empty_same f h same = grind (arith, any_same, nat_tests)

  my_address_same : (i : ℕ) → my_address o i ≡ my_address a i
  my_address_same i = λ j. option_map_or (λ (c : InterfaceConfig). c.address.bits) (slice_get (config.configured j).interfaces i) 0

  own_same : (x : ℕ) → is_own o x ≡ is_own a x
  own_same x = λ j. is_own_among (config.configured j) x

  module _ (same : SameStar g o a) where
    rp_interface_same : rpf_interface_rp o g ≡ rpf_interface_rp a g
    unfolding rpf_interface_rp
    rp_interface_same = λ j. option_map (λ (p : Path). p.iface.number) (same.path j)

    rp_at : (i : ℕ) → is_rpf_interface_rp o g i ≡ is_rpf_interface_rp a g i
    rp_at i = λ j. same_option (rp_interface_same j) (Some i)

    lost_star_at : (i : ℕ) → Low i → lost_assert_star o g i ≡ lost_assert_star a g i
    unfolding lost_assert_star
    lost_star_at i low = λ j. not (rp_at i j) && same.losers i low j

    star_dr_at : (i : ℕ) → Low i → (is_dr o i && is_exclude a g i) ≡ (is_dr a i && is_exclude a g i)
    star_dr_at i low = (λ j. is_dr o i && sym (same.receivers i low) j) ∙ same.serving i low

    -- among receivers of a part of those of (*,G)
    serves_star_at : (i : ℕ) → Low i → (x : Bool) → (is_dr o i && x) ≡ (is_dr a i && x)
        → (serves_star o g i && x) ≡ (serves_star a g i && x)
    unfolding serves_star
    serves_star_at i low x here = grind (arith, lost_star_at, served)

    include_star_at : (i : ℕ) → Low i → pim_include_star o g i ≡ pim_include_star a g i
    unfolding pim_include_star
    include_star_at i low = grind (arith, serves_star_at, star_dr_at)

    immediate_star_at : (i : ℕ) → Low i → immediate_olist_star o g i ≡ immediate_olist_star a g i
    unfolding immediate_olist_star
    immediate_star_at i low = grind (arith, include_star_at, lost_star_at)

    desired_star_same : join_desired_star o g ≡ join_desired_star a g
    unfolding join_desired_star
    desired_star_same = ap not (empty_same _ _ immediate_star_at)

    rpf_star_same : rpf_star o g ≡ rpf_star a g
    unfolding rpf_star
    rpf_star_same = λ j. option_or (same.winner j) (same.hop j)

    rpt_metric_same : (i : ℕ) → rpt_metric o g i ≡ rpt_metric a g i
    unfolding rpt_metric
    rpt_metric_same i = grind (arith, my_address_same, own_same)

    could_star_at : (i : ℕ) → Low i → could_assert_star o g i ≡ could_assert_star a g i
    unfolding could_assert_star
    could_star_at i low = λ j. (same.joined i low j || include_star_at i low j) && not (rp_at i j)

    asked_star_at : (i : ℕ) → Low i
        → (is_exclude o g i && (is_dr o i || is_winner (assert_star o g i)))
        ≡ (is_exclude a g i && (is_dr a i || is_winner (assert_star a g i)))
    asked_star_at i low = grind (arith, tracked, star_dr_at)

    tracking_star_at : (i : ℕ) → Low i → is_tracking_desired_star o g i ≡ is_tracking_desired_star a g i
    unfolding is_tracking_desired_star
    tracking_star_at i low = grind (arith, could_star_at, asked_star_at, rp_at, desired_star_same)

    metric_star_at : (i : ℕ) → Low i → my_metric_star o g i ≡ my_metric_star a g i
    unfolding my_metric_star
    metric_star_at i low = λ j. cond (could_star_at i low j) (rpt_metric_same i j) infinite

  -- ---- (S,G), with what is asked beside

  module _ (src : ℕ) (sees : SameSource g src o a)
      (register : same_both same_register_state (register_state o g src) (register_state a g src) ≡ true)
      (desired : join_desired o g src ≡ join_desired a g src) where
    star : SameStar g o a
    star = sees.star

    interface_same : rpf_interface o src ≡ rpf_interface a src
    unfolding rpf_interface
    interface_same = λ j. option_map (λ (p : Path). p.iface.number) (sees.path j)

    connected_same : is_connected o src ≡ is_connected a src
    unfolding is_connected
    connected_same = λ j. option_map_or (λ (p : Path). p.is_connected) (sees.path j) false

    rpf_at : (i : ℕ) → is_rpf_interface o src i ≡ is_rpf_interface a src i
    rpf_at i = λ j. same_option (interface_same j) (Some i)

    tunnel_same : tunnel o g src ≡ tunnel a g src
    unfolding tunnel
    tunnel_same = tunnel_alike (register_state o g src) (register_state a g src) register

    spt_metric_same : (i : ℕ) → spt_metric o src i ≡ spt_metric a src i
    unfolding spt_metric
    spt_metric_same i = λ j. route_metric false (my_address_same i j) (own_same src j) (sees.path j)

    lost_at : (i : ℕ) → Low i → lost_assert o g src i ≡ lost_assert a g src i
    unfolding lost_assert is_beaten
    lost_at i low = λ j. not (rpf_at i j) && sees.losers i low j && sees.beaten i low j

    lost_rpt_at : (i : ℕ) → Low i → lost_assert_rpt o g src i ≡ lost_assert_rpt a g src i
    unfolding lost_assert_rpt
    lost_rpt_at i low = λ j. not (rp_at star i j || (rpf_at i j && sees.spt j)) && sees.losers i low j

    dr_at : (i : ℕ) → Low i
        → (is_dr o i && local_receiver_include a g src i) ≡ (is_dr a i && local_receiver_include a g src i)
    dr_at i low = (λ j. is_dr o i && sym (sees.included i low) j) ∙ sees.serving i low

    excluded_dr_at : (i : ℕ) → Low i
        → (is_dr o i && local_receiver_exclude a g src i) ≡ (is_dr a i && local_receiver_exclude a g src i)
    unfolding is_exclude local_receiver_exclude local_receiver_exclude_among
    excluded_dr_at i low = narrower (is_dr o i) (is_dr a i) (is_exclude a g i) _ (star_dr_at star i low)

    include_at : (i : ℕ) → Low i → pim_include o g src i ≡ pim_include a g src i
    unfolding pim_include serves
    include_at i low = grind (arith, lost_at, served, dr_at)

    exclude_at : (i : ℕ) → Low i → pim_exclude o g src i ≡ pim_exclude a g src i
    unfolding pim_exclude
    exclude_at i low = grind (arith, serves_star_at, star, excluded_dr_at)

    immediate_at : (i : ℕ) → Low i → immediate_olist o g src i ≡ immediate_olist a g src i
    unfolding immediate_olist
    immediate_at i low = λ j. (sees.joined i low j || include_at i low j) && not (lost_at i low j)

    inherited_rpt_at : (i : ℕ) → Low i → inherited_olist_rpt o g src i ≡ inherited_olist_rpt a g src i
    unfolding inherited_olist_rpt
    inherited_rpt_at i low = grind (arith, star, include_star_at, exclude_at, lost_star_at, lost_rpt_at)

    inherited_at : (i : ℕ) → Low i → inherited_olist o g src i ≡ inherited_olist a g src i
    unfolding inherited_olist
    inherited_at i low = grind (arith, inherited_rpt_at, include_at, lost_at)

    forwarding_at : (i : ℕ) → Low i → forwarding_set o g src i ≡ forwarding_set a g src i
    unfolding forwarding_set
    forwarding_at i low = grind (arith, star, include_star_at, exclude_at, lost_star_at)

    immediate_empty_same : is_immediate_empty o g src ≡ is_immediate_empty a g src
    unfolding is_immediate_empty
    immediate_empty_same = λ j. empty_same _ _ immediate_at j && not (tunnel_same j)

    inherited_empty_same : is_inherited_empty o g src ≡ is_inherited_empty a g src
    unfolding is_inherited_empty
    inherited_empty_same = λ j. empty_same _ _ inherited_at j && not (tunnel_same j)

    local_same : has_local_receivers o g src ≡ has_local_receivers a g src
    unfolding has_local_receivers
    local_same = grind (arith, empty_same, include_star_at, star, exclude_at, include_at)

    rpf_source_same : rpf_source o g src ≡ rpf_source a g src
    unfolding rpf_source
    rpf_source_same = λ j. option_or (sees.winner j) (sees.hop j)

    rpf_rpt_same : rpf_rpt o g src ≡ rpf_rpt a g src
    unfolding rpf_rpt
    rpf_rpt_same = λ j. option_or (sees.tree_winner j) (rpf_star_same star j)

    prune_desired_same : prune_desired o g src ≡ prune_desired a g src
    unfolding prune_desired
    prune_desired_same =
        grind (arith, desired_star_same, star, empty_same, inherited_rpt_at, rpf_star_same, rpf_source_same)

    tree_state_same : tree_state o g src ≡ tree_state a g src
    unfolding tree_state
    tree_state_same = grind (arith, desired_star_same, star, prune_desired_same)

    could_at : (i : ℕ) → Low i → could_assert o g src i ≡ could_assert a g src i
    unfolding could_assert
    could_at i low = λ j. sees.spt j && not (rpf_at i j) && (forwarding_at i low j || include_at i low j)

    asked_at : (i : ℕ) → Low i
        → (local_receiver_include o g src i && (is_dr o i || is_winner (assert_source o g src i)))
        ≡ (local_receiver_include a g src i && (is_dr a i || is_winner (assert_source a g src i)))
    asked_at i low = grind (arith, tracked, dr_at)

    tracking_at : (i : ℕ) → Low i → is_tracking_desired o g src i ≡ is_tracking_desired a g src i
    unfolding is_tracking_desired
    tracking_at i low = grind (arith, forwarding_at, asked_at, rpf_at, rp_at, star, desired_star_same)

    metric_at : (i : ℕ) → Low i → my_metric o g src i ≡ my_metric a g src i
    unfolding my_metric
    metric_at i low = λ j. cond (could_at i low j) (spt_metric_same i j) (metric_star_at star i low j)

    keeps_at : (i : ℕ) → Low i → KeepsAt g src o a i
    keeps_at i low = record {
      joins_star = star.joined i low;
      joins = sees.joined i low;
      prunes = sees.pruned i low;
      lost_assert_star = lost_star_at star i low;
      lost_assert = lost_at i low;
      lost_assert_rpt = lost_rpt_at i low;
      pim_include_star = include_star_at star i low;
      pim_include = include_at i low;
      pim_exclude = exclude_at i low;
      immediate_olist_star = immediate_star_at star i low;
      immediate_olist = immediate_at i low;
      inherited_olist_rpt = inherited_rpt_at i low;
      inherited_olist = inherited_at i low;
      is_loser_star = star.losers i low;
      is_winner_star = star.winners i low;
      is_loser = sees.losers i low;
      is_winner = sees.winners i low;
      rpt_metric = rpt_metric_same star i;
      spt_metric = spt_metric_same i;
      could_assert_star = could_star_at star i low;
      could_assert = could_at i low;
      is_tracking_star = tracking_star_at star i low;
      is_tracking = tracking_at i low;
      my_metric_star = metric_star_at star i low;
      my_metric = metric_at i low;
    }

    keeps : may_register o g src ≡ may_register a g src → could_register o g src ≡ could_register a g src
        → KeepsAnswers g src o a
    keeps can could = record {
      route = sees.path;
      rp = star.rp;
      rp_route = star.path;
      is_connected = connected_same;
      rpf_interface = interface_same;
      rpf_interface_rp = rp_interface_same star;
      spt = sees.spt;
      may_register = can;
      could_register = could;
      register = register;
      tunnel = tunnel_same;
      is_immediate_empty = immediate_empty_same;
      is_inherited_empty = inherited_empty_same;
      has_local_receivers = local_same;
      join_desired_star = desired_star_same star;
      join_desired = desired;
      prune_desired = prune_desired_same;
      tree_state = tree_state_same;
      rpf_star = rpf_star_same star;
      rpf_source = rpf_source_same;
      rpf_rpt = rpf_rpt_same;
      on = keeps_at;
    }

pub unnamed_keeps : (g src : ℕ) (o a : State) → o.settings ≡ a.settings → o.configured ≡ a.configured
    → length o.configured.interfaces ≤ most_ifaces → is_source_named g src o a ≡ false → KeepsAnswers g src o a
unfolding is_source_named is_same_beside
unnamed_keeps g src o a settings configured few unnamed = grind (arith, both_of, not_false, keeps, same_source, flags)
