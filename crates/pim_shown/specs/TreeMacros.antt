-- What the router tells of a tree: the macros of a group, and of a source of it, as one value. Sections are those of RFC
-- 7761. A set has the interfaces below 120 that pass the macro's test, and for (S,G) the register tunnel.
use Rattle.std.{specs.{Option.option_map_or, Prelude.{Bool, None, Option, Some, false, if◌then◌else◌, is_some, option_map, true, ℕ}}}
use Rattle.pim_ip.{specs.Addr.addr}
use Rattle.pim_ifset.{specs.Members.set_of}
use Rattle.pim_types.{specs.declared.path.{Hop.Hop, Path.Path}}
use Rattle.pim_model.{specs.{Desires.{join_desired, join_desired_star, prune_desired, rpf_rpt, rpf_source, rpf_star, tree_state, winner_hop}, Neighbours.nbr, Receivers.{local_receiver_exclude, local_receiver_include, local_receiver_star}, Registers.could_register, Sets.{assert_source, assert_star, immediate_olist, immediate_olist_star, inherited_olist, inherited_olist_rpt, is_kept_alive, is_winner, joins, joins_star, lost_assert, lost_assert_rpt, lost_assert_star, pim_exclude, pim_include, pim_include_star, prunes, spt_bit, tunnel}, State.{State, is_own}, Unicast.{route, rp_of, rp_route, rpf_interface, rpf_interface_rp}}}
use Rattle.pim_shown.{specs.declared.{shared.Tree.Tree, source.SourceTree.SourceTree, upstream.RpfCause.RpfCause}}

-- where RPF' comes from, or why there is none (4.1.5): by the winner of the assert that the router lost on the RPF
-- interface, NBR of the next hop to the root, the route to the root, and whether the root is the router itself
unfoldable pub cause_of : Option Hop → Option Hop → Option Path → Bool → RpfCause
cause_of (Some winner) next_hop path own = RpfCause.Winner
cause_of None (Some next_hop) path own = RpfCause.NextHop
cause_of None None (Some path) own = if path.is_connected then RpfCause.Connected else RpfCause.NoNeighbour
cause_of None None None own = if own then RpfCause.Own else RpfCause.NoRoute

-- of RPF'(*,G), whose root is RP(G)
unfoldable pub star_cause : State → ℕ → RpfCause
star_cause s g =
    if is_some (rp_of s g)
    then cause_of (winner_hop (rpf_interface_rp s g) (assert_star s g)) (nbr s (rp_route s g)) (rp_route s g)
    (option_map_or (is_own s) (rp_of s g) false) else RpfCause.NoRp

-- of RPF'(S,G), whose root is S
unfoldable pub source_cause : State → ℕ → ℕ → RpfCause
source_cause s g src =
    cause_of (winner_hop (rpf_interface s src) (assert_source s g src)) (nbr s (route s src)) (route s src) (is_own s src)

-- the macros of (*,G)
unfoldable pub tree : State → ℕ → Tree
tree s g = record {
  group = addr g;
  rp = option_map addr (rp_of s g);
  rp_path = rp_route s g;
  rpf_neighbour = rpf_star s g;
  rpf_cause = star_cause s g;
  joins = set_of (joins_star s g) false;
  local_receiver_include = set_of (local_receiver_star s g) false;
  pim_include = set_of (pim_include_star s g) false;
  lost_assert = set_of (lost_assert_star s g) false;
  won_assert = set_of (λ i. is_winner (assert_star s g i)) false;
  immediate_olist = set_of (immediate_olist_star s g) false;
  join_desired = join_desired_star s g;
}

-- the macros of (S,G) and of (S,G,rpt)
unfoldable pub source_tree : State → ℕ → ℕ → SourceTree
source_tree s g src = record {
  group = addr g;
  source = addr src;
  path = route s src;
  rpf_neighbour = rpf_source s g src;
  rpf_cause = source_cause s g src;
  rpf_neighbour_rpt = rpf_rpt s g src;
  joins = set_of (joins s g src) (tunnel s g src);
  prunes = set_of (prunes s g src) false;
  local_receiver_include = set_of (local_receiver_include s g src) false;
  local_receiver_exclude = set_of (local_receiver_exclude s g src) false;
  pim_include = set_of (pim_include s g src) false;
  pim_exclude = set_of (pim_exclude s g src) false;
  lost_assert = set_of (lost_assert s g src) false;
  lost_assert_rpt = set_of (lost_assert_rpt s g src) false;
  won_assert = set_of (λ i. is_winner (assert_source s g src i)) false;
  immediate_olist = set_of (immediate_olist s g src) (tunnel s g src);
  inherited_olist = set_of (inherited_olist s g src) (tunnel s g src);
  inherited_olist_rpt = set_of (inherited_olist_rpt s g src) false;
  spt_bit = spt_bit s g src;
  is_kept_alive = is_kept_alive s g src;
  join_desired = join_desired s g src;
  prune_desired = prune_desired s g src;
  tree_state = tree_state s g src;
  could_register = could_register s g src;
}

-- a cause of RPF' with which there is an upstream neighbour
abbrev pub has_neighbour : RpfCause → Bool
has_neighbour RpfCause.Winner = true
has_neighbour RpfCause.NextHop = true
has_neighbour _ = false
