-- What the router wants of its upstream neighbours, and who they are. Sections are those of RFC 7761. No upstream state
-- is stored: UpstreamJPState(*,G) == Joined is JoinDesired(*,G), that of (S,G) is JoinDesired(S,G), and the state of
-- (S,G,rpt) follows from PruneDesired(S,G,rpt).
use Rattle.std.{specs.{Option.option_or, Prelude.{Bool, None, Option, Some, if◌then◌else◌, not, option_and_then, ℕ, ◌&&◌, ◌||◌}}}
use Rattle.pim_types.{specs.declared.{fact.AssertRow.AssertRow, path.Hop.Hop, upstream.TreeState.TreeState}}
use Rattle.pim_model.{specs.{Neighbours.nbr, Sets.{assert_source, assert_star, immediate_olist, immediate_olist_star, inherited_olist, inherited_olist_rpt, is_empty, is_kept_alive, is_loser, spt_bit, tunnel}, State.State, Tables.{hop_at, same_hop}, Unicast.{route, rp_route, rpf_interface, rpf_interface_rp}}}

-- JoinDesired(*,G) = (immediate_olist(*,G) != NULL) (4.5.4); RPTJoinDesired(G) = JoinDesired(*,G) (4.5.7)
-- reads: what immediate_olist(*,G) reads
unfoldable pub join_desired_star : State → ℕ → Bool
join_desired_star s g = not (is_empty s (immediate_olist_star s g))

-- immediate_olist(S,G) == NULL, with the register tunnel
-- reads: what immediate_olist(S,G) reads, and the register row of (S,G)
unfoldable pub is_immediate_empty : State → ℕ → ℕ → Bool
is_immediate_empty s g src = is_empty s (immediate_olist s g src) && not (tunnel s g src)

-- inherited_olist(S,G) == NULL, with the register tunnel
-- reads: what inherited_olist(S,G) reads, and the register row of (S,G)
unfoldable pub is_inherited_empty : State → ℕ → ℕ → Bool
is_inherited_empty s g src = is_empty s (inherited_olist s g src) && not (tunnel s g src)

-- JoinDesired(S,G) = immediate_olist(S,G) != NULL
-- OR (KeepaliveTimer(S,G) is running AND inherited_olist(S,G) != NULL) (4.5.5)
-- reads: what the lists of (S,G) read, its register row and its source row
unfoldable pub join_desired : State → ℕ → ℕ → Bool
join_desired s g src =
    not (is_immediate_empty s g src) || (is_kept_alive s g src && not (is_inherited_empty s g src))

-- AssertWinner(.., I), where I_Am_Assert_Loser(.., I); I is the RPF interface
abbrev pub winner_hop : Option ℕ → (ℕ → Option AssertRow) → Option Hop
winner_hop None row = None
winner_hop (Some i) row =
    option_and_then (λ (r : AssertRow).
    if is_loser (Some r) then Some (hop_at i r.winner.address.bits) else None) (row i)

-- RPF'(*,G) = AssertWinner(*,G,RPF_interface(RP(G))) if I_Am_Assert_Loser(*,G,RPF_interface(RP(G))),
-- else NBR(RPF_interface(RP(G)), MRIB.next_hop(RP(G))) (4.1.5)
-- reads: the assert of (*,G) on RPF_interface(RP(G)); the route to RP(G) and the neighbour row of its next hop
unfoldable pub rpf_star : State → ℕ → Option Hop
rpf_star s g = option_or (winner_hop (rpf_interface_rp s g) (assert_star s g)) (nbr s (rp_route s g))

-- RPF'(S,G,rpt) = AssertWinner(S,G,RPF_interface(RP(G))) if I_Am_Assert_Loser(S,G,RPF_interface(RP(G))),
-- else RPF'(*,G) (4.1.5)
-- reads: the assert of (S,G) on RPF_interface(RP(G)), and what RPF'(*,G) reads
unfoldable pub rpf_rpt : State → ℕ → ℕ → Option Hop
rpf_rpt s g src = option_or (winner_hop (rpf_interface_rp s g) (assert_source s g src)) (rpf_star s g)

-- RPF'(S,G) = AssertWinner(S,G,RPF_interface(S)) if I_Am_Assert_Loser(S,G,RPF_interface(S)),
-- else NBR(RPF_interface(S), MRIB.next_hop(S)) (4.1.5)
-- reads: the assert of (S,G) on RPF_interface(S); the route to S and the neighbour row of its next hop
unfoldable pub rpf_source : State → ℕ → ℕ → Option Hop
rpf_source s g src = option_or (winner_hop (rpf_interface s src) (assert_source s g src)) (nbr s (route s src))

-- PruneDesired(S,G,rpt) = RPTJoinDesired(G) AND (inherited_olist(S,G,rpt) == NULL
-- OR (SPTbit(S,G) == TRUE AND RPF'(*,G) != RPF'(S,G))) (4.5.7)
-- reads: what JoinDesired(*,G), inherited_olist(S,G,rpt), RPF'(*,G) and RPF'(S,G) read; the source row of (S,G)
unfoldable pub prune_desired : State → ℕ → ℕ → Bool
prune_desired s g src =
    join_desired_star s g
    && (is_empty s (inherited_olist_rpt s g src)
    || (spt_bit s g src && not (same_hop (rpf_star s g) (rpf_source s g src))))

-- the upstream state of (S,G,rpt): RPTNotJoined(G), Pruned(S,G,rpt) or NotPruned(S,G,rpt) (4.5.7)
-- reads: what JoinDesired(*,G) and PruneDesired(S,G,rpt) read
unfoldable pub tree_state : State → ℕ → ℕ → TreeState
tree_state s g src =
    if join_desired_star s g
    then (if prune_desired s g src then TreeState.Pruned else TreeState.NotPruned) else TreeState.NotJoined
