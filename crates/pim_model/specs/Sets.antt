-- The state summarization macros (RFC 7761, section 4.1.5), the order of assert metrics (4.6.3), and who lost an assert
-- (4.6.5). A set of interfaces is its test. The register tunnel is no member of such a set, so `is_immediate_empty` and
-- `is_inherited_empty` say whether a list of (S,G) is empty. The line `reads:` of a macro names the rows that it
-- depends on: no other row can change what it says.
use Rattle.std.{specs.{List.list_any, Option.option_map_or, Prelude.{Bool, List, None, Option, Some, false, filter, if◌then◌else◌, is_none, is_some, nat_lt, not, option_map, true, ℕ, ◌&&◌, ◌==◌, ◌||◌}}}
use Rattle.pim_ip.{specs.Addr.addr}
use Rattle.pim_types.{specs.{Keys.{rpt_key, source_key, star_key}, declared.{fact.{AssertMetric.AssertMetric, AssertRole.AssertRole, AssertRow.AssertRow, DownstreamRow.DownstreamRow, RegisterRow.RegisterRow, RegisterState.RegisterState, SourceRow.SourceRow}, path.Path.Path}}}
use Rattle.pim_model.{specs.{Neighbours.is_dr, Receivers.{local_receiver_exclude, local_receiver_include, local_receiver_star}, State.{State, ifaces, is_own, my_address}, Tables.{has_row, row_at, same_bool}, Unicast.{is_rpf_interface, is_rpf_interface_rp, route, rp_of, rp_route}}}

-- a set of interfaces
abbrev pub Set : Type 0
Set = ℕ → Bool

-- (+) and (-) are evaluated from left to right
infixl 65 ◌∪◌ ◌∖◌
-- A (+) B
abbrev pub ◌∪◌ : Set → Set → Set
◌∪◌ a b i = a i || b i

-- A (-) B
abbrev pub ◌∖◌ : Set → Set → Set
◌∖◌ a b i = a i && not (b i)

-- A == NULL: no configured interface is in the set
unfoldable pub is_empty : State → Set → Bool
is_empty s a = not (list_any a (ifaces s))

-- the interfaces of the set, ascending
unfoldable pub members : State → Set → List ℕ
members s a = filter a (ifaces s)

-- ---- facts

-- SPTbit(S,G) (4.1.3)
-- reads: the source row of (S,G)
unfoldable pub spt_bit : State → ℕ → ℕ → Bool
spt_bit s g src = option_map_or (λ (r : SourceRow). r.spt) (row_at s.sources (source_key 0 g src)) false

-- KeepaliveTimer(S,G) is running (4.1.3)
-- reads: the source row of (S,G)
unfoldable pub is_kept_alive : State → ℕ → ℕ → Bool
is_kept_alive s g src =
    option_map_or (λ (r : SourceRow). is_some r.keepalive) (row_at s.sources (source_key 0 g src)) false

-- the register state of (S,G) at its DR (4.4.1); no row is NoInfo
abbrev pub register_state : State → ℕ → ℕ → Option RegisterState
register_state s g src = option_map (λ (r : RegisterRow). r.state) (row_at s.registers (source_key 0 g src))

-- the register state is Join
abbrev pub is_register_join : Option RegisterState → Bool
is_register_join (Some RegisterState.Join) = true
is_register_join _ = false

-- DownstreamJPState(S,G,VI) == Join (4.4.1): the register tunnel VI is in joins(S,G), and therefore in
-- immediate_olist(S,G) and inherited_olist(S,G)
-- reads: the register row of (S,G)
unfoldable pub tunnel : State → ℕ → ℕ → Bool
tunnel s g src = is_register_join (register_state s g src)

-- joins(*,G) = { all interfaces I such that DownstreamJPState(*,G,I) is either Join or Prune-Pending }
-- reads: the downstream row of (*,G) on the interface
unfoldable pub joins_star : State → ℕ → Set
joins_star s g i = has_row s.downstream (star_key i g)

-- joins(S,G) = { all interfaces I such that DownstreamJPState(S,G,I) is either Join or Prune-Pending }
-- reads: the downstream row of (S,G) on the interface
unfoldable pub joins : State → ℕ → ℕ → Set
joins s g src i = has_row s.downstream (source_key i g src)

-- prunes(S,G,rpt) = { all interfaces I such that DownstreamJPState(S,G,rpt,I) is Prune or PruneTmp }
-- here: a message is judged as a whole, and no state is a Tmp one
-- reads: the downstream row of (S,G,rpt) on the interface
unfoldable pub prunes : State → ℕ → ℕ → Set
prunes s g src i =
    option_map_or (λ (r : DownstreamRow). is_none r.pending) (row_at s.downstream (rpt_key i g src)) false

-- ---- asserts

-- I_Am_Assert_Loser(.., I) (4.1.5), by the row of the assert
abbrev pub is_loser : Option AssertRow → Bool
is_loser (Some r) = elim r.role [ AssertRole.Loser ↦ true | AssertRole.Winner ↦ false ]
is_loser None = false

-- AssertWinner(.., I) == me, by the row of the assert
abbrev pub is_winner : Option AssertRow → Bool
is_winner (Some r) = elim r.role [ AssertRole.Winner ↦ true | AssertRole.Loser ↦ false ]
is_winner None = false

-- the assert of (*,G) on I: AssertWinner(*,G,I), AssertWinnerMetric(*,G,I) (4.6.5); no row is NoInfo
abbrev pub assert_star : State → ℕ → ℕ → Option AssertRow
assert_star s g i = row_at s.asserts (star_key i g)

-- the assert of (S,G) on I: AssertWinner(S,G,I), AssertWinnerMetric(S,G,I) (4.6.5); no row is NoInfo
abbrev pub assert_source : State → ℕ → ℕ → ℕ → Option AssertRow
assert_source s g src i = row_at s.asserts (source_key i g src)

-- one metric is better than another (4.6.3): the lower R bit, then the lower preference, the lower metric, the higher
-- address
unfoldable pub is_better : AssertMetric → AssertMetric → Bool
is_better m n =
    if not (same_bool m.rpt n.rpt) then n.rpt
    else (if not (m.preference == n.preference) then nat_lt m.preference n.preference
    else (if not (m.metric == n.metric) then nat_lt m.metric n.metric
    else nat_lt n.address.bits m.address.bits))

-- an assert metric (4.6.3): RPT bit, preference, metric, address
abbrev pub metric_of : Bool → ℕ → ℕ → ℕ → AssertMetric
metric_of rpt preference metric address =
    record { rpt = rpt; preference = preference; metric = metric; address = addr address }

-- here: the metric preference that a router without a route asserts (4.6.3), which is worse than every route's and not
-- infinite
abbrev pub unreachable_preference : ℕ
unreachable_preference = 0x7FFF_FFFF

-- here: the metric that a router without a route asserts (4.6.3)
abbrev pub unreachable_metric : ℕ
unreachable_metric = 0xFFFF_FFFE

-- {R, MRIB.pref(X), MRIB.metric(X), my_ip_address(I)} (4.6.3); here: both 0 where X is an own address
unfoldable pub route_metric : Bool → ℕ → Bool → Option Path → AssertMetric
route_metric rpt address own None =
    if own then metric_of rpt 0 0 address else metric_of rpt unreachable_preference unreachable_metric address
route_metric rpt address own (Some p) = metric_of rpt p.preference p.metric address

-- spt_assert_metric(S,I) = {0, MRIB.pref(S), MRIB.metric(S), my_ip_address(I)} (4.6.3)
-- reads: the interface's address, the own addresses, the route to S
unfoldable pub spt_metric : State → ℕ → ℕ → AssertMetric
spt_metric s src i = route_metric false (my_address s i) (is_own s src) (route s src)

-- rpt_assert_metric(G,I) = {1, MRIB.pref(RP(G)), MRIB.metric(RP(G)), my_ip_address(I)} (4.6.3)
-- reads: the interface's address, the own addresses, RP(G), the route to RP(G)
unfoldable pub rpt_metric : State → ℕ → ℕ → AssertMetric
rpt_metric s g i =
    route_metric true (my_address s i) (option_map_or (is_own s) (rp_of s g) false) (rp_route s g)

-- lost_assert(*,G,I) = RPF_interface(RP(G)) != I AND AssertWinner(*,G,I) != NULL AND AssertWinner(*,G,I) != me (4.6.5)
-- reads: the assert of (*,G) on the interface; RPF_interface(RP(G))
unfoldable pub lost_assert_star : State → ℕ → Set
lost_assert_star s g i = not (is_rpf_interface_rp s g i) && is_loser (assert_star s g i)

-- lost_assert(S,G,rpt,I) = NOT (RPF_interface(RP(G)) == I OR (RPF_interface(S) == I AND SPTbit(S,G) == TRUE))
-- AND AssertWinner(S,G,I) != NULL AND AssertWinner(S,G,I) != me (4.6.5)
-- reads: the assert and the source row of (S,G); RPF_interface(S), RPF_interface(RP(G))
unfoldable pub lost_assert_rpt : State → ℕ → ℕ → Set
lost_assert_rpt s g src i =
    not (is_rpf_interface_rp s g i || (is_rpf_interface s src i && spt_bit s g src))
    && is_loser (assert_source s g src i)

-- AssertWinnerMetric(S,G,I) is better than spt_assert_metric(S,I)
-- reads: the assert of (S,G) on the interface; spt_assert_metric(S,I)
unfoldable pub is_beaten : State → ℕ → ℕ → Set
is_beaten s g src i =
    option_map_or (λ (r : AssertRow). is_better r.winner (spt_metric s src i)) (assert_source s g src i) false

-- lost_assert(S,G,I) = RPF_interface(S) != I AND AssertWinner(S,G,I) != NULL AND AssertWinner(S,G,I) != me
-- AND AssertWinnerMetric(S,G,I) is better than spt_assert_metric(S,I) (4.6.5)
-- reads: the assert of (S,G) on the interface; RPF_interface(S), spt_assert_metric(S,I)
unfoldable pub lost_assert : State → ℕ → ℕ → Set
lost_assert s g src i =
    not (is_rpf_interface s src i) && is_loser (assert_source s g src i) && is_beaten s g src i

-- ---- local receivers

-- the router serves receivers of G on I (4.1.5):
-- (I_am_DR(I) AND lost_assert(*,G,I) == FALSE) OR AssertWinner(*,G,I) == me
-- reads: I_am_DR(I), the assert of (*,G) on the interface, RPF_interface(RP(G))
unfoldable pub serves_star : State → ℕ → Set
serves_star s g i = (is_dr s i && not (lost_assert_star s g i)) || is_winner (assert_star s g i)

-- the router serves receivers of (S,G) on I (4.1.5):
-- (I_am_DR(I) AND lost_assert(S,G,I) == FALSE) OR AssertWinner(S,G,I) == me
-- reads: I_am_DR(I), and what lost_assert(S,G) reads
unfoldable pub serves : State → ℕ → ℕ → Set
serves s g src i = (is_dr s i && not (lost_assert s g src i)) || is_winner (assert_source s g src i)

-- pim_include(*,G) = { all interfaces I such that: ((I_am_DR(I) AND lost_assert(*,G,I) == FALSE)
-- OR AssertWinner(*,G,I) == me) AND local_receiver_include(*,G,I) }
-- reads: what `serves_star` reads, and the group record on the interface
unfoldable pub pim_include_star : State → ℕ → Set
pim_include_star s g i = serves_star s g i && local_receiver_star s g i

-- pim_include(S,G) = { all interfaces I such that: ((I_am_DR(I) AND lost_assert(S,G,I) == FALSE)
-- OR AssertWinner(S,G,I) == me) AND local_receiver_include(S,G,I) }
-- reads: what `serves` reads, and the group record and the source record on the interface
unfoldable pub pim_include : State → ℕ → ℕ → Set
pim_include s g src i = serves s g src i && local_receiver_include s g src i

-- pim_exclude(S,G) = { all interfaces I such that: ((I_am_DR(I) AND lost_assert(*,G,I) == FALSE)
-- OR AssertWinner(*,G,I) == me) AND local_receiver_exclude(S,G,I) }
-- reads: what `serves_star` reads, and the group record and the source record on the interface
unfoldable pub pim_exclude : State → ℕ → ℕ → Set
pim_exclude s g src i = serves_star s g i && local_receiver_exclude s g src i

-- ---- lists of outgoing interfaces; the tunnel is in the two of (S,G) where it is in joins(S,G)

-- immediate_olist(*,G) = joins(*,G) (+) pim_include(*,G) (-) lost_assert(*,G)
-- reads: what joins(*,G), pim_include(*,G) and lost_assert(*,G) read: rows of (*,G) alone
unfoldable pub immediate_olist_star : State → ℕ → Set
immediate_olist_star s g = joins_star s g ∪ pim_include_star s g ∖ lost_assert_star s g

-- immediate_olist(S,G) = joins(S,G) (+) pim_include(S,G) (-) lost_assert(S,G)
-- reads: what joins(S,G), pim_include(S,G) and lost_assert(S,G) read: rows of (S,G), and group records
unfoldable pub immediate_olist : State → ℕ → ℕ → Set
immediate_olist s g src = joins s g src ∪ pim_include s g src ∖ lost_assert s g src

-- inherited_olist(S,G,rpt) = (joins(*,G) (-) prunes(S,G,rpt)) (+) (pim_include(*,G) (-) pim_exclude(S,G))
-- (-) (lost_assert(*,G) (+) lost_assert(S,G,rpt))
-- reads: what its sets read: rows of (*,G), (S,G) and (S,G,rpt)
unfoldable pub inherited_olist_rpt : State → ℕ → ℕ → Set
inherited_olist_rpt s g src =
    (joins_star s g ∖ prunes s g src) ∪ (pim_include_star s g ∖ pim_exclude s g src)
    ∖ (lost_assert_star s g ∪ lost_assert_rpt s g src)

-- inherited_olist(S,G) = inherited_olist(S,G,rpt) (+) joins(S,G) (+) pim_include(S,G) (-) lost_assert(S,G)
-- reads: what its sets read: rows of (*,G), (S,G) and (S,G,rpt)
unfoldable pub inherited_olist : State → ℕ → ℕ → Set
inherited_olist s g src =
    inherited_olist_rpt s g src ∪ joins s g src ∪ pim_include s g src ∖ lost_assert s g src
