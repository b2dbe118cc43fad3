-- The macros of the assert machines. Sections are those of RFC 7761.
use Rattle.std.{specs.Prelude.{Bool, if◌then◌else◌, not, true, ℕ, ◌&&◌, ◌==◌, ◌||◌}}
use Rattle.pim_types.{specs.declared.fact.AssertMetric.AssertMetric}
use Rattle.pim_model.{specs.{Desires.{join_desired, join_desired_star}, Neighbours.is_dr, Receivers.{local_receiver_include, local_receiver_star}, Sets.{Set, assert_source, assert_star, is_winner, joins, joins_star, lost_assert_star, metric_of, pim_exclude, pim_include, pim_include_star, prunes, rpt_metric, spt_bit, spt_metric, unreachable_preference, ◌∖◌, ◌∪◌}, State.State, Unicast.{is_rpf_interface, is_rpf_interface_rp}}}

-- (joins(*,G) (-) prunes(S,G,rpt)) (+) (pim_include(*,G) (-) pim_exclude(S,G)) (-) lost_assert(*,G) (+) joins(S,G):
-- what CouldAssert(S,G,I) and AssertTrackingDesired(S,G,I) have in common (4.6.1)
-- reads: rows of (*,G), (S,G) and (S,G,rpt), the group record, the source record; I_am_DR(I), RPF_interface(RP(G))
unfoldable pub forwarding_set : State → ℕ → ℕ → Set
forwarding_set s g src =
    (joins_star s g ∖ prunes s g src) ∪ (pim_include_star s g ∖ pim_exclude s g src)
    ∖ lost_assert_star s g ∪ joins s g src

-- CouldAssert(S,G,I) = SPTbit(S,G) == TRUE AND RPF_interface(S) != I
-- AND I in (`forwarding_set` (+) pim_include(S,G)) (4.6.1)
-- reads: what `forwarding_set` and pim_include(S,G) read; SPTbit(S,G), RPF_interface(S)
unfoldable pub could_assert : State → ℕ → ℕ → ℕ → Bool
could_assert s g src i =
    spt_bit s g src && not (is_rpf_interface s src i) && (forwarding_set s g src ∪ pim_include s g src) i

-- CouldAssert(*,G,I) = I in (joins(*,G) (+) pim_include(*,G)) AND RPF_interface(RP(G)) != I (4.6.2)
-- reads: what joins(*,G) and pim_include(*,G) read; RPF_interface(RP(G))
unfoldable pub could_assert_star : State → ℕ → ℕ → Bool
could_assert_star s g i = (joins_star s g ∪ pim_include_star s g) i && not (is_rpf_interface_rp s g i)

-- AssertTrackingDesired(S,G,I) = I in `forwarding_set`
-- OR (local_receiver_include(S,G,I) AND (I_am_DR(I) OR AssertWinner(S,G,I) == me))
-- OR (RPF_interface(S) == I AND JoinDesired(S,G))
-- OR (RPF_interface(RP(G)) == I AND JoinDesired(*,G) AND SPTbit(S,G) == FALSE) (4.6.1)
-- reads: what `forwarding_set`, JoinDesired(S,G) and JoinDesired(*,G) read; SPTbit(S,G), both RPF interfaces
unfoldable pub is_tracking_desired : State → ℕ → ℕ → ℕ → Bool
is_tracking_desired s g src i =
    forwarding_set s g src i
    || (local_receiver_include s g src i && (is_dr s i || is_winner (assert_source s g src i)))
    || (is_rpf_interface s src i && join_desired s g src)
    || (is_rpf_interface_rp s g i && join_desired_star s g && not (spt_bit s g src))

-- AssertTrackingDesired(*,G,I) = CouldAssert(*,G,I)
-- OR (local_receiver_include(*,G,I) AND (I_am_DR(I) OR AssertWinner(*,G,I) == me))
-- OR (RPF_interface(RP(G)) == I AND RPTJoinDesired(G)) (4.6.2)
-- reads: what CouldAssert(*,G,I) and JoinDesired(*,G) read; the group record, I_am_DR(I), the assert of (*,G)
unfoldable pub is_tracking_desired_star : State → ℕ → ℕ → Bool
is_tracking_desired_star s g i =
    could_assert_star s g i
    || (local_receiver_star s g i && (is_dr s i || is_winner (assert_star s g i)))
    || (is_rpf_interface_rp s g i && join_desired_star s g)

-- the infinite metric; the infinite preference is 0x7FFFFFFF
abbrev pub infinite_metric : ℕ
infinite_metric = 0xFFFF_FFFF

-- infinite_assert_metric() = {1, infinity, infinity, 0} (4.6.3)
abbrev pub infinite : AssertMetric
infinite = metric_of true unreachable_preference infinite_metric 0

-- the metric is infinite, as that of an AssertCancel (4.6.4), whatever its address
unfoldable pub is_infinite : AssertMetric → Bool
is_infinite m = m.rpt && (m.preference == unreachable_preference) && (m.metric == infinite_metric)

-- my_assert_metric(*,G,I), of which 4.6.2 speaks: rpt_assert_metric(G,I) if CouldAssert(*,G,I), else infinite
-- reads: what CouldAssert(*,G,I) and rpt_assert_metric(G,I) read
unfoldable pub my_metric_star : State → ℕ → ℕ → AssertMetric
my_metric_star s g i = if could_assert_star s g i then rpt_metric s g i else infinite

-- my_assert_metric(S,G,I) = spt_assert_metric(S,I) if CouldAssert(S,G,I), else rpt_assert_metric(G,I) if
-- CouldAssert(*,G,I), else infinite_assert_metric() (4.6.3)
-- reads: what CouldAssert(S,G,I), spt_assert_metric(S,I) and my_assert_metric(*,G,I) read
unfoldable pub my_metric : State → ℕ → ℕ → ℕ → AssertMetric
my_metric s g src i = if could_assert s g src i then spt_metric s src i else my_metric_star s g i
