-- The assert machines of (S,G) and (*,G) (RFC 7761, sections 4.6.1 and 4.6.2), by the actions A1 to A6 of their tables.
-- A row is "I am Assert Winner" (W) or "I am Assert Loser" (L), no row NoInfo (NI). Which asserts must go after a
-- change is in `Clearing`.
use Rattle.std.{specs.Prelude.{Bool, List, None, Option, Some, [], false, if◌then◌else◌, is_some, not, option_and_then, true, ℕ, ◌&&◌, ◌++◌, ◌+◌, ◌==◌, ◌||◌, ◌∷◌}}
use Rattle.pim_types.{specs.{Keys.{group_in, iface_in, is_star, source_in, source_key, star_key}, declared.fact.{AssertMetric.AssertMetric, AssertRole.AssertRole, AssertRow.AssertRow, Key.Key, SourceRow.SourceRow}}}
use Rattle.pim_wire.{specs.declared.assert.Assert.Assert as AssertMessage}
use Rattle.pim_model.{specs.{AssertMacros.{could_assert, could_assert_star, infinite, is_infinite, is_tracking_desired, is_tracking_desired_star, my_metric, my_metric_star}, Desires.join_desired, Messages.Message, Sets.{is_better, is_winner, metric_of, rpt_metric, spt_metric}, State.State, Tables.{change_row, drop_at, has_row, put, row_at}, Unicast.is_rpf_interface}}

-- Assert_Time - Assert_Override_Interval (4.11), in ms
abbrev pub winner_time : ℕ
winner_time = 177000

-- Assert_Time (4.11), in ms
abbrev pub loser_time : ℕ
loser_time = 180000

-- CouldAssert of a machine, by the key of its row: (*,G) or (S,G) on I
abbrev pub could_assert_at : State → Key → Bool
could_assert_at s k =
    if is_star k then could_assert_star s (group_in k) (iface_in k)
    else could_assert s (group_in k) (source_in k) (iface_in k)

-- AssertTrackingDesired of a machine, by the key of its row: (*,G) or (S,G) on I
abbrev pub is_tracking_at : State → Key → Bool
is_tracking_at s k =
    if is_star k then is_tracking_desired_star s (group_in k) (iface_in k)
    else is_tracking_desired s (group_in k) (source_in k) (iface_in k)

-- my_assert_metric of a machine, by the key of its row: (*,G) or (S,G) on I
abbrev pub my_metric_at : State → Key → AssertMetric
my_metric_at s k =
    if is_star k then my_metric_star s (group_in k) (iface_in k)
    else my_metric s (group_in k) (source_in k) (iface_in k)

-- the metric of an Assert that is sent (4.6.3): rpt_assert_metric(G,I) of (*,G), spt_assert_metric(S,I) of (S,G)
abbrev pub asserted_metric : State → Key → AssertMetric
asserted_metric s k =
    if is_star k then rpt_metric s (group_in k) (iface_in k) else spt_metric s (source_in k) (iface_in k)

-- an Assert on I; here: one of (*,G) has source 0.0.0.0
unfoldable pub assert_message : Key → AssertMetric → Message
assert_message k metric = Message.Assert (iface_in k) (group_in k) (source_in k) metric

-- Send Assert: the Assert of a machine, with the metric that it sends
abbrev pub assert_sent : State → Key → Message
assert_sent s k = assert_message k (asserted_metric s k)

-- Send AssertCancel (4.6.4): the Assert of a machine, with the infinite metric
abbrev pub assert_cancel : Key → Message
assert_cancel k = assert_message k infinite

-- A1: send Assert; Assert Timer to Assert_Time - Assert_Override_Interval; the router is stored with its metric
unfoldable pub wins : State → Key → State × List Message
wins s k = (
  record s { asserts = put s.asserts k (record { role = AssertRole.Winner; winner = my_metric_at s k; end = s.present + winner_time }) },
  assert_sent s k ∷ [],
)

-- A3: send Assert; Assert Timer to Assert_Time - Assert_Override_Interval
unfoldable pub wins_again : State → Key → AssertRow → State × List Message
wins_again s k r = (
  record s { asserts = change_row (λ (old : AssertRow). Some (record r { end = s.present + winner_time })) k s.asserts },
  assert_sent s k ∷ [],
)

-- A2: the new winner is stored with its metric; Assert Timer to Assert_Time
unfoldable pub loses : State → Key → AssertMetric → State
loses s k theirs =
    record s { asserts = put s.asserts k (record { role = AssertRole.Loser; winner = theirs; end = s.present + loser_time }) }

-- A5, and the state of A4, which also sends an AssertCancel: assert information is deleted
unfoldable pub assert_forgotten : State → Key → State
assert_forgotten s k = record s { asserts = drop_at s.asserts k }

-- the state with SPTbit(S,G) set
unfoldable pub with_spt_bit : State → ℕ → ℕ → State
with_spt_bit s g src =
    let keepalive : Option ℕ =
    option_and_then (λ (r : SourceRow). r.keepalive) (row_at s.sources (source_key 0 g src)) in
    record s { sources = put s.sources (source_key 0 g src) (record { keepalive = keepalive; spt = true }) }

-- a source row without SPTbit: it stays while its keepalive timer runs
abbrev pub without_spt : SourceRow → Option SourceRow
without_spt r = if is_some r.keepalive then Some (record r { spt = false }) else None

-- the state with SPTbit(S,G) cleared
unfoldable pub without_spt_bit : State → Key → State
without_spt_bit s k = record s { sources = change_row without_spt k s.sources }

-- A6 of (S,G), A2 of (*,G): the winner is stored as by A2; for (S,G), if I is RPF_interface(S) AND UpstreamJPState(S,G)
-- == Joined, SPTbit(S,G) is set
unfoldable pub loses_first : State → Key → AssertMetric → State
loses_first s k theirs =
    let lost : State = loses s k theirs in
    let moves : Bool =
    not (is_star k) && is_rpf_interface s (source_in k) (iface_in k) && join_desired s (group_in k) (source_in k) in
    if moves then with_spt_bit lost (group_in k) (source_in k) else lost

-- an acceptable assert: better than my_assert_metric, and not infinite
abbrev pub is_acceptable : State → Key → AssertMetric → Bool
is_acceptable s k theirs = is_better theirs (my_metric_at s k) && not (is_infinite theirs)

-- an inferior assert: worse than my_assert_metric, which isn't infinite
abbrev pub is_inferior : State → Key → AssertMetric → Bool
is_inferior s k theirs = is_better (my_metric_at s k) theirs && not (is_infinite (my_metric_at s k))

-- an Assert that makes a winner: an inferior one, or of (S,G) any with RPTbit set, where CouldAssert
abbrev pub is_challenge : State → Key → AssertMetric → Bool
is_challenge s k theirs =
    could_assert_at s k && ((theirs.rpt && not (is_star k)) || is_inferior s k theirs)

-- RPTbit is clear, as some events of the machine of (S,G) require; the machine of (*,G) has no such event
abbrev pub is_of_tree : Key → AssertMetric → Bool
is_of_tree k theirs = is_star k || not theirs.rpt

-- In NoInfo: a challenge -> W by A1; acceptable (of (S,G) with RPTbit clear) and AssertTrackingDesired -> L by A6,
-- of (*,G) by A2
unfoldable pub assert_in_no_info : State → Key → AssertMetric → State × List Message
assert_in_no_info s k theirs =
    if is_challenge s k theirs then wins s k
    else (if is_acceptable s k theirs && is_of_tree k theirs && is_tracking_at s k then (loses_first s k theirs, [])
    else (s, []))

-- In I Am Assert Winner: preferred -> L by A2, inferior -> W by A3; here: preferred is tested first
unfoldable pub assert_as_winner : State → Key → AssertRow → AssertMetric → State × List Message
assert_as_winner s k r theirs =
    if is_better theirs r.winner then (loses s k theirs, [])
    else (if is_inferior s k theirs then wins_again s k r else (s, []))

-- an Assert is from Current Winner
abbrev pub is_from_winner : AssertRow → AssertMetric → Bool
is_from_winner r theirs = theirs.address.bits == r.winner.address.bits

-- In I Am Assert Loser: preferred, or acceptable from Current Winner (of (S,G) with RPTbit clear) -> L by A2;
-- inferior, or AssertCancel, from Current Winner -> NI by A5
unfoldable pub assert_as_loser : State → Key → AssertRow → AssertMetric → State
assert_as_loser s k r theirs =
    if is_better theirs r.winner || (is_from_winner r theirs && is_acceptable s k theirs && is_of_tree k theirs)
    then loses s k theirs
    else (if is_from_winner r theirs && (is_inferior s k theirs || is_infinite theirs) then assert_forgotten s k else s)

-- an Assert as an event of one machine
unfoldable pub assert_at : State → Key → AssertMetric → State × List Message
assert_at s k theirs =
    elim (row_at s.asserts k) [
      | None ↦ assert_in_no_info s k theirs
      | Some r ↦ (if is_winner (Some r) then assert_as_winner s k r theirs else (assert_as_loser s k r theirs, []))
    ]

-- the metric of an Assert, with the address that it came from
abbrev pub theirs_of : AssertMessage → ℕ → AssertMetric
theirs_of a from = metric_of a.rpt a.preference a.metric from

-- an Assert goes to (S,G), and then to (*,G) where (S,G) was in NoInfo and stays so (4.6.2); one with source 0.0.0.0
-- goes to (*,G) alone
-- here: one with RPTbit clear is no event of (*,G)
unfoldable pub assert_received : State → ℕ → ℕ → AssertMessage → State × List Message
assert_received s i from a =
    let g : ℕ = a.group.bits in
    let k : Key = source_key i g a.source.bits in
    let theirs : AssertMetric = theirs_of a from in
    let first : State × List Message = (if a.source.bits == 0 then (s, []) else assert_at s k theirs) in
    let goes_on : Bool =
    a.rpt && ((a.source.bits == 0) || (not (has_row s.asserts k) && not (has_row (first.0).asserts k))) in
    let second : State × List Message = (if goes_on then assert_at first.0 (star_key i g) theirs else (first.0, [])) in
    (second.0, first.1 ++ second.1)

-- In NoInfo, data arrives on I and CouldAssert: -> W by A1
unfoldable pub data_seen : State → Key → State × List Message
data_seen s k = if could_assert_at s k && not (has_row s.asserts k) then wins s k else (s, [])

-- Assert Timer expires: W -> W by A3, L -> NI by A5
unfoldable pub assert_due : State → Key → AssertRow → State × List Message
assert_due s k r = if is_winner (Some r) then wins_again s k r else (assert_forgotten s k, [])
