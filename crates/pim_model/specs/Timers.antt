-- Which timers run, and when they expire: each timer of a row (RFC 7761, section 4.10) is under the row's key.
use Rattle.std.{specs.{Ordering.{is_lt, nat_cmp, ordering_then}, Prelude.{Bool, List, None, Option, Some, filter, filter_map, nat_le, option_map, ℕ, ◌++◌}, declared.cmp.Ordering.Ordering}}
use Rattle.pim_types.{specs.{Timers.timer_cmp, declared.{fact.{AssertRow.AssertRow, DownstreamRow.DownstreamRow, GroupRecordRow.GroupRecordRow, GroupRepeatRow.GroupRepeatRow, InterfaceRow.InterfaceRow, JoinTimerRow.JoinTimerRow, Key.Key, NeighbourRow.NeighbourRow, OverrideTimerRow.OverrideTimerRow, QuerierRole.QuerierRole, QuerierRow.QuerierRow, RegisterRow.RegisterRow, RegisterState.RegisterState, SourceRecordRow.SourceRecordRow, SourceRepeatRow.SourceRepeatRow, SourceRow.SourceRow}, timer.{Timer.Timer, TimerKind.TimerKind}}}}
use Rattle.pim_model.{specs.{Clearing.first_by, State.State, Tables.Table}}

-- a timestamp, and the timer that expires then
pub record Ending : Type 0 where
  pub end : ℕ
  pub timer : Timer

-- the ending of a timer, by its kind, key and timestamp
abbrev pub ending : TimerKind → Key → ℕ → Ending
ending kind k end = record { end = end; timer = record { kind = kind; key = k } }

module _ {R : Type 0} (kind : TimerKind) (end_of : R → Option ℕ) where
  -- the timers that run in a table's rows
  unfoldable pub endings : Table R → List Ending
  endings rows = filter_map (λ (e : Key × R). option_map (ending kind e.0) (end_of e.1)) rows

-- when RST(S,G) expires; it doesn't run in Join (4.4.1)
abbrev pub register_end : RegisterState → Option ℕ
register_end RegisterState.Join = None
register_end (RegisterState.JoinPending end) = Some end
register_end (RegisterState.Prune end) = Some end

-- when the next general query leaves, if the router is the querier
abbrev pub next_query : QuerierRole → Option ℕ
next_query (QuerierRole.Querier next left) = Some next
next_query (QuerierRole.NonQuerier end) = None

-- when the Other-Querier-Present timer expires, if another router is the querier
abbrev pub other_querier_end : QuerierRole → Option ℕ
other_querier_end (QuerierRole.Querier next left) = None
other_querier_end (QuerierRole.NonQuerier end) = Some end

-- all timers that run: NLT(N,I), PPT, ET, the group and source timers of IGMP, AT, KAT(S,G), RST(S,G), OT(S,G,rpt), JT,
-- Other-Querier-Present, repeats of queries, general queries, HT(I)
unfoldable pub timers : State → List Ending
timers s =
    endings TimerKind.Neighbour (λ (r : NeighbourRow). r.end) s.neighbours
    ++ endings TimerKind.PrunePending (λ (r : DownstreamRow). r.pending) s.downstream
    ++ endings TimerKind.DownstreamExpiry (λ (r : DownstreamRow). r.expiry) s.downstream
    ++ endings TimerKind.GroupRecord (λ (r : GroupRecordRow). r.end) s.group_records
    ++ endings TimerKind.SourceRecord (λ (r : SourceRecordRow). r.end) s.source_records
    ++ endings TimerKind.Assert (λ (r : AssertRow). Some r.end) s.asserts
    ++ endings TimerKind.Keepalive (λ (r : SourceRow). r.keepalive) s.sources
    ++ endings TimerKind.Register (λ (r : RegisterRow). register_end r.state) s.registers
    ++ endings TimerKind.Override (λ (r : OverrideTimerRow). Some r.end) s.override_timers
    ++ endings TimerKind.Join (λ (r : JoinTimerRow). Some r.end) s.join_timers
    ++ endings TimerKind.OtherQuerier (λ (r : QuerierRow). other_querier_end r.role) s.queriers
    ++ endings TimerKind.GroupRepeat (λ (r : GroupRepeatRow). Some r.next) s.group_repeats
    ++ endings TimerKind.SourceRepeat (λ (r : SourceRepeatRow). Some r.next) s.source_repeats
    ++ endings TimerKind.GeneralQuery (λ (r : QuerierRow). next_query r.role) s.queriers
    ++ endings TimerKind.Hello (λ (r : InterfaceRow). Some r.hello_end) s.interfaces

-- the order of endings: by timestamp, rank of the kind, and key
unfoldable pub ending_cmp : Ending → Ending → Ordering
ending_cmp a b =
    ordering_then (nat_cmp a.end b.end) (timer_cmp a.timer b.timer)

-- of two timers the first expires before the second
abbrev pub is_ending_first : Ending → Ending → Bool
is_ending_first a b = is_lt (ending_cmp a b)

-- the timer that expires first
unfoldable pub next_ending : State → Option Ending
next_ending s = first_by is_ending_first (timers s)

-- the timestamp at which the next timer expires, if any runs
unfoldable pub next_moment : State → Option ℕ
next_moment s = option_map (λ (e : Ending). e.end) (next_ending s)

-- the first timer that is due by a timestamp
unfoldable pub next_due : ℕ → State → Option Ending
next_due moment s = first_by is_ending_first (filter (λ (e : Ending). nat_le e.end moment) (timers s))
