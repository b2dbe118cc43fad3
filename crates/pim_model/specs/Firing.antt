-- A change with what follows from it, and timers that expire in their order (RFC 7761, section 4.10; RFC 3376, section
-- 8).
use Rattle.std.{specs.{Option.option_map_or, Prelude.{List, None, Some, [], if◌then◌else◌, length, ℕ, ◌++◌, ◌+◌, ◌-◌}}}
use Rattle.pim_types.{specs.{Keys.{group_in, iface_in, source_in}, declared.{fact.{GroupRepeatRow.GroupRepeatRow, Key.Key, QuerierRole.QuerierRole, QuerierRow.QuerierRow, RegisterRow.RegisterRow, SourceRow.SourceRow}, outcome.Emission.Emission, timer.TimerKind.TimerKind}}}
use Rattle.pim_model.{specs.{Asserts.assert_due, Clearing.clear, Downstream.{downstream_expired, prune_pending_due}, Hellos.{hello_due, neighbour_due}, Messages.Message, Querier.{general_query_due, group_record_due, group_repeat_due, other_querier_gone, source_record_due, source_repeat_due}, Registers.register_due, Repeat.until_none, State.State, Tables.{Table, change_row, row_at}, Timers.{Ending, next_due, timers}, Upstream.{join_timer_due, override_timer_due, upstream}, Writing.write_all}}

-- a change without messages
abbrev pub silent : State → State × List Message
silent s = (s, [])

module _ {R : Type 0} (rows : State → Table R) (fire : State → Key → R → State × List Message) where
  -- the change of the row at a key whose timer expires; nothing where there is no row
  unfoldable pub fire_row : State → Key → State × List Message
  fire_row s k = option_map_or (fire s k) (row_at (rows s) k) (s, [])

-- how many startup queries a querier is still to send
abbrev pub startup_left : QuerierRole → ℕ
startup_left (QuerierRole.Querier next left) = left
startup_left (QuerierRole.NonQuerier end) = 0

-- KeepaliveTimer(S,G) expires (4.2); the source row stays while SPTbit(S,G) is set
unfoldable pub keepalive_due : State → Key → SourceRow → State
keepalive_due s k r =
    record s { sources = change_row (λ (old : SourceRow). if r.spt then Some (record r { keepalive = None }) else None) k s.sources }

-- the change of a timer that expires, with its messages: NLT, PPT, ET, IGMP's group and source timers, AT, KAT, RST,
-- OT, JT, the Other-Querier-Present timer, repeats of queries, general queries, HT
unfoldable pub fired : State → TimerKind → Key → State × List Message
fired s TimerKind.Neighbour k = silent (neighbour_due s k)
fired s TimerKind.PrunePending k = fire_row (λ t. t.downstream) prune_pending_due s k
fired s TimerKind.DownstreamExpiry k = silent (downstream_expired s k)
fired s TimerKind.GroupRecord k = silent (group_record_due s (iface_in k) (group_in k))
fired s TimerKind.SourceRecord k = silent (source_record_due s (iface_in k) (group_in k) (source_in k))
fired s TimerKind.Assert k = fire_row (λ t. t.asserts) assert_due s k
fired s TimerKind.Keepalive k = fire_row (λ t. t.sources) (λ t q r. silent (keepalive_due t q r)) s k
fired s TimerKind.Register k = fire_row (λ t. t.registers) (λ t q (r : RegisterRow). register_due t q r.state) s k
fired s TimerKind.Override k = override_timer_due s k
fired s TimerKind.Join k = join_timer_due s k
fired s TimerKind.OtherQuerier k = other_querier_gone s (iface_in k)
fired s TimerKind.GroupRepeat k =
    fire_row (λ t. t.group_repeats)
    (λ t q (r : GroupRepeatRow). group_repeat_due t (iface_in q) (group_in q) r.left) s k
fired s TimerKind.SourceRepeat k = source_repeat_due s (iface_in k) (group_in k)
fired s TimerKind.GeneralQuery k =
    fire_row (λ t. t.queriers) (λ t q (r : QuerierRow). general_query_due t (iface_in q) (startup_left r.role)) s k
fired s TimerKind.Hello k = fire_row (λ t. t.interfaces) hello_due s k

-- ---- a change, what must go after it, what is sent upstream; then all becomes packets

-- a change, then what must go after it, then the messages upstream; all messages become packets. o is the state before
-- the change
unfoldable pub settled : State → State × List Message → ℕ → State × List Emission
settled o change w =
    let after_clearing : State × List Message = clear o change.0 in
    let told : State × List Message = upstream o after_clearing.0 w in
    write_all told.0 (change.1 ++ after_clearing.1 ++ told.1)

-- one timer expires, with the present time set to its timestamp
unfoldable pub fire_once : ℕ → State → Ending → State × List Emission
fire_once w s e = settled s (fired (record s { present = e.end }) e.timer.kind e.timer.key) w

-- all timers expire that are due at the timestamp of an expiring timer
unfoldable pub fire_instant : ℕ → State → Ending → State × List Emission
fire_instant w s e = until_none (next_due e.end) (fire_once w) (length (timers s) + 1) s

-- again and again the first timer that is due by the timestamp expires, until none is due
unfoldable pub fire_all : ℕ → ℕ → State → State × List Emission
fire_all w moment s = until_none (next_due moment) (fire_instant w) (moment + 2 - s.present) s
