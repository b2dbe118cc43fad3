use Rattle.pim_types.{specs.declared.{fact.{AssertRow.AssertRow, DownstreamRow.DownstreamRow, GroupRecordRow.GroupRecordRow, GroupRepeatRow.GroupRepeatRow, InterfaceRow.InterfaceRow, JoinTimerRow.JoinTimerRow, NeighbourRow.NeighbourRow, OverrideTimerRow.OverrideTimerRow, QuerierRow.QuerierRow, RegisterRow.RegisterRow, SourceRecordRow.SourceRecordRow, SourceRepeatRow.SourceRepeatRow, SourceRow.SourceRow}, timer.TimerKind.TimerKind}}
use Rattle.std.{proofs.Common.Some}
use Rattle.pim_model.{specs.Timers.{endings, next_ending, next_query, other_querier_end, register_end, timers}}
use Rattle.pim_tables.{specs.Ends.row_endings, proofs.Orders.moved}
use Rattle.pim_tables.proofs.law.rows_end_as_written.Goals as goal

pub returns : goal.returns
unfolding next_ending timers row_endings
returns c = λ s. moved
    (endings TimerKind.Neighbour (λ (r : NeighbourRow). r.end) s.neighbours)
    (endings TimerKind.PrunePending (λ (r : DownstreamRow). r.pending) s.downstream)
    (endings TimerKind.DownstreamExpiry (λ (r : DownstreamRow). r.expiry) s.downstream)
    (endings TimerKind.GroupRecord (λ (r : GroupRecordRow). r.end) s.group_records)
    (endings TimerKind.SourceRecord (λ (r : SourceRecordRow). r.end) s.source_records)
    (endings TimerKind.Assert (λ (r : AssertRow). Some r.end) s.asserts)
    (endings TimerKind.Keepalive (λ (r : SourceRow). r.keepalive) s.sources)
    (endings TimerKind.Register (λ (r : RegisterRow). register_end r.state) s.registers)
    (endings TimerKind.Override (λ (r : OverrideTimerRow). Some r.end) s.override_timers)
    (endings TimerKind.Join (λ (r : JoinTimerRow). Some r.end) s.join_timers)
    (endings TimerKind.OtherQuerier (λ (r : QuerierRow). other_querier_end r.role) s.queriers)
    (endings TimerKind.GroupRepeat (λ (r : GroupRepeatRow). Some r.next) s.group_repeats)
    (endings TimerKind.SourceRepeat (λ (r : SourceRepeatRow). Some r.next) s.source_repeats)
    (endings TimerKind.GeneralQuery (λ (r : QuerierRow). next_query r.role) s.queriers)
    (endings TimerKind.Hello (λ (r : InterfaceRow). Some r.hello_end) s.interfaces)
