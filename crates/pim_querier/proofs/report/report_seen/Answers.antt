use Rattle.std.{proofs.Common.{ap, filter, not, sym, ◌∙◌}}
use Rattle.pim_model.{specs.Querier.{is_skipped, record_seen, report_seen}}
use Rattle.pim_querier.{proofs.InTurn.{all_done, one_passed, one_taken}}
use Rattle.pim_querier.proofs.report.report_seen.Goals as goal

pub loop-group_record-preserved-in-Continue-1 : goal.loop-group_record-preserved-in-Continue-1
loop-group_record-preserved-in-Continue-1 c =
    let l = c.loop-group_record in (
      one_taken (record_seen c.args.iface.number) c.args.world.now c.args.turn.now
          (filter (λ r. not (is_skipped r)) c.args.report.now) l.world l.turn (λ r. not (is_skipped r)) c.in-Some.group_record
          l.group_record-iterator c.next.new.self c.in-Some.ensures.steps
          (ap not (sym c.is_skipped.ensures ∙ c.if-not-is_skipped.true)) c.record_seen.new.world c.record_seen.new.turn
          c.in_ok-record_seen.ensures.state c.in_ok-record_seen.ensures.messages l.invariant.0,
      c.in_ok-record_seen.ensures.known,
    )

pub loop-group_record-preserved : goal.loop-group_record-preserved
loop-group_record-preserved c =
    let l = c.loop-group_record in (
      one_passed (record_seen c.args.iface.number) c.args.world.now c.args.turn.now
          (filter (λ r. not (is_skipped r)) c.args.report.now) l.world l.turn (λ r. not (is_skipped r)) c.in-Some.group_record
          l.group_record-iterator c.next.new.self c.in-Some.ensures.steps
          (ap not (sym c.is_skipped.ensures ∙ c.if-not-is_skipped.false)) l.invariant.0,
      l.invariant.1,
    )

pub record_seen-requires-clause-known : goal.record_seen-requires-clause-known
record_seen-requires-clause-known c = c.loop-group_record.invariant.1

pub returns-clause-state : goal.returns-clause-state
unfolding report_seen
returns-clause-state c =
    (all_done (record_seen c.args.iface.number) c.args.world.now c.args.turn.now
    (filter (λ r. not (is_skipped r)) c.args.report.now) c.loop-group_record.world c.loop-group_record.turn
    (filter (λ r. not (is_skipped r)) c.loop-group_record.group_record-iterator)
    (ap (λ rs. filter (λ r. not (is_skipped r)) rs) c.in-None.ensures.steps.0) c.loop-group_record.invariant.0).0

pub returns-clause-messages : goal.returns-clause-messages
unfolding report_seen
returns-clause-messages c =
    (all_done (record_seen c.args.iface.number) c.args.world.now c.args.turn.now
    (filter (λ r. not (is_skipped r)) c.args.report.now) c.loop-group_record.world c.loop-group_record.turn
    (filter (λ r. not (is_skipped r)) c.loop-group_record.group_record-iterator)
    (ap (λ rs. filter (λ r. not (is_skipped r)) rs) c.in-None.ensures.steps.0) c.loop-group_record.invariant.0).1
