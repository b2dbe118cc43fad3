use Rattle.std.{proofs.Common.{None, Some, ap, arith, length, ◌∙◌}}
use Rattle.pim_timers.{specs.Armed.holds}
use Rattle.pim_types.{specs.declared.{fact.JoinTimerRow.JoinTimerRow, timer.TimerKind.TimerKind}}
use Rattle.pim_store.{specs.Said.timers_in}
use Rattle.pim_tables.{proofs.Steps.{none_left, row_owed_less, rows_owed}}
use Rattle.pim_store.proofs.join_timers.LentReadRowsJoinTimerRow.arm_all.Goals as goal

pub loop-key-init : goal.loop-key-init
loop-key-init c =
    let is = c.into_iter-key-iterator.ensures.into_iter_gives ∙ c.among-key-items.ensures ∙ ap timers_in c.iter.ensures
    ∙ c.self.view_is in
    let same = ap (λ t. length t) is in
    record {
      owes = rows_owed (TimerKind.Join, None) (λ (r : JoinTimerRow). (Some r.end, None)) c.args.self.now
          c.into_iter-key-iterator.result (holds c.args.queue.now) is;
      room = omega (arith, same, c.requires);
      few = omega (arith, same);
    }

pub loop-key-preserved : goal.loop-key-preserved
loop-key-preserved c =
    let more = ap (λ t. length t) c.in-Some.ensures.steps in
    record {
      owes = row_owed_less (TimerKind.Join, None) (λ (r : JoinTimerRow). (Some r.end, None)) c.args.self.now
          c.loop-key.key-iterator c.next.new.self c.in-Some.key c.in-Some.row (holds c.loop-key.queue)
          (holds c.arm_row.new.queue) c.in-Some.ensures.steps c.arm_row.ensures.grows c.arm_row.ensures.armed
          c.loop-key.invariant.owes;
      room = omega (arith, more, c.loop-key.invariant.room, c.arm_row.ensures.room);
      few = omega (arith, more, c.loop-key.invariant.few, c.arm_row.ensures.few);
    }

pub arm_row-requires : goal.arm_row-requires
arm_row-requires c =
    let more = ap (λ t. length t) c.in-Some.ensures.steps in omega (arith, more, c.loop-key.invariant.room)

pub returns-clause-armed : goal.returns-clause-armed
returns-clause-armed c =
    none_left (TimerKind.Join, None) (λ (r : JoinTimerRow). (Some r.end, None)) c.args.self.now c.loop-key.key-iterator
    (holds c.loop-key.queue) c.in-None.ensures.steps.0 c.loop-key.invariant.owes
