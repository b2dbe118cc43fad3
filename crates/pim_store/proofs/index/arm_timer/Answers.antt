use Rattle.std.{proofs.Common.{None, OnOk, Some, subst, sym}}
use Rattle.pim_timers.{specs.Armed.holds}
use Rattle.pim_types.{specs.declared.{fact.JoinTimerRow.JoinTimerRow, timer.TimerKind.TimerKind}}
use Rattle.pim_tables.{proofs.Steps.{no_row_armed, still_beside}}
use Rattle.pim_store.{specs.JoinTimers.IsTimerArmed}
use Rattle.pim_store.proofs.index.arm_timer.Goals as goal

pub returns-in-Some-clause-ok : goal.returns-in-Some-clause-ok
returns-in-Some-clause-ok c =
    subst (λ o. OnOk c.arm.result (IsTimerArmed c.arm.new.self c.args.key o)) (sym c.in-Some.is) c.arm.ensures.ok

pub returns-in-None-clause-ok : goal.returns-in-None-clause-ok
returns-in-None-clause-ok c =
    subst (λ o. IsTimerArmed c.args.ends.now c.args.key o) (sym c.in-None.is)
    (no_row_armed (TimerKind.Join, None) (λ (r : JoinTimerRow). (Some r.end, None)) (holds c.args.ends.now) c.args.key)

pub returns-in-None-clause-beside : goal.returns-in-None-clause-beside
returns-in-None-clause-beside c = λ rows changed w step row armed.
    still_beside (TimerKind.Join, None) (λ (r : JoinTimerRow). (Some r.end, None)) c.args.ends.now rows changed c.args.key w
    step row armed
