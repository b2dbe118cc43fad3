use Rattle.std.{proofs.Common.{◌≡◌, None, OnOk, Some, subst, sym}}
use Rattle.pim_model.{specs.Tables.Table}
use Rattle.pim_timers.{specs.Armed.holds, proofs.Held.either_way}
use Rattle.pim_types.{specs.declared.{fact.JoinTimerRow.JoinTimerRow, timer.TimerKind.TimerKind}}
use Rattle.pim_tables.{proofs.{Lookups.as_it_is, Steps.known}}
use Rattle.pim_store.{specs.{JoinTimers.AreTimersBeside, Said.{WritesTimer, timers_in}, declared.marks.Marks.Marks}, proofs.Timers.{set_on_ok, timer_differs, timers_rise}}
use Rattle.pim_store.proofs.index.write_armed.Goals as goal

pub arm_timer-requires : goal.arm_timer-requires
arm_timer-requires c =
    known (TimerKind.Join, None) (λ (r : JoinTimerRow). (Some r.end, None)) (holds c.args.ends.now)
    (timers_in c.args.entries.now) c.args.key c.args.before c.requires.in_step.armed
    c.requires.before

pub returns-in_err-arm_timer-clause-beside : goal.returns-in_err-arm_timer-clause-beside
returns-in_err-arm_timer-clause-beside c =
    let t = timers_in c.args.entries.now in
    c.arm_timer.ensures.beside t t c.args.before c.requires.in_step
    (as_it_is c.args.key t c.args.before (sym c.requires.before))
    c.arm_timer.ensures.before

pub returns-clause-beside : goal.returns-clause-beside
returns-clause-beside c =
    let t = timers_in c.args.entries.now in
    either_way c.write-written.result c.write-written.ensures.timers c.write-written.ensures.err
    (λ (writes : WritesTimer c.args.entries.now c.write-written.new.entries _ c.args.marks.join_timer).
    c.arm_timer.ensures.beside t (timers_in c.write-written.new.entries) c.args.marks.join_timer c.requires.in_step
    (timer_differs c.args.entries.now c.write-written.new.entries c.is_empty.ensures.ascending
    c.is_empty-2.ensures.ascending c.args.key c.args.marks.join_timer
    (subst (λ k. WritesTimer c.args.entries.now c.write-written.new.entries k c.args.marks.join_timer)
    (sym c.requires.placed) writes))
    c.in_ok-arm_timer.ensures.ok)
    (λ (is : c.write-written.new.entries ≡ c.args.entries.now).
    subst (λ (u : Table Marks). AreTimersBeside c.arm_timer.new.ends u c.args.key) (sym is)
    (c.arm_timer.ensures.beside t t c.args.before c.requires.in_step
    (as_it_is c.args.key t c.args.before (sym c.requires.before))
    c.arm_timer.ensures.before))

pub returns-clause-set : goal.returns-clause-set
returns-clause-set c =
    set_on_ok c.args.entries.now c.write-written.new.entries c.is_empty.ensures.ascending c.is_empty-2.ensures.ascending
    c.args.key c.args.marks.join_timer c.write-written.result
    (subst
    (λ k. OnOk c.write-written.result (WritesTimer c.args.entries.now c.write-written.new.entries k c.args.marks.join_timer))
    (sym c.requires.placed) c.write-written.ensures.timers)

pub returns-in_err-arm_timer-clause-rise : goal.returns-in_err-arm_timer-clause-rise
returns-in_err-arm_timer-clause-rise c = timers_rise c.args.entries.now c.is_empty.ensures.ascending

pub returns-clause-rise : goal.returns-clause-rise
returns-clause-rise c = timers_rise c.args.entries.now c.is_empty.ensures.ascending
