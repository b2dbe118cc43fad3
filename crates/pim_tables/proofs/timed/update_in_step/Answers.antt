use Rattle.std.{proofs.Common.{Some, ap, subst, sym, ◌∙◌}}
use Rattle.pim_model.{specs.Tables.{Table, row_at}}
use Rattle.pim_timers.{specs.Armed.holds}
use Rattle.pim_tables.{specs.Ends.InStep, proofs.{Steps.known, Updates.{found_left, found_updated, left_armed, left_row, none_updated, put_back_left}}}
use Rattle.pim_tables.proofs.timed.update_in_step.Goals as goal

pub returns-in_default-clause-in_step : goal.returns-in_default-clause-in_step
returns-in_default-clause-in_step g c =
    subst (λ (t : Table _). InStep g.R.Ends.kinds g.R.Ends.ends c.args.queue.now t)
    (sym (c.replace.ensures.changed
    ∙ none_updated c.args.key (g.C.Change.after c.args.change) (g.K.ReadRows.table c.args.rows.now)
    (sym c.replace.ensures.before ∙ c.in_default.is))) c.requires

pub arm-requires : goal.arm-requires
arm-requires g c =
    known g.R.Ends.kinds g.R.Ends.ends (holds c.args.queue.now) (g.K.ReadRows.table c.args.rows.now) c.args.key
    (Some c.in-Some.before) c.requires.armed (sym c.in-Some.is ∙ c.replace.ensures.before)

pub settle-requires : goal.settle-requires
settle-requires g c =
    let t = g.K.ReadRows.table c.args.rows.now in
    c.arm.ensures.beside t (g.K.ReadRows.table c.put_back.new.rows) (left_row g.R.Ends.kinds.1 (Some c.in-Some.before))
    c.requires
    (λ q. ap (λ u. row_at u q) (put_back_left c.args.key (g.C.Change.after c.args.change) t c.in-Some.before
    (sym c.replace.ensures.before ∙ c.in-Some.is) g.R.Ends.kinds.1 c.proof_rise.ensures (g.K.ReadRows.table c.replace.new.self)
    (g.K.ReadRows.table c.put_back.new.rows) c.replace.ensures.changed c.put_back.ensures)
    ∙ found_left c.args.key (g.C.Change.after c.args.change) t c.in-Some.before
    (sym c.replace.ensures.before ∙ c.in-Some.is) g.R.Ends.kinds.1 q)
    (left_armed g.R.Ends.kinds g.R.Ends.ends (holds c.arm.new.self) c.args.key (Some c.in-Some.before) g.R.Ends.kinds.1
    c.arm.ensures.before)

pub returns-in-Err-clause-err : goal.returns-in-Err-clause-err
returns-in-Err-clause-err g c =
    let t = g.K.ReadRows.table c.args.rows.now in
    put_back_left c.args.key (g.C.Change.after c.args.change) t c.in-Some.before
    (sym c.replace.ensures.before ∙ c.in-Some.is) g.R.Ends.kinds.1 c.proof_rise.ensures (g.K.ReadRows.table c.replace.new.self)
    (g.K.ReadRows.table c.put_back.new.rows) c.replace.ensures.changed c.put_back.ensures

pub settle-requires-2 : goal.settle-requires-2
settle-requires-2 g c =
    let t = g.K.ReadRows.table c.args.rows.now in
    c.arm.ensures.beside t (g.K.ReadRows.table c.replace.new.self) (Some c.after-row.result) c.requires
    (λ q. ap (λ u. row_at u q) c.replace.ensures.changed
    ∙ found_updated c.args.key (g.C.Change.after c.args.change) t c.in-Some.before c.after-row.result
    (sym c.replace.ensures.before ∙ c.in-Some.is) c.after-row.ensures c.proof_rise.ensures q)
    c.in_default-arm.ensures.ok
