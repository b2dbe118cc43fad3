use Rattle.std.{proofs.Common.{◌≡◌, None, Some, ap, subst, sym, ◌∙◌}}
use Rattle.pim_model.{specs.Tables.{Table, put, row_at}}
use Rattle.pim_timers.{specs.Armed.holds, proofs.Held.either_way}
use Rattle.pim_tables.{specs.Ends.InStepBeside, proofs.{Lookups.{as_it_is, row_at-put}, Steps.known}}
use Rattle.pim_tables.proofs.timed.insert_armed.Goals as goal

pub arm-requires : goal.arm-requires
arm-requires g c =
    known g.R.Ends.kinds g.R.Ends.ends (holds c.args.queue.now) (g.K.ReadRows.table c.args.rows.now) c.args.key None
    c.requires.in_step.armed (sym c.requires.absent)

pub returns-in_err-arm-clause-beside : goal.returns-in_err-arm-clause-beside
returns-in_err-arm-clause-beside g c =
    let t = g.K.ReadRows.table c.args.rows.now in
    c.arm.ensures.beside t t None c.requires.in_step (as_it_is c.args.key t None c.requires.absent) c.arm.ensures.before

pub returns-clause-beside : goal.returns-clause-beside
returns-clause-beside g c =
    let t = g.K.ReadRows.table c.args.rows.now in
    let u = g.K.ReadRows.table c.insert.new.self in
    either_way c.insert.result c.insert.ensures.ok c.insert.ensures.err
    (λ (is : u ≡ put t c.args.key c.args.row). c.arm.ensures.beside t u (Some c.args.row) c.requires.in_step
    (λ q. ap (λ x. row_at x q) is ∙ row_at-put c.args.key q t c.args.row) c.in_ok-arm.ensures.ok)
    (λ (is : u ≡ t). subst (λ (x : Table _). InStepBeside g.R.Ends.kinds g.R.Ends.ends c.arm.new.self x c.args.key) (sym is)
    (c.arm.ensures.beside t t None c.requires.in_step (as_it_is c.args.key t None c.requires.absent) c.arm.ensures.before))
