use Rattle.std.{proofs.Common.{sym, ◌∙◌}}
use Rattle.pim_event.{proofs.Instants.{is_due, isnt_due, none_due}}
use Rattle.pim_event.proofs.time.next_due.Goals as goal

pub returns-in_err-due : goal.returns-in_err-due
returns-in_err-due c =
    c.from_residual.ensures ∙ none_due c.args.moment c.args.world.now (sym c.in_err-due.was ∙ c.next.ensures)

pub returns-then-due-moment : goal.returns-then-due-moment
returns-then-due-moment c =
    is_due c.args.moment c.args.world.now c.in_ok-due.due (sym c.in_ok-due.was ∙ c.next.ensures) c.if-due-moment.true

pub returns-else-due-moment : goal.returns-else-due-moment
returns-else-due-moment c =
    isnt_due c.args.moment c.args.world.now c.in_ok-due.due (sym c.in_ok-due.was ∙ c.next.ensures)
    c.if-due-moment.false
