use Rattle.std.{proofs.Common.{◌||◌, ap, ◌∙◌}, specs.List.list_any}
use Rattle.pim_timers.{specs.{Armed.{Entries, holds}, Dues.same_due}, proofs.{Held.pushed, Lookups.on_err_always}}
use Rattle.pim_timers.proofs.queue.Queue.push.Goals as goal

pub returns-in_err-push-clause-err : goal.returns-in_err-push-clause-err
returns-in_err-push-clause-err c =
    on_err_always c.from_residual-in_err-push.result
    (c.in_err-push.ensures.unchanged.0 ∙ ap (λ (q : Entries). q.dues) c.self.view_is ∙ c.make_room.ensures)

pub returns-clause-ok : goal.returns-clause-ok
unfolding holds
returns-clause-ok c = λ d.
    pushed _ _ _ c.in_ok-push.ensures.permutation d
    ∙ ap (λ dues. same_due d c.args.due || list_any (λ e. same_due d e.0) dues)
    (ap (λ (q : Entries). q.dues) c.self.view_is ∙ c.make_room.ensures)
