use Rattle.std.{proofs.Common.{IsOk, sym, ◌∙◌}}
use Rattle.pim_session.{specs.Front.is_sure, proofs.Taking.{NeedsNone, all_alone, fails}}
use Rattle.pim_session.proofs.behind.step.Goals as goal

pub returns-in_err-answer-clause-sure : goal.returns-in_err-answer-clause-sure
unfolding is_sure
returns-in_err-answer-clause-sure c = rw (← c.replace.ensures.value) (rw c.in_default.is
    (fails c.args.router.now.standing (λ r. NeedsNone r.state c.args.event.now) (IsOk c.from_residual.result) c.in_err-answer.ensures.sure))

pub returns-in_default-clause-took : goal.returns-in_default-clause-took
returns-in_default-clause-took c =
    all_alone c.args.router.now.standing c.args.front.now c.args.event.now c.in_ok-answer.answer c.give.new.router c.give.new.sent.items
    c.replace.new.dest (sym c.replace.ensures.value ∙ c.in_default.is) c.replace.ensures.after (rw c.new-sent.ensures.items at c.in_ok-answer.ensures.stepped)
