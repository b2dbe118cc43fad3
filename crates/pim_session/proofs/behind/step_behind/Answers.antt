use Rattle.std.{proofs.Common.{◌≡◌, true, false, IsOk}}
use Rattle.pim_session.{proofs.Taking.{all_stepped, left_surely}}
use Rattle.pim_session.proofs.behind.step_behind.Goals as goal

pub returns-in_err-left-clause-sure : goal.returns-in_err-left-clause-sure
returns-in_err-left-clause-sure c =
    left_surely c.args.router.now.standing c.args.front.now c.args.event.now c.in_ok-answer.answer c.take.new.router c.take.new.sent.items c.take.new.front
    (IsOk c.from_residual-in_err-left.result) (rw c.new-sent.ensures.items at c.in_ok-answer.ensures.took)
    (λ none. let no : false ≡ true = c.in_err-left.ensures.sure none in cc)

pub returns-clause-took : goal.returns-clause-took
returns-clause-took c =
    all_stepped c.args.router.now.standing c.args.front.now c.args.event.now c.in_ok-answer.answer c.take.new.router c.take.new.sent.items
    c.in_ok-left.left.items c.take.new.front (rw c.new-sent.ensures.items at c.in_ok-answer.ensures.took) c.in_ok-left.ensures.left
