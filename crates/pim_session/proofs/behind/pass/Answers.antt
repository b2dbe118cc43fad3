use Rattle.std.{proofs.Common.IsOk}
use Rattle.pim_session.{proofs.Taking.{NeedsNone, fails, plain_surely, plain_took}}
use Rattle.pim_session.proofs.behind.pass.Goals as goal

pub returns-in_err-answer-clause-sure : goal.returns-in_err-answer-clause-sure
returns-in_err-answer-clause-sure c =
    plain_surely c.args.router.now.standing c.args.front.now c.args.event.now (IsOk c.from_residual.result) c.requires
    (fails c.args.router.now.standing (λ r. NeedsNone r.state c.args.event.now) (IsOk c.from_residual.result) c.in_err-answer.ensures.sure)

pub returns-clause-took : goal.returns-clause-took
returns-clause-took c =
    plain_took c.args.router.now.standing c.args.front.now c.args.event.now c.args.sent.now.items c.in_ok-answer.answer
    c.give.new.router c.give.new.sent.items c.requires c.in_ok-answer.ensures.stepped
