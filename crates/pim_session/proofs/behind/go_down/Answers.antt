use Rattle.std.{proofs.Common.{IsOk, ap, refl}}
use Rattle.pim_session.{proofs.Taking.{NeedsNone, down_took, fails, is_frame, other_surely}}
use Rattle.pim_session.proofs.behind.go_down.Goals as goal

pub returns-in_err-answer-clause-sure : goal.returns-in_err-answer-clause-sure
returns-in_err-answer-clause-sure c =
    other_surely c.args.router.now.standing c.args.front.now c.args.event.now (IsOk c.from_residual.result) (ap is_frame c.requires)
    (fails c.args.router.now.standing (λ r. NeedsNone r.state c.args.event.now) (IsOk c.from_residual.result) c.in_err-answer.ensures.sure)

pub returns-then-is_done-clause-took : goal.returns-then-is_done-clause-took
returns-then-is_done-clause-took c =
    down_took c.args.router.now.standing c.args.front.now c.args.event.now c.args.iface c.args.sent.now.items c.in_ok-answer.answer
    c.give.new.router c.give.new.sent.items _ c.leave.new.self c.leave.ensures c.requires c.in_ok-answer.ensures.stepped
    (rw (← c.is_done.ensures) (rw c.if-is_done.true refl))

pub returns-else-is_done-clause-took : goal.returns-else-is_done-clause-took
returns-else-is_done-clause-took c =
    down_took c.args.router.now.standing c.args.front.now c.args.event.now c.args.iface c.args.sent.now.items c.in_ok-answer.answer
    c.give.new.router c.give.new.sent.items c.args.front.now.present c.args.front.now refl c.requires c.in_ok-answer.ensures.stepped
    (rw (← c.is_done.ensures) (rw c.if-is_done.false refl))
