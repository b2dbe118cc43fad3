use Rattle.std.{proofs.Common.{IsOk, IsTrue}}
use Rattle.pim_session.{specs.Front.is_sure, proofs.Sharing.{no_fault, pass_surely, pass_took}}
use Rattle.pim_session.proofs.shared.pass.Goals as goal

pub returns-in_err-answer-clause-sure : goal.returns-in_err-answer-clause-sure
returns-in_err-answer-clause-sure c =
    pass_surely c.args.router.now.standing c.args.anycast.now c.args.front.now c.args.event.now (IsOk c.from_residual.result) c.requires
    (no_fault c.args.router.now.standing (λ r. IsTrue (is_sure c.args.front.now r.state c.args.event.now))
    (IsOk c.from_residual.result) c.in_err-answer.ensures.sure)

pub returns-clause-took : goal.returns-clause-took
returns-clause-took c =
    pass_took c.args.router.now.standing c.args.anycast.now c.args.front.now c.args.event.now c.in_ok-answer.answer c.step.new.router
    c.in_ok-answer.sent.items c.step.new.front c.requires c.in_ok-answer.ensures.took
