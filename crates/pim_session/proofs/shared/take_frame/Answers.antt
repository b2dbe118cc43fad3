use Rattle.std.{proofs.Common.{◌∙◌, sym, IsOk, IsTrue}}
use Rattle.pim_session.{specs.Front.is_sure, proofs.Sharing.{frame_surely, frame_took, no_fault, unread_took}}
use Rattle.pim_session.proofs.shared.take_frame.Goals as goal

pub returns-in_err-answer-in-Ok-clause-sure : goal.returns-in_err-answer-in-Ok-clause-sure
returns-in_err-answer-in-Ok-clause-sure c =
    frame_surely c.args.router.now.standing c.args.anycast.now c.args.front.now c.args.event.now c.args.bytes.now
    (IsOk c.from_residual.result) c.requires
    (no_fault c.args.router.now.standing (λ r. IsTrue (is_sure c.args.front.now r.state c.args.event.now))
    (IsOk c.from_residual.result) c.in_err-answer-in-Ok.ensures.sure)

pub returns-in_err-answer-in-Err-clause-sure : goal.returns-in_err-answer-in-Err-clause-sure
returns-in_err-answer-in-Err-clause-sure c =
    frame_surely c.args.router.now.standing c.args.anycast.now c.args.front.now c.args.event.now c.args.bytes.now
    (IsOk c.from_residual-in_err-answer-in-Err.result) c.requires
    (no_fault c.args.router.now.standing (λ r. IsTrue (is_sure c.args.front.now r.state c.args.event.now))
    (IsOk c.from_residual-in_err-answer-in-Err.result) c.in_err-answer-in-Err.ensures.sure)

pub returns-in_ok-answer-in-Ok-clause-took : goal.returns-in_ok-answer-in-Ok-clause-took
returns-in_ok-answer-in-Ok-clause-took c =
    frame_took c.args.router.now.standing c.args.anycast.now c.args.front.now c.args.event.now c.args.bytes.now c.in-Ok.packet
    c.in_ok-answer-in-Ok.answer c.take_named.new.router c.in_ok-answer-in-Ok.left.items c.take_named.new.front c.requires
    (sym c.read_ipv4.ensures ∙ c.in-Ok.is) (rw (c.destination.ensures, c.source.ensures.value) at c.in_ok-answer-in-Ok.ensures.took)

pub returns-in_ok-answer-in-Err-clause-took : goal.returns-in_ok-answer-in-Err-clause-took
returns-in_ok-answer-in-Err-clause-took c =
    unread_took c.args.router.now.standing c.args.anycast.now c.args.front.now c.args.event.now c.args.bytes.now _
    c.in_ok-answer-in-Err.answer c.step.new.router c.in_ok-answer-in-Err.sent.items c.step.new.front c.requires
    (sym c.read_ipv4.ensures ∙ c.in-Err.is) c.in_ok-answer-in-Err.ensures.took
