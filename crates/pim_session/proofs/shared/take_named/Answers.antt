use Rattle.std.{proofs.Common.{◌≡◌, true, false, IsOk, IsTrue}}
use Rattle.pim_session.{specs.Front.is_sure, proofs.Sharing.{named_surely, named_took, no_fault, none_named}}
use Rattle.pim_session.proofs.shared.take_named.Goals as goal

pub returns-in_err-answer-clause-sure : goal.returns-in_err-answer-clause-sure
returns-in_err-answer-clause-sure c =
    no_fault c.args.router.now.standing (λ r. IsTrue (is_sure c.args.front.now r.state c.args.event.now))
    (IsOk c.from_residual.result) c.in_err-answer.ensures.sure

pub returns-in_err-more-clause-sure : goal.returns-in_err-more-clause-sure
returns-in_err-more-clause-sure c =
    named_surely c.args.router.now.standing c.args.anycast.now c.args.front.now c.args.event.now c.args.name.group.bits
    c.args.name.source.bits c.is_announced-before.result c.in_ok-answer.answer c.step.new.router c.in_ok-answer.sent.items
    c.step.new.front (IsOk c.from_residual-in_err-more.result) (rw c.of.ensures at c.is_announced-before.ensures)
    c.in_ok-answer.ensures.took
    (λ old. let no : false ≡ true = (rw c.of-2.ensures at c.in_err-more.ensures.sure) old in cc)

pub returns-in_err-left-clause-sure : goal.returns-in_err-left-clause-sure
returns-in_err-left-clause-sure c =
    none_named c.args.router.now.standing c.args.anycast.now c.args.front.now c.args.event.now c.args.name.group.bits
    c.args.name.source.bits c.is_announced-before.result c.in_ok-answer.answer c.step.new.router c.in_ok-answer.sent.items
    c.in_ok-more.more.items c.step.new.front (IsOk c.from_residual-in_err-left.result)
    (rw c.of.ensures at c.is_announced-before.ensures) (rw c.of-2.ensures at c.in_ok-more.ensures.value) c.in_ok-answer.ensures.took
    (λ none. let no : false ≡ true = c.in_err-left.ensures.sure none in cc)

pub returns-clause-took : goal.returns-clause-took
returns-clause-took c =
    named_took c.args.router.now.standing c.args.anycast.now c.args.front.now c.args.event.now c.args.name.group.bits
    c.args.name.source.bits c.is_announced-before.result c.in_ok-answer.answer c.step.new.router c.in_ok-answer.sent.items
    c.in_ok-more.more.items c.in_ok-left.left.items c.step.new.front (rw c.of.ensures at c.is_announced-before.ensures)
    (rw c.of-2.ensures at c.in_ok-more.ensures.value) c.in_ok-left.ensures.joined c.in_ok-answer.ensures.took
