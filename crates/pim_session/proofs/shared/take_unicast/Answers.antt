use Rattle.std.{proofs.Common.{◌≡◌, ◌∙◌, ◌++◌, true, false, List, IsOk, IsTrue, ap}}
use Rattle.pim_types.{specs.declared.outcome.Emission.Emission}
use Rattle.pim_session.{specs.Front.is_sure, proofs.Sharing.{given_surely, no_fault, silent_surely, unicast_surely, unicast_took}}
use Rattle.pim_session.proofs.shared.take_unicast.Goals as goal

pub returns-in_err-passed-clause-sure : goal.returns-in_err-passed-clause-sure
returns-in_err-passed-clause-sure c =
    unicast_surely c.args.router.now.standing c.args.anycast.now c.args.front.now c.args.draw c.args.bytes.now
    (IsOk c.from_residual.result)
    (λ same. let no : false ≡ true = (rw c.of.ensures at c.in_err-passed.ensures.sure) same in cc)

pub returns-in_err-answer-clause-sure : goal.returns-in_err-answer-clause-sure
returns-in_err-answer-clause-sure c =
    given_surely c.args.router.now.standing c.args.anycast.now c.args.front.now c.args.draw c.args.bytes.now c.packet_of.result.now
    c.in_ok-passed.passed c.unicast.result (IsOk c.from_residual-in_err-answer.result)
    (rw c.of.ensures at c.in_ok-passed.ensures.value) c.packet_of.ensures c.unicast.ensures
    (no_fault c.args.router.now.standing (λ r. IsTrue (is_sure c.args.front.now r.state c.unicast.result))
    (IsOk c.from_residual-in_err-answer.result) c.in_err-answer.ensures.sure)

pub returns-in_err-left-clause-sure : goal.returns-in_err-left-clause-sure
returns-in_err-left-clause-sure c =
    silent_surely c.args.router.now.standing c.args.anycast.now c.args.front.now c.args.draw c.args.bytes.now c.packet_of.result.now
    c.in_ok-passed.passed c.unicast.result c.in_ok-answer.answer c.step.new.router c.in_ok-answer.sent.items c.step.new.front
    (IsOk c.from_residual-in_err-left.result)
    (rw c.of.ensures at c.in_ok-passed.ensures.value) c.packet_of.ensures c.unicast.ensures c.in_ok-answer.ensures.took
    (λ none. let no : false ≡ true = c.in_err-left.ensures.sure none in cc)

pub returns-clause-took : goal.returns-clause-took
returns-clause-took c =
    unicast_took c.args.router.now.standing c.args.anycast.now c.args.front.now c.args.draw c.args.bytes.now c.packet_of.result.now
    c.in_ok-passed.passed c.unicast.result c.in_ok-answer.answer c.step.new.router c.in_ok-answer.sent.items c.in_ok-left.left.items
    c.step.new.front (rw c.of.ensures at c.in_ok-passed.ensures.value) c.packet_of.ensures c.unicast.ensures
    (c.in_ok-left.ensures.joined ∙ ap (λ (xs : List Emission). xs ++ c.in_ok-answer.sent.items) c.copies_of.ensures)
    c.in_ok-answer.ensures.took
