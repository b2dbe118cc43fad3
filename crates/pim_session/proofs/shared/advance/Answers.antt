use Rattle.std.{proofs.Common.{◌≡◌, ◌&&◌, Bool, true, false, not, IsOk, IsTrue, ap}}
use Rattle.pim_model.{specs.Tables.is_empty_list}
use Rattle.pim_session.{specs.Front.is_sure, proofs.Sharing.{advance_surely, advance_took, no_fault, none_due_so, still_surely}}
use Rattle.pim_session.proofs.shared.advance.Goals as goal

pub returns-in_err-answer-clause-sure : goal.returns-in_err-answer-clause-sure
returns-in_err-answer-clause-sure c =
    advance_surely c.args.router.now.standing c.args.anycast.now c.args.front.now c.args.event.now (IsOk c.from_residual.result)
    c.requires
    (no_fault c.args.router.now.standing (λ r. IsTrue (is_sure c.args.front.now r.state c.args.event.now))
    (IsOk c.from_residual.result) c.in_err-answer.ensures.sure)

pub returns-in_err-more-clause-sure : goal.returns-in_err-more-clause-sure
returns-in_err-more-clause-sure c =
    still_surely c.args.router.now.standing c.args.anycast.now c.args.front.now c.args.event.now c.present_moment-before.result
    c.in_ok-answer.answer c.step.new.router c.in_ok-answer.sent.items c.step.new.front (IsOk c.from_residual-in_err-more.result)
    c.requires c.present_moment-before.ensures.moment c.in_ok-answer.ensures.took
    (λ due. let no : false ≡ true = (rw c.of.ensures at c.in_err-more.ensures.sure)
    (ap (λ (b : Bool). b && not (is_empty_list c.args.anycast.now)) due) in cc)

pub returns-in_err-left-clause-sure : goal.returns-in_err-left-clause-sure
returns-in_err-left-clause-sure c =
    still_surely c.args.router.now.standing c.args.anycast.now c.args.front.now c.args.event.now c.present_moment-before.result
    c.in_ok-answer.answer c.step.new.router c.in_ok-answer.sent.items c.step.new.front (IsOk c.from_residual-in_err-left.result)
    c.requires c.present_moment-before.ensures.moment c.in_ok-answer.ensures.took
    (λ due. let no : false ≡ true =
    c.in_err-left.ensures.sure (none_due_so c.args.anycast.now _ _ c.present_moment-before.result _ c.in_ok-more.more.items
    (rw c.of.ensures at c.in_ok-more.ensures.value) due) in cc)

pub returns-clause-took : goal.returns-clause-took
returns-clause-took c =
    advance_took c.args.router.now.standing c.args.anycast.now c.args.front.now c.args.event.now c.present_moment-before.result
    c.in_ok-answer.answer c.step.new.router c.in_ok-answer.sent.items c.in_ok-more.more.items c.in_ok-left.left.items c.step.new.front
    c.requires c.present_moment-before.ensures.moment (rw c.of.ensures at c.in_ok-more.ensures.value) c.in_ok-left.ensures.joined
    c.in_ok-answer.ensures.took
