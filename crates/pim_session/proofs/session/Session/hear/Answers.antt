use Rattle.std.proofs.Common.{◌≡◌, ◌∙◌, Option, ap, false, subst, true}
use Rattle.pim_bsr.{specs.Hearing.{heard_frame, takes_memory}}
use Rattle.pim_router.{specs.Standing.{Shown, Standing}}
use Rattle.pim_session.{proofs.Hearing.told_around, specs.{Heard.around_in, Session.ShownSession, Untaken.has_untaken}}
use Rattle.pim_session.proofs.session.Session.hear.Goals as goal

pub returns-in-Ok-clause-answer : goal.returns-in-Ok-clause-answer
returns-in-Ok-clause-answer c =
    told_around c.args.self.now.router.standing
    (λ a. c.in-Ok.heard ≡ (heard_frame a c.args.listener.now c.args.iface.number c.args.bytes.now).answer)
    (subst (λ (o : Option Standing). c.in-Ok.heard
    ≡ (heard_frame (around_in o) c.args.listener.now c.args.iface.number c.args.bytes.now).answer)
    (ap (λ (s : Shown). s.standing) (c.of.ensures ∙ c.deref.ensures)
    ∙ ap (λ (s : ShownSession). s.router.standing) (rw c.if-self.false at c.self.view_is))
    c.in-Ok.ensures.answer)

pub returns-in-Ok-clause-sent : goal.returns-in-Ok-clause-sent
returns-in-Ok-clause-sent c =
    told_around c.args.self.now.router.standing
    (λ a. c.keep_sent.new.self.sent ≡ (heard_frame a c.args.listener.now c.args.iface.number c.args.bytes.now).sent)
    (subst (λ (o : Option Standing). c.keep_sent.new.self.sent
    ≡ (heard_frame (around_in o) c.args.listener.now c.args.iface.number c.args.bytes.now).sent)
    (ap (λ (s : Shown). s.standing) (c.of.ensures ∙ c.deref.ensures)
    ∙ ap (λ (s : ShownSession). s.router.standing) (rw c.if-self.false at c.self.view_is))
    (c.keep_sent.ensures.sent ∙ (rw c.new-sent.ensures.items at c.in-Ok.ensures.sent)))

pub returns-in-Err-clause-sure : goal.returns-in-Err-clause-sure
returns-in-Err-clause-sure c =
    told_around c.args.self.now.router.standing
    (λ a. has_untaken c.args.self.now ≡ false
    → takes_memory (heard_frame a c.args.listener.now c.args.iface.number c.args.bytes.now).answer ≡ false → false ≡ true)
    (λ _. subst (λ (o : Option Standing).
    takes_memory (heard_frame (around_in o) c.args.listener.now c.args.iface.number c.args.bytes.now).answer ≡ false
    → false ≡ true)
    (ap (λ (s : Shown). s.standing) (c.of.ensures ∙ c.deref.ensures)
    ∙ ap (λ (s : ShownSession). s.router.standing) (rw c.if-self.false at c.self.view_is))
    c.in-Err.ensures.sure)
