use Rattle.std.proofs.Common.{◌≡◌, ◌∙◌, Option, ap, subst}
use Rattle.pim_candidate.{specs.Candidacy.candidacy_heard}
use Rattle.pim_router.{specs.Standing.{Shown, Standing}}
use Rattle.pim_session.{proofs.Hearing.told_around, specs.{Heard.around_in, Session.ShownSession}}
use Rattle.pim_session.proofs.session.Session.hear_standing.Goals as goal

pub returns-in-Ok-clause-answer : goal.returns-in-Ok-clause-answer
returns-in-Ok-clause-answer c =
    told_around c.args.self.now.router.standing
    (λ a. c.in-Ok.heard ≡ (candidacy_heard a c.args.candidacy.now c.args.listener.now c.args.iface.number c.args.bytes.now c.args.draw).answer)
    (subst (λ (o : Option Standing). c.in-Ok.heard
    ≡ (candidacy_heard (around_in o) c.args.candidacy.now c.args.listener.now c.args.iface.number c.args.bytes.now c.args.draw).answer)
    (ap (λ (s : Shown). s.standing) (c.of.ensures ∙ c.deref.ensures)
    ∙ ap (λ (s : ShownSession). s.router.standing) (rw c.if-self.false at c.self.view_is))
    c.in-Ok.ensures.answer)

pub returns-in-Ok-clause-sent : goal.returns-in-Ok-clause-sent
returns-in-Ok-clause-sent c =
    told_around c.args.self.now.router.standing
    (λ a. c.keep_sent.new.self.sent ≡ (candidacy_heard a c.args.candidacy.now c.args.listener.now c.args.iface.number c.args.bytes.now c.args.draw).left.sent)
    (subst (λ (o : Option Standing). c.keep_sent.new.self.sent
    ≡ (candidacy_heard (around_in o) c.args.candidacy.now c.args.listener.now c.args.iface.number c.args.bytes.now c.args.draw).left.sent)
    (ap (λ (s : Shown). s.standing) (c.of.ensures ∙ c.deref.ensures)
    ∙ ap (λ (s : ShownSession). s.router.standing) (rw c.if-self.false at c.self.view_is))
    (c.keep_sent.ensures.sent ∙ (rw c.new-sent.ensures.items at c.in-Ok.ensures.sent)))
