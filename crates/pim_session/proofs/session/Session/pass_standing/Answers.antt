use Rattle.std.proofs.Common.{◌≡◌, ◌∙◌, Option, ap, subst}
use Rattle.pim_bsr.{specs.Table.moves}
use Rattle.pim_candidate.{specs.Candidacy.time_passed}
use Rattle.pim_router.{specs.Standing.{Shown, Standing}}
use Rattle.pim_session.{proofs.Hearing.told_around, specs.{Heard.around_in, Session.ShownSession}}
use Rattle.pim_session.proofs.session.Session.pass_standing.Goals as goal

pub returns-in-Ok-clause-moved : goal.returns-in-Ok-clause-moved
returns-in-Ok-clause-moved c =
    told_around c.args.self.now.router.standing
    (λ a. c.in-Ok.moved ≡ moves c.args.listener.now (time_passed a c.args.candidacy.now c.args.listener.now c.args.moment c.args.draw).known)
    (subst (λ (o : Option Standing). c.in-Ok.moved
    ≡ moves c.args.listener.now (time_passed (around_in o) c.args.candidacy.now c.args.listener.now c.args.moment c.args.draw).known)
    (ap (λ (s : Shown). s.standing) (c.of.ensures ∙ c.deref.ensures)
    ∙ ap (λ (s : ShownSession). s.router.standing) (rw c.if-self.false at c.self.view_is))
    c.in-Ok.ensures.moved)

pub returns-in-Ok-clause-sent : goal.returns-in-Ok-clause-sent
returns-in-Ok-clause-sent c =
    told_around c.args.self.now.router.standing
    (λ a. c.keep_sent.new.self.sent ≡ (time_passed a c.args.candidacy.now c.args.listener.now c.args.moment c.args.draw).sent)
    (subst (λ (o : Option Standing). c.keep_sent.new.self.sent
    ≡ (time_passed (around_in o) c.args.candidacy.now c.args.listener.now c.args.moment c.args.draw).sent)
    (ap (λ (s : Shown). s.standing) (c.of.ensures ∙ c.deref.ensures)
    ∙ ap (λ (s : ShownSession). s.router.standing) (rw c.if-self.false at c.self.view_is))
    (c.keep_sent.ensures.sent ∙ (rw c.new-originated.ensures.items at c.in-Ok.ensures.sent)))
