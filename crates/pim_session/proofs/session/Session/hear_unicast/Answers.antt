use Rattle.std.proofs.Common.{◌≡◌, ◌∙◌, Option, ap, subst}
use Rattle.pim_candidate.{specs.Candidacy.unicast_heard}
use Rattle.pim_router.{specs.Standing.{Shown, Standing}}
use Rattle.pim_session.{proofs.Hearing.told_around, specs.{Heard.around_in, Session.ShownSession}}
use Rattle.pim_session.proofs.session.Session.hear_unicast.Goals as goal

pub returns-in-Ok-clause-answer : goal.returns-in-Ok-clause-answer
returns-in-Ok-clause-answer c =
    told_around c.args.self.now.router.standing
    (λ a. c.in-Ok.heard ≡ (unicast_heard a c.args.candidacy.now c.args.bytes.now).answer)
    (subst (λ (o : Option Standing). c.in-Ok.heard
    ≡ (unicast_heard (around_in o) c.args.candidacy.now c.args.bytes.now).answer)
    (ap (λ (s : Shown). s.standing) (c.of.ensures ∙ c.deref.ensures)
    ∙ ap (λ (s : ShownSession). s.router.standing) (rw c.if-self.false at c.self.view_is))
    c.in-Ok.ensures.answer)
