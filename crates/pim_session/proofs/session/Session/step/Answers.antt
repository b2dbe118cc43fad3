use Rattle.std.proofs.Common.{◌∙◌, IfSome, ap}
use Rattle.pim_session.{proofs.Leaving.{asked_by, kept_by, led_by, sent_in}, specs.{Session.ShownSession, Shared.Reached}}
use Rattle.pim_session.proofs.session.Session.step.Goals as goal

reached : (c : goal.After-keep_sent) → IfSome c.args.self.now.router.standing (λ r. Reached c.args.self.now.sets c.args.self.now.front
    r.state c.args.event.now c.in-Ok.answer c.keep_sent.new.self.router c.keep_sent.new.self.sent c.step.new.front)
reached c =
    let shows = rw c.if-self.false at c.self.view_is in
    kept_by c.args.event.now c.in-Ok.answer c.args.self.now c.keep_sent.new.self c.as_mut.result.now c.step.new.router c.in-Ok.sent.items
    c.self.inside.anycast c.self.inside.front c.step.new.front (c.as_mut.ensures.value ∙ ap (λ (s : ShownSession). s.router) shows)
    (ap (λ (s : ShownSession). s.sets) shows) (ap (λ (s : ShownSession). s.front) shows)
    (rw c.if-self.false at c.keep_sent.ensures.rest.0) c.keep_sent.ensures.sent c.in-Ok.ensures.took

pub returns-in-Ok-clause-asked : goal.returns-in-Ok-clause-asked
returns-in-Ok-clause-asked c =
    asked_by c.args.self.now c.args.event.now c.args.self.now.router.standing c.in-Ok.answer c.keep_sent.new.self.router
    c.keep_sent.new.self.sent c.step.new.front (reached c)

pub returns-in-Ok-clause-led : goal.returns-in-Ok-clause-led
returns-in-Ok-clause-led c =
    led_by c.args.self.now c.args.event.now c.args.self.now.router.standing c.in-Ok.answer c.keep_sent.new.self.router
    c.keep_sent.new.self.sent c.step.new.front (reached c)

pub returns-in-Ok-clause-sent : goal.returns-in-Ok-clause-sent
returns-in-Ok-clause-sent c =
    sent_in c.args.self.now c.args.event.now c.args.self.now.router.standing c.in-Ok.answer c.keep_sent.new.self.router
    c.keep_sent.new.self.sent c.step.new.front (reached c)
