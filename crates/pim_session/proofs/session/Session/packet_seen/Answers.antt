use Rattle.std.proofs.Common.{◌∙◌, IfSome, ap}
use Rattle.law_plane.{specs.Seen.seen_event}
use Rattle.pim_session.{proofs.Leaving.{asked_of, kept_of, led_of, sent_of}, specs.{Session.ShownSession, Shared.Saw}}
use Rattle.pim_session.proofs.session.Session.packet_seen.Goals as goal

saw : (c : goal.After-keep_sent) → IfSome c.args.self.now.router.standing (λ r. Saw c.args.self.now.sets r.state
    (seen_event c.args.draw c.args.iface c.args.name.group.bits c.args.name.source.bits) c.args.name.group.bits c.args.name.source.bits
    c.in-Ok.answer c.keep_sent.new.self.router c.keep_sent.new.self.sent)
saw c =
    let shows = rw c.if-self.false at c.self.view_is in
    kept_of (seen_event c.args.draw c.args.iface c.args.name.group.bits c.args.name.source.bits) c.args.name.group.bits c.args.name.source.bits
    c.in-Ok.answer c.args.self.now c.keep_sent.new.self c.as_mut.result.now c.see.new.router c.in-Ok.sent.items
    c.self.inside.anycast (c.as_mut.ensures.value ∙ ap (λ (s : ShownSession). s.router) shows)
    (ap (λ (s : ShownSession). s.sets) shows) (rw c.if-self.false at c.keep_sent.ensures.rest.0) c.keep_sent.ensures.sent
    c.in-Ok.ensures.took

pub returns-in-Ok-clause-asked : goal.returns-in-Ok-clause-asked
returns-in-Ok-clause-asked c =
    asked_of c.args.self.now (seen_event c.args.draw c.args.iface c.args.name.group.bits c.args.name.source.bits) c.args.name.group.bits
    c.args.name.source.bits c.args.self.now.router.standing c.in-Ok.answer c.keep_sent.new.self.router c.keep_sent.new.self.sent (saw c)

pub returns-in-Ok-clause-led : goal.returns-in-Ok-clause-led
returns-in-Ok-clause-led c =
    led_of c.args.self.now (seen_event c.args.draw c.args.iface c.args.name.group.bits c.args.name.source.bits) c.args.name.group.bits
    c.args.name.source.bits c.args.self.now.router.standing c.in-Ok.answer c.keep_sent.new.self.router c.keep_sent.new.self.sent (saw c)

pub returns-in-Ok-clause-sent : goal.returns-in-Ok-clause-sent
returns-in-Ok-clause-sent c =
    sent_of c.args.self.now (seen_event c.args.draw c.args.iface c.args.name.group.bits c.args.name.source.bits) c.args.name.group.bits
    c.args.name.source.bits c.args.self.now.router.standing c.in-Ok.answer c.keep_sent.new.self.router c.keep_sent.new.self.sent (saw c)
