use Rattle.pim_session.{proofs.Sharing.saw_all}
use Rattle.law_plane.{specs.Seen.seen_event}
use Rattle.pim_session.proofs.shared.see.Goals as goal

pub returns-clause-took : goal.returns-clause-took
returns-clause-took c =
    saw_all c.args.router.now.standing c.args.anycast.now (seen_event c.args.draw c.args.iface c.args.name.group.bits c.args.name.source.bits)
    c.args.name.group.bits c.args.name.source.bits c.is_settled-before.result c.in_ok-answer.answer c.packet_seen.new.self
    c.packet_seen.new.emissions.items c.in_ok-more.more.items c.in_ok-left.left.items c.is_settled-before.ensures
    (rw c.of.ensures at c.in_ok-more.ensures.value) c.in_ok-left.ensures.joined
    (rw c.new-sent.ensures.items at c.in_ok-answer.ensures.stepped)
