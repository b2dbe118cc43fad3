use Rattle.std.{proofs.Common.{ℕ, List, ap, ◌∙◌}}
use Rattle.pim_session.{specs.Behind.{frame_event, packet_of}, proofs.Taking.packet_took}
use Rattle.pim_session.proofs.behind.take_packet.Goals as goal

pub returns-clause-took : goal.returns-clause-took
returns-clause-took c =
    let gives = rw c.of.ensures at (rw c.new-written.ensures.items at c.in_ok-given.ensures.ok) in
    let packet = c.packet_of-packet.ensures ∙ ap (λ (xs : List ℕ). packet_of c.in_ok-given.given c.args.bytes.now xs) c.as_slice.ensures.value in
    let told = c.frame.ensures ∙ ap (λ (xs : List ℕ). frame_event c.args.draw c.args.iface xs) packet in
    packet_took c.args.router.now.standing c.args.front.now c.args.draw c.args.iface c.args.bytes.now _ c.packet_of-packet.result.now c.in_ok-given.given c.frame.result
    c.args.sent.now.items c.in_ok-answer.answer c.give.new.router c.give.new.sent.items c.membership_end-end.result c.note.new.self
    gives told c.in_ok-answer.ensures.stepped c.membership_end-end.ensures packet c.in_ok-note.ensures.ok
