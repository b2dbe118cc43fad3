-- What the front gives in the place of a packet, and what is then remembered.
use Rattle.std.{proofs.Common.{◌∙◌, ◌+◌, ap}}
use Rattle.pim_model.{specs.{Querier.group_membership_interval, State.State}}
use Rattle.pim_lab.{specs.Fronts.behind, proofs.Fronts.{asked_of, content_rewritten, content_same, gives_of, on_link, packet_mark, packet_rewritten, packet_same}}
use Rattle.pim_lab.proofs.front.pass_packet.Goals as goal

pub returns-in_ok-extend_from_slice-in-Same-clause-event : goal.returns-in_ok-extend_from_slice-in-Same-clause-event
returns-in_ok-extend_from_slice-in-Same-clause-event c s stands =
    packet_same (behind c.args.presence.now s) c.args.draw c.args.iface c.args.bytes c.in_ok-given.given _ c.in-Same.is
    (gives_of (behind c.args.presence.now s) c.args.draw c.args.iface c.args.bytes _ _ _ _ c.as_slice.ensures
    c.new-written.ensures.items (c.in_ok-given.ensures s stands))

pub returns-in_ok-extend_from_slice-in-Same-clause-mark : goal.returns-in_ok-extend_from_slice-in-Same-clause-mark
returns-in_ok-extend_from_slice-in-Same-clause-mark c s stands =
    let gives = gives_of (behind c.args.presence.now s) c.args.draw c.args.iface c.args.bytes _ _ _ _ c.as_slice.ensures
    c.new-written.ensures.items (c.in_ok-given.ensures s stands) in
    packet_mark (behind c.args.presence.now s) c.args.draw c.args.iface c.args.bytes c.in_ok-given.given
    c.membership_end-end.result _ _
    (c.membership_end-end.ensures
    ∙ asked_of (λ (t : State). t.present + group_membership_interval t c.args.iface.number) 0 _ s stands)
    ((rw c.new-packet.ensures.items at c.in_ok-extend_from_slice-in-Same.ensures.items) ∙ c.as_slice-in-Same.ensures
    ∙ content_same (behind c.args.presence.now s) c.args.draw c.args.iface c.args.bytes c.in_ok-given.given _ c.in-Same.is gives)
    gives

pub returns-in_ok-extend_from_slice-in-Rewritten-clause-event : goal.returns-in_ok-extend_from_slice-in-Rewritten-clause-event
returns-in_ok-extend_from_slice-in-Rewritten-clause-event c s stands =
    ap (on_link (behind c.args.presence.now s) c.args.draw c.args.iface c.args.bytes) c.from_vec.ensures
    ∙ packet_rewritten (behind c.args.presence.now s) c.args.draw c.args.iface c.args.bytes c.in_ok-given.given _ _
    c.in-Rewritten.is
    (gives_of (behind c.args.presence.now s) c.args.draw c.args.iface c.args.bytes _ _ _ _ c.as_slice.ensures
    c.new-written.ensures.items (c.in_ok-given.ensures s stands))

pub returns-in_ok-extend_from_slice-in-Rewritten-clause-mark : goal.returns-in_ok-extend_from_slice-in-Rewritten-clause-mark
returns-in_ok-extend_from_slice-in-Rewritten-clause-mark c s stands =
    let gives = gives_of (behind c.args.presence.now s) c.args.draw c.args.iface c.args.bytes _ _ _ _ c.as_slice.ensures
    c.new-written.ensures.items (c.in_ok-given.ensures s stands) in
    packet_mark (behind c.args.presence.now s) c.args.draw c.args.iface c.args.bytes c.in_ok-given.given
    c.membership_end-end.result _ _
    (c.membership_end-end.ensures
    ∙ asked_of (λ (t : State). t.present + group_membership_interval t c.args.iface.number) 0 _ s stands)
    ((rw c.new-packet.ensures.items at c.in_ok-extend_from_slice-in-Rewritten.ensures.items) ∙ c.deref.ensures.value
    ∙ content_rewritten (behind c.args.presence.now s) c.args.draw c.args.iface c.args.bytes c.in_ok-given.given _ _ c.in-Rewritten.is gives)
    gives
