use Rattle.std.proofs.Common.{◌≡◌, ◌∙◌, true, false, IsOk}
use Rattle.igmp_older.{specs.Routers.queried}
use Rattle.pim_session.{specs.Front.hears_queries, proofs.Taking.{frame_surely, frame_took, query_surely, query_written, unheard, wrote_surely}}
use Rattle.pim_session.proofs.behind.take_frame.Goals as goal

pub returns-then-not-hears_queries-clause-took : goal.returns-then-not-hears_queries-clause-took
returns-then-not-hears_queries-clause-took c =
    let deaf : hears_queries c.args.front.now c.args.iface.number ≡ false = cc (c.if-not-hears_queries.ensures) in
    frame_took c.args.router.now.standing c.args.front.now c.args.draw c.args.iface c.args.bytes.now c.args.bytes.now c.args.sent.now.items
    c.take_packet.result c.take_packet.new.router c.take_packet.new.sent.items c.take_packet.new.front
    (unheard c.args.front.now c.args.iface.number c.args.bytes.now deaf) c.take_packet.ensures.took

pub returns-then-not-hears_queries-clause-sure : goal.returns-then-not-hears_queries-clause-sure
returns-then-not-hears_queries-clause-sure c =
    frame_surely c.args.router.now.standing c.args.front.now c.args.draw c.args.iface c.args.bytes.now (IsOk c.take_packet.result)
    c.take_packet.ensures.sure

pub returns-in_err-translate_query-clause-sure : goal.returns-in_err-translate_query-clause-sure
returns-in_err-translate_query-clause-sure c =
    let heard : hears_queries c.args.front.now c.args.iface.number ≡ true = cc (c.if-not-hears_queries.ensures) in
    query_surely c.args.router.now.standing c.args.front.now c.args.draw c.args.iface c.args.bytes.now (IsOk c.from_residual.result) heard
    (λ none. let no : false ≡ true = c.in_err-translate_query.ensures.sure none in cc)

pub returns-then-branch-clause-took : goal.returns-then-branch-clause-took
returns-then-branch-clause-took c =
    let heard : hears_queries c.args.front.now c.args.iface.number ≡ true = cc (c.if-not-hears_queries.ensures) in
    let wrote = rw c.if-branch.true at (rw c.new-query.ensures.items at c.in_ok-translate_query.ensures.ok) in
    frame_took c.args.router.now.standing c.args.front.now c.args.draw c.args.iface c.args.bytes.now c.as_slice.result.now c.args.sent.now.items
    c.take_packet-then-branch.result c.take_packet-then-branch.new.router c.take_packet-then-branch.new.sent.items c.take_packet-then-branch.new.front
    (c.as_slice.ensures.value ∙ query_written c.args.front.now c.args.iface.number true c.args.bytes.now _ heard wrote)
    c.take_packet-then-branch.ensures.took

pub returns-then-branch-clause-sure : goal.returns-then-branch-clause-sure
returns-then-branch-clause-sure c =
    let heard : hears_queries c.args.front.now c.args.iface.number ≡ true = cc (c.if-not-hears_queries.ensures) in
    let wrote = rw c.if-branch.true at (rw c.new-query.ensures.items at c.in_ok-translate_query.ensures.ok) in
    query_surely c.args.router.now.standing c.args.front.now c.args.draw c.args.iface c.args.bytes.now (IsOk c.take_packet-then-branch.result) heard
    (λ none. wrote_surely (queried c.args.bytes.now) _ (IsOk c.take_packet-then-branch.result) wrote none)

pub returns-clause-took : goal.returns-clause-took
returns-clause-took c =
    let heard : hears_queries c.args.front.now c.args.iface.number ≡ true = cc (c.if-not-hears_queries.ensures) in
    let wrote = rw c.if-branch.false at (rw c.new-query.ensures.items at c.in_ok-translate_query.ensures.ok) in
    frame_took c.args.router.now.standing c.args.front.now c.args.draw c.args.iface c.args.bytes.now c.args.bytes.now c.args.sent.now.items
    c.take_packet-2.result c.take_packet-2.new.router c.take_packet-2.new.sent.items c.take_packet-2.new.front
    (query_written c.args.front.now c.args.iface.number false c.args.bytes.now _ heard wrote)
    c.take_packet-2.ensures.took

pub returns-clause-sure : goal.returns-clause-sure
returns-clause-sure c =
    frame_surely c.args.router.now.standing c.args.front.now c.args.draw c.args.iface c.args.bytes.now (IsOk c.take_packet-2.result)
    c.take_packet-2.ensures.sure
