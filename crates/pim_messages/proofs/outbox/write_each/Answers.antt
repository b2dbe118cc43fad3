use Rattle.std.{proofs.Common.◌∙◌}
use Rattle.pim_messages.{specs.Sendable.messages_of, proofs.Writing.{sends_all, sends_next}}
use Rattle.pim_messages.proofs.outbox.write_each.Goals as goal

pub loop-message-preserved : goal.loop-message-preserved
loop-message-preserved c =
    let l = c.loop-message in
    let e = c.in_ok-write_message.ensures in (
      sends_next (messages_of c.args.messages.now) c.args.interfaces.now c.args.emissions.now.items c.args.messages.now
          l.message-index c.message-item.result l.interfaces c.write_message.new.interfaces l.emissions.items
          c.write_message.new.emissions.items c.loop-message-test.true c.message-item.is e.paid e.sent l.invariant.0,
      c.write_message.ensures.configured ∙ l.invariant.1,
    )

pub returns-clause-sent : goal.returns-clause-sent
returns-clause-sent c =
    let l = c.loop-message in
    (sends_all (messages_of c.args.messages.now) c.args.interfaces.now c.args.emissions.now.items c.args.messages.now
    l.message-index l.interfaces l.emissions.items c.loop-message-test.false l.invariant.0).0

pub returns-clause-paid : goal.returns-clause-paid
returns-clause-paid c =
    let l = c.loop-message in
    (sends_all (messages_of c.args.messages.now) c.args.interfaces.now c.args.emissions.now.items c.args.messages.now
    l.message-index l.interfaces l.emissions.items c.loop-message-test.false l.invariant.0).1
