use Rattle.std.{proofs.Common.{◌≡◌, drop}}
use Rattle.pim_messages.{specs.Sendable.messages_of, proofs.Writing.Sends}
use Rattle.pim_messages.proofs.outbox.write_each.Given as goal

abbrev pub invariant-loop-message : goal.invariant-loop-message
invariant-loop-message l =
    Sends (messages_of (drop l.message-index l.messages)) l.interfaces l.emissions.items
    (messages_of l.messages) l.initial.interfaces l.initial.emissions.items
    × (l.interfaces.configured ≡ l.initial.interfaces.configured)
