use Rattle.pim_reloader.{proofs.Below.{left_below, removed_is, removed_sent}}
use Rattle.pim_reloader.proofs.remove.remove.Goals as goal

pub returns-clause-removes : goal.returns-clause-removes
returns-clause-removes c = record {
  state = removed_is c.args.core.now.world c.take_all_down.new.core.world c.args.next.now c.args.draw c.count_of-first.result
      c.count_of-count.result c.count_of-first.ensures c.count_of-count.ensures c.in_ok-sent.ensures.state;
  sent = removed_sent c.args.core.now.world c.take_all_down.new.core.world c.args.next.now c.args.draw c.count_of-first.result
      c.count_of-count.result c.count_of-first.ensures c.count_of-count.ensures c.in_ok-sent.sent.items
      c.in_ok-sent.ensures.sent;
  rests = c.in_ok-sent.ensures.rests;
  fault = tt;
}

pub returns-clause-below : goal.returns-clause-below
returns-clause-below c =
    left_below c.args.core.now.world c.take_all_down.new.core.world c.args.next.now c.args.draw c.proof_kinds.ensures
    c.proof_kinds-2.ensures
    (removed_is c.args.core.now.world c.take_all_down.new.core.world c.args.next.now c.args.draw c.count_of-first.result
    c.count_of-count.result c.count_of-first.ensures c.count_of-count.ensures c.in_ok-sent.ensures.state)
