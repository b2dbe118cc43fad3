use Rattle.pim_reloader.{proofs.Removing.{removes_begin, removes_end, removes_next}}
use Rattle.pim_reloader.proofs.remove.take_all_down.Goals as goal

pub loop-number-init : goal.loop-number-init
loop-number-init c = (
  removes_begin c.args.core.now.world c.args.draw c.args.first c.args.count c.new-sent.result.items c.new-sent.ensures.items
      c.requires.rest,
  c.requires,
)

pub take_down-requires : goal.take_down-requires
take_down-requires c = c.loop-number.invariant.1

pub loop-number-preserved : goal.loop-number-preserved
loop-number-preserved c = (
  removes_next c.args.core.now.world c.args.draw c.args.first c.args.count c.loop-number.number c.loop-number.core.world
      c.take_down.new.core.world c.loop-number.sent.items c.in_ok-more.more.items c.append.new.self.items c.loop-number-test.true
      c.in_ok-more.ensures.state c.in_ok-more.ensures.sent c.in_ok-append.ensures.items c.in_ok-more.ensures.rests.rest
      c.loop-number.invariant.0,
  c.in_ok-more.ensures.rests,
)

pub returns : goal.returns
returns c =
    let ends = removes_end c.args.core.now.world c.args.draw c.args.first c.args.count c.loop-number.number
    c.loop-number.core.world c.loop-number.sent.items c.loop-number-test.false c.loop-number.invariant.0 in
    record { state = ends.0; sent = ends.1; rests = c.loop-number.invariant.1; fault = tt }
