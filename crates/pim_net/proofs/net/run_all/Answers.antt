-- Each move in turn.
use Rattle.std.{proofs.Common.{◌∙◌, arith, refl}}
use Rattle.pim_net.{proofs.{Carries.is_there, Runs.{runs_end, runs_first, runs_next, runs_written, stops_part_way}, Stations.{if_some, of_some, passed_on}}}
use Rattle.pim_net.proofs.net.run_all.Goals as goal

pub loop-one-init : goal.loop-one-init
loop-one-init g c = if_some c.args.network.now _ (λ n is. (
  runs_first g.W.Wire.is_faithful g.W.Wire.sends g.W.Wire.gives c.args.ports.now n c.args.wire.now c.args.moves.now _ _ is
      c.new-log.ensures.items,
  refl,
))

pub loop-one-preserved : goal.loop-one-preserved
loop-one-preserved g c = if_some c.args.network.now _ (λ n is.
    let runs = of_some c.args.network.now _ n is c.loop-one.invariant in (
      runs_next g.W.Wire.is_faithful g.W.Wire.sends g.W.Wire.gives c.args.ports.now n c.args.wire.now c.args.moves.now
          c.loop-one.one-index c.loop-one.network c.loop-one.log.items c.loop-one.wire runs.0
          c.one-item.result c.in_ok-make.field-0 c.make.new.network c.push.new.self.items c.make.new.wire
          c.loop-one-test.true c.one-item.is c.in_ok-make.ensures.moves c.in_ok-push.ensures.items,
      of_some c.loop-one.network _ (runs.0).network (runs.0).is c.in_ok-make.ensures.counted ∙ runs.1,
    ))

pub returns-in_err-make-clause-part_way : goal.returns-in_err-make-clause-part_way
returns-in_err-make-clause-part_way g c = if_some c.args.network.now _ (λ n is.
    let runs = of_some c.args.network.now _ n is c.loop-one.invariant in
    passed_on c.from_residual.result c.in_err-make.field-0.0 _ c.from_residual.ensures.1 (λ wire.
    stops_part_way g.W.Wire.is_faithful g.W.Wire.sends g.W.Wire.gives c.args.ports.now n c.args.wire.now c.args.moves.now
    c.loop-one.one-index c.loop-one.network c.loop-one.log.items c.loop-one.wire runs.0 c.one-item.result c.make.new.network
    c.loop-one-test.true c.one-item.is
    (if_some c.loop-one.network _ (λ m there. of_some c.loop-one.network _ m there c.in_err-make.ensures.kept wire))))

pub returns-in_err-make-clause-works : goal.returns-in_err-make-clause-works
returns-in_err-make-clause-works g c = if_some c.args.network.now _ (λ n is.
    let runs = of_some c.args.network.now _ n is c.loop-one.invariant in
    passed_on c.from_residual.result c.in_err-make.field-0.0 _ c.from_residual.ensures.1 (λ wire.
    is_there _ _ (of_some c.loop-one.network _ (runs.0).network (runs.0).is c.in_err-make.ensures.kept wire).0))

pub returns-clause-outcomes : goal.returns-clause-outcomes
returns-clause-outcomes g c = λ f. if_some c.args.network.now _ (λ n is.
    let runs = of_some c.args.network.now _ n is c.loop-one.invariant in
    (runs_written g.W.Wire.is_faithful g.W.Wire.sends g.W.Wire.gives c.args.ports.now n c.args.wire.now c.args.moves.now
    c.loop-one.one-index c.loop-one.network c.loop-one.log.items c.loop-one.wire runs.0 (omega arith) f).0)

pub returns-clause-network : goal.returns-clause-network
returns-clause-network g c = λ f. if_some c.args.network.now _ (λ n is.
    let runs = of_some c.args.network.now _ n is c.loop-one.invariant in
    (runs_written g.W.Wire.is_faithful g.W.Wire.sends g.W.Wire.gives c.args.ports.now n c.args.wire.now c.args.moves.now
    c.loop-one.one-index c.loop-one.network c.loop-one.log.items c.loop-one.wire runs.0 (omega arith) f).1)

pub returns-clause-moves : goal.returns-clause-moves
returns-clause-moves g c = if_some c.args.network.now _ (λ n is.
    let runs = of_some c.args.network.now _ n is c.loop-one.invariant in
    runs_end g.W.Wire.is_faithful g.W.Wire.sends g.W.Wire.gives c.args.ports.now n c.args.wire.now c.args.moves.now
    c.loop-one.one-index c.loop-one.network c.loop-one.log.items c.loop-one.wire runs.0 (omega arith))

pub returns-clause-goes_on : goal.returns-clause-goes_on
returns-clause-goes_on g c = if_some c.args.network.now _ (λ n is.
    is_there _ _ ((of_some c.args.network.now _ n is c.loop-one.invariant).0).is)
