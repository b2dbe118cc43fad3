-- Each block in turn is read.
use Rattle.std.{proofs.Common.rules}
use Rattle.pim_scenario.{proofs.PieceScenarios.{next_move, last_move}}
use Rattle.pim_scenario.proofs.scenario.pieces.read_moves_alone.Goals as goal

pub returns-in_default-before_move : goal.returns-in_default-before_move
returns-in_default-before_move c = λ text ns none has.
    last_move text ns c.args.routers.now c.moves.moves _ c.moves.rest.now c.in-Some.body.now c.in_ok-move_in.field-0 none
    (c.moves.invariant.1 text ns none has) c.in-Some.ensures c.in_ok-move_in.ensures c.in_ok-push.ensures.ok

pub moves-preserved : goal.moves-preserved
moves-preserved c = (
  search rules,
  λ text ns none has.
      next_move text ns c.args.routers.now c.moves.moves _ c.moves.rest.now c.in-Some.body.now c.in-Some-before_move.block.now c.in-Some-before_move.next.now
      c.in_ok-move_in-2.field-0 none (c.moves.invariant.1 text ns none has) c.in-Some.ensures c.in-Some-before_move.ensures c.in_ok-move_in-2.ensures
      c.in_ok-push-2.ensures.ok,
)
