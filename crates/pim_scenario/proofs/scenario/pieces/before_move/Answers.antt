-- The text is cut where a line begins.
use Rattle.std.{proofs.lemmas.Bool.OnTrue_at}
use Rattle.pim_scenario.{proofs.PieceScenarios.cut_text}
use Rattle.pim_scenario.proofs.scenario.pieces.before_move.Goals as goal

pub returns-then-begins_header : goal.returns-then-begins_header
returns-then-begins_header c =
    cut_text c.args.text.now c.in_ok-front.front.now c.in_ok-front.back.now _ c.in_ok-front.ensures.front c.in_ok-front.ensures.back
    (OnTrue_at c.if-ends_line.true c.ends_line.ensures) (OnTrue_at c.if-begins_header.true c.begins_header.ensures)
