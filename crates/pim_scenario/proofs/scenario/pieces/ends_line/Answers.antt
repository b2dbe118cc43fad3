-- The last byte is tested.
use Rattle.pim_scenario.{proofs.PieceScenarios.ends_test}
use Rattle.pim_scenario.proofs.scenario.pieces.ends_line.Goals as goal

pub returns-then-length-gt0 : goal.returns-then-length-gt0
returns-then-length-gt0 c =
    ends_test c.args.text.now c.as_bytes-bytes.result.now c.as_bytes-bytes.ensures.value c.if-length-gt0.true
