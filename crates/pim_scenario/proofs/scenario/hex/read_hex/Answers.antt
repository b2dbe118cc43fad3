-- A pair of digits is one byte more.
use Rattle.std.{proofs.Common.arith}
use Rattle.pim_scenario.{proofs.HexLemmas.hex_kept}
use Rattle.pim_scenario.proofs.scenario.hex.read_hex.Goals as goal

pub loop-rest-preserved : goal.loop-rest-preserved
loop-rest-preserved c =
    hex_kept c.loop-rest.rest.now c.split_at.result.0.now c.split_at.result.1.now c.loop-rest.bytes c.push.new.self _ _ _
    (omega arith) c.split_at.ensures.front c.split_at.ensures.back (c.in_ok-read_digit.ensures.value)
    (c.in_ok-read_digit-2.ensures.value) (c.in_ok-push.ensures.ok) c.loop-rest.invariant
