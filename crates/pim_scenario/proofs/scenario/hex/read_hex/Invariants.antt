-- The bytes so far, and those of what is left, are those of the text.
use Rattle.std.{proofs.Common.{◌≡◌, ◌++◌, length, option_map}}
use Rattle.pim_scenario.{specs.Texts.hex_of}
use Rattle.pim_scenario.proofs.scenario.hex.read_hex.Given as goal

abbrev pub invariant-loop-rest : goal.invariant-loop-rest
invariant-loop-rest l = option_map (λ more. l.bytes ++ more) (hex_of l.rest) ≡ hex_of l.text

abbrev pub decreases-loop-rest : goal.decreases-loop-rest
decreases-loop-rest l = length l.rest
