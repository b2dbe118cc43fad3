-- The texts so far were read.
use Rattle.std.{proofs.Common.take, specs.List.AllZip}
use Rattle.toml.{specs.View.view}
use Rattle.pim_scenario.{specs.Standing.WritesRange}
use Rattle.pim_scenario.proofs.scenario.standing.each_range_in.Given as goal

abbrev pub invariant-loop-text : goal.invariant-loop-text
invariant-loop-text l = AllZip (λ v x. WritesRange (view v) x) (take l.text-index l.texts) l.ranges
