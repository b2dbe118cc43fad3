-- The values so far were read.
use Rattle.std.{proofs.Common.take, specs.List.AllZip}
use Rattle.toml.{specs.View.view}
use Rattle.pim_scenario.{specs.Scenario.{IsTable, IsMove}}
use Rattle.pim_scenario.proofs.scenario.moves.moves_in.Given as goal

abbrev pub invariant-loop-value : goal.invariant-loop-value
invariant-loop-value l = AllZip (λ v x. IsTable (IsMove l.routers) (view v) x) (take l.value-index l.values) l.moves
