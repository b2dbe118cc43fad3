-- The texts so far were read.
use Rattle.std.{proofs.Common.take, specs.List.AllZip}
use Rattle.toml.{specs.View.view}
use Rattle.pim_scenario.{specs.Scenario.{IsText, AreCandidateWords}}
use Rattle.pim_scenario.proofs.scenario.routes.candidates_in.Given as goal

abbrev pub invariant-loop-text : goal.invariant-loop-text
invariant-loop-text l = AllZip (λ v x. IsText AreCandidateWords (view v) x) (take l.text-index l.texts) l.candidates
