-- The values so far were read, and their links are numbered.
use Rattle.std.{proofs.Common.{◌≡◌, take}, specs.List.{All, AllZip}}
use Rattle.toml.{specs.View.view}
use Rattle.pim_scenario.{specs.{Links.names_in, Scenario.{names_after, IsLink, IsNumbered, IsTable}}}
use Rattle.pim_scenario.proofs.scenario.router.links_in.Given as goal

abbrev pub invariant-loop-value : goal.invariant-loop-value
invariant-loop-value l = record {
  read : AllZip (λ v x. IsTable IsLink (view v) x) (take l.value-index l.values) l.links;
  names : names_in l.names ≡ names_after (names_in l.initial.names) l.links;
  numbered : All (IsNumbered (names_in l.names)) l.links;
}
