-- The values so far were read, each as one router, with a name of its own, and their links are numbered.
use Rattle.std.{proofs.Common.{◌≡◌, length, take}, specs.List.{All, AllZip}}
use Rattle.toml.{specs.View.view}
use Rattle.pim_scenario.{specs.{Links.names_in, Scenario.{link_names, HasNumbered, HaveOwnNames, IsRouter, IsTable}}}
use Rattle.pim_scenario.proofs.scenario.router.routers_in.Given as goal

abbrev pub invariant-loop-value : goal.invariant-loop-value
invariant-loop-value l = record {
  read : AllZip (λ v x. IsTable IsRouter (view v) x) (take l.value-index l.values) l.routers;
  count : length l.routers ≡ l.value-index;
  named : HaveOwnNames l.routers;
  names : names_in l.links ≡ link_names l.routers;
  numbered : All (HasNumbered (names_in l.links)) l.routers;
}
