-- None of the texts so far is the address.
use Rattle.std.{proofs.Common.{◌≡◌, map, drop}, specs.List.list_any}
use Rattle.toml.{specs.View.view}
use Rattle.pim_scenario.{specs.Standing.writes}
use Rattle.pim_scenario.proofs.scenario.standing.is_listed.Given as goal

abbrev pub invariant-loop-address : goal.invariant-loop-address
invariant-loop-address l =
    list_any (writes l.text) (map view (drop l.address-index l.addresses))
    ≡ list_any (writes l.text) (map view l.addresses)
