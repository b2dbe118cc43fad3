-- None of the interfaces so far has the address.
use Rattle.std.{proofs.Common.{◌≡◌, map, drop}, specs.List.list_any}
use Rattle.toml.{specs.View.view}
use Rattle.pim_scenario.{specs.Standing.has_address}
use Rattle.pim_scenario.proofs.scenario.standing.is_on_interface.Given as goal

abbrev pub invariant-loop-interface : goal.invariant-loop-interface
invariant-loop-interface l =
    list_any (has_address l.text) (map view (drop l.interface-index l.interfaces))
    ≡ list_any (has_address l.text) (map view l.interfaces)
