-- None of the names so far is the key.
use Rattle.std.{proofs.Common.{◌≡◌, map, drop}}
use Rattle.pim_scenario.{specs.Fields.is_known}
use Rattle.pim_scenario.proofs.scenario.field.is_among.Given as goal

abbrev pub invariant-loop-name : goal.invariant-loop-name
invariant-loop-name l =
    is_known (map (λ k. k.now) (drop l.name-index l.known)) l.key
    ≡ is_known (map (λ k. k.now) l.known) l.key
