-- The values so far are plain.
use Rattle.std.{proofs.Common.◌≡◌}
use Rattle.toml.{specs.View.{table_view, members_view}}
use Rattle.pim_scenario.{specs.Pieces.is_flat}
use Rattle.pim_scenario.proofs.scenario.pieces.is_flat.Given as goal

abbrev pub invariant-values : goal.invariant-values
invariant-values l = is_flat (members_view l.value-iterator) ≡ is_flat (table_view l.table)
