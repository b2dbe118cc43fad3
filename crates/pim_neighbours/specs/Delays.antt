-- The delays of a link, both at once.
use Rattle.std.{specs.Prelude.{None, Option, Some, if◌then◌else◌, ℕ}}
use Rattle.pim_types.{specs.declared.fact.NeighbourRow.NeighbourRow}
use Rattle.pim_model.{specs.{Neighbours.{all_have_lan_delay, greatest_delay}, Tables.Table}}
use Rattle.pim_neighbours.{specs.declared.delays.Delays.Delays}

-- the greatest that were announced, the router's own among them; none where a neighbour announced none
unfoldable pub announced_among : ℕ → ℕ → Table NeighbourRow → Option Delays
announced_among my_propagation_delay my_override_interval rows =
    if all_have_lan_delay rows
    then Some (record {
      propagation_delay = greatest_delay (λ d. d.propagation_delay) my_propagation_delay rows;
      override_interval = greatest_delay (λ d. d.override_interval) my_override_interval rows;
    })
    else None
