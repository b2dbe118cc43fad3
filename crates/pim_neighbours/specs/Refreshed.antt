-- Hellos that say nothing else of a neighbour than that it lasts (RFC 7761, section 4.3.1).
use Rattle.std.{specs.{Option.option_map_or, Prelude.{Bool, false, not, ℕ, ◌&&◌, ◌==◌}}}
use Rattle.pim_types.{specs.{declared.fact.NeighbourRow.NeighbourRow, Keys.neighbour_key}}
use Rattle.pim_wire.{specs.declared.hello.Hello.Hello as HelloValue}
use Rattle.pim_model.{specs.{Hellos.{hello_holdtime_of, is_generation_changed_among}, Tables.{Table, row_at, same_option}}}

-- The neighbour has the priority that is known of it, didn't restart, and isn't removed.
unfoldable pub is_refreshed : Table NeighbourRow → ℕ → ℕ → HelloValue → Bool
is_refreshed rows i address h =
    option_map_or (λ (r : NeighbourRow). same_option r.priority h.priority) (row_at rows (neighbour_key i address)) false
    && not (hello_holdtime_of h == 0)
    && not (is_generation_changed_among rows i address h)
