-- Whether the router is the DR of an interface where the row of one neighbour there is another, or there is none.
use Rattle.std.{specs.{List.list_any, Prelude.{Bool, Option, is_none, not, ◌&&◌}}}
use Rattle.pim_types.{specs.{Keys.{iface_in, same_key}, declared.fact.{Key.Key, NeighbourRow.NeighbourRow}}}
use Rattle.pim_model.{specs.{Neighbours.is_dr_among, State.{State, my_address, my_priority}, Tables.{Table, rows_on, set_row}}}

-- The row is another neighbour's than the key's, and passes a test.
abbrev pub is_other : Key → (Key × NeighbourRow → Bool) → Key × NeighbourRow → Bool
is_other k test e = not (same_key k e.0) && test e

-- Some neighbour on the interface of the key, other than that with the key, passes a test.
abbrev pub some_other : Key → (Key × NeighbourRow → Bool) → Table NeighbourRow → Bool
some_other k test rows = list_any (is_other k test) (rows_on (iface_in k) rows)

-- The neighbour announced no DR priority.
abbrev pub is_unranked : Key × NeighbourRow → Bool
is_unranked e = is_none (e.1).priority

-- the router is the DR of the interface of a key, where the neighbour with that key has this row, or isn't one
abbrev pub is_dr_with : State → Key → Option NeighbourRow → Bool
is_dr_with s k row =
    is_dr_among (my_priority s (iface_in k)) (my_address s (iface_in k))
    (rows_on (iface_in k) (set_row s.neighbours k row))
