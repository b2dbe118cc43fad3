-- Under which keys facts stand, and beside which others.
use Rattle.std.{specs.{List.list_all, Prelude.Bool}}
use Rattle.pim_types.{specs.{Keys.{group_in, iface_in, neighbour_key, same_key, source_in, star_key}, declared.fact.{Key.Key, NeighbourRow.NeighbourRow, SourceRecordRow.SourceRecordRow}}}
use Rattle.pim_model.{specs.{State.State, Tables.has_row}}
use Rattle.law_states.{specs.Ends.IsKept}

-- the record of a source lies beside that of its group on its interface
unfoldable pub sources_are_grouped : State → Bool
sources_are_grouped s =
    list_all (λ (e : Key × SourceRecordRow). has_row s.group_records (star_key (iface_in e.0) (group_in e.0))) s.source_records

abbrev pub SourcesStayGrouped : Type 0
SourcesStayGrouped = IsKept sources_are_grouped

-- a neighbour is under the key of its interface and its address
unfoldable pub is_of_neighbour : Key × NeighbourRow → Bool
is_of_neighbour e = same_key (neighbour_key (iface_in e.0) (source_in e.0)) e.0

unfoldable pub neighbours_are_keyed : State → Bool
neighbours_are_keyed s = list_all is_of_neighbour s.neighbours

abbrev pub NeighboursStayKeyed : Type 0
NeighboursStayKeyed = IsKept neighbours_are_keyed
