-- Rows that stand in the values of another table.
use Rattle.std.{specs.{List.filter_map, Prelude.{Option, option_map}}}
use Rattle.pim_types.{specs.declared.fact.Key.Key}
use Rattle.pim_model.{specs.Tables.Table}

-- the rows of the values that have one, under the same keys
unfoldable pub rows_in : {V R : Type 0} → (V → Option R) → Table V → Table R
rows_in {V} {R} row values = filter_map (λ (e : Key × V). option_map (λ (r : R). (e.0, r)) (row e.1)) values
