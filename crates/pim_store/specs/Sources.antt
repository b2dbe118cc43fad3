-- The sources under the keys of a table. No public clause cites this module.
use Rattle.std.{specs.Prelude.{List, filter, is_some, map, ℕ}}
use Rattle.pim_types.{specs.{declared.fact.Key.Key, Keys.source_in}}
use Rattle.pim_model.{specs.Tables.{Table, keys_in}}

-- the sources of a table's keys
unfoldable pub sources_in : {R : Type 0} → Table R → List ℕ
sources_in t = map source_in (filter (λ (k : Key). is_some k.source) (keys_in t))
