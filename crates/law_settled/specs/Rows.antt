-- Rows changed under one key after the other.
use Rattle.std.{specs.Prelude.{List, Option, fold}}
use Rattle.pim_types.{specs.declared.fact.Key.Key}
use Rattle.pim_model.{specs.Tables.{Table, change_row}}

unfoldable pub all_changed : {R : Type 0} → (R → Option R) → Table R → List Key → Table R
all_changed change t keys = fold (λ u k. change_row change k u) t keys
