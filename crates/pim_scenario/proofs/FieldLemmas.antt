-- Lists of a document as lists of data.
use Rattle.std.{proofs.Common.{◌≡◌, ap, refl, List, [], ◌∷◌, map}}
use Rattle.toml.{specs.{Data.Data, View.{view, items_of}, declared.value.Value.Value}}
use Rattle.pim_scenario.{specs.Fields.values_of}

listed_data : (ds : List Data) → values_of (items_of ds) ≡ ds
listed_data [] = refl
listed_data (d ∷ ds) = ap (λ (xs : List Data). d ∷ xs) (listed_data ds)

-- the values of a list, seen one by one
pub listed : (vs : List Value) → values_of (items_of (map view vs)) ≡ map view vs
listed vs = listed_data (map view vs)
