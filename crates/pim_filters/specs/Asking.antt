-- The queries that a group record requests: one of sources, then one of the group.
use Rattle.std.{specs.Prelude.{Bool, List, None, Option, Some, [], false, true, if◌then◌else◌, ℕ, ◌++◌, ◌∷◌}}
use Rattle.pim_model.{specs.Records.{AskGroup, AskSources, Asked}}

abbrev pub source_queries : Option (List ℕ) → List Asked
source_queries None = []
source_queries (Some sources) = AskSources sources ∷ []

abbrev pub asked_in_order : Option (List ℕ) → Bool → List Asked
asked_in_order sources group = source_queries sources ++ (if group then AskGroup ∷ [] else [])

-- the sources of the first query of sources
abbrev pub sources_asked : List Asked → Option (List ℕ)
sources_asked [] = None
sources_asked (AskGroup ∷ later) = sources_asked later
sources_asked (AskSources sources ∷ later) = Some sources

-- A query of the group is requested.
abbrev pub is_group_asked : List Asked → Bool
is_group_asked [] = false
is_group_asked (AskGroup ∷ later) = true
is_group_asked (AskSources sources ∷ later) = is_group_asked later
