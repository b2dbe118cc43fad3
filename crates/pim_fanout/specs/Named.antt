-- Which of the touched sources are named: those that have a fact in only one of two states, and those with a fact of
-- which something differs that is compared.
use Rattle.std.{specs.Prelude.{Bool, List, filter, map, ℕ, ◌&&◌, ◌||◌}}
use Rattle.pim_types.{specs.{Keys.{group_in, source_in}, declared.{fact.Key.Key, name.SourceGroup.SourceGroup}}}
use Rattle.pim_model.{specs.{State.State, Tables.has_row}}
use Rattle.pim_state.{specs.declared.touched.Touched.Touched}
use Rattle.law_events.{specs.Named.{is_source_named, is_same_beside, is_same_sight}}
use Rattle.pim_fanout.{specs.Before.{name_key, opened_sources}}

-- what is compared of a source is the same in both states
abbrev pub is_same_source : ℕ → ℕ → State → State → Bool
is_same_source g src o a = is_same_sight g src o a && is_same_beside g src o a

-- The key's source has a fact in one of the states, and is named.
unfoldable pub is_changed : State → State → Key → Bool
is_changed o a k =
    (has_row o.sources k || has_row a.sources k) && is_source_named (group_in k) (source_in k) o a

-- The sources that are named among those that the opening's keys touch.
unfoldable pub named_among : State → State → Touched → List Key
named_among o a touched = filter (is_changed o a) (opened_sources o touched)

-- The keys of named sources.
abbrev pub keys_of : List SourceGroup → List Key
keys_of names = map name_key names
