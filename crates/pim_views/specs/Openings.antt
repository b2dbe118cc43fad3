-- The touched groups and sources, as they are in a state.
use Rattle.std.{specs.{List.list_any, Prelude.{Bool, List, [], if◌then◌else◌, map, true, ℕ, ◌&&◌, ◌++◌, ◌==◌}}}
use Rattle.pim_ip.{specs.Addr.addr}
use Rattle.pim_types.{specs.{Keys.{is_of_group, names_source, source_in}, declared.fact.Key.Key}}
use Rattle.pim_model.{specs.{State.State, Upstream.{fact_keys, groups_of, source_view, sources_of, star_view}}}
use Rattle.pim_state.{specs.{Touches.concerned_keys, declared.touched.Touched.Touched}}
use Rattle.pim_views.{specs.declared.opening.{GroupOpening.GroupOpening, SourceOpening.SourceOpening}}

-- the key touches all of the group: that of (*,G), or of source 0.0.0.0, which means all
abbrev pub is_of_all : ℕ → Key → Bool
is_of_all g k = is_of_group g k && (source_in k == 0)

-- the touched keys have one of all of a group
unfoldable pub is_whole : Touched → ℕ → Bool
is_whole Touched.All g = true
is_whole (Touched.Keys keys) g = list_any (is_of_all g) keys

-- the facts of a group all of which the keys touch
abbrev pub facts_of_whole : State → List Key → ℕ → List Key
facts_of_whole s keys g = if list_any (is_of_all g) keys then fact_keys s else []

-- the keys whose sources are touched
abbrev pub opened_keys : State → Touched → ℕ → List Key
opened_keys s Touched.All g = fact_keys s
opened_keys s (Touched.Keys keys) g = facts_of_whole s keys g ++ keys

-- the sources of a group that are touched, ascending
unfoldable pub touched_sources : State → Touched → ℕ → List ℕ
touched_sources s touched g = sources_of g (opened_keys s touched g)

-- a source of a group has some fact
abbrev pub has_facts : State → ℕ → ℕ → Bool
has_facts s g src = list_any (names_source g src) (fact_keys s)

-- a touched source as it is before a change: whether it has facts, and what the machines compare
abbrev pub source_opening : State → ℕ → ℕ → SourceOpening
source_opening s g src = record { source = addr src; has_facts = has_facts s g src; view = source_view s g src }

-- a touched group as it is before a change, with its touched sources
abbrev pub group_opening : State → Touched → ℕ → GroupOpening
group_opening s touched g = record {
  group = addr g;
  is_whole = is_whole touched g;
  star = star_view s g;
  sources = map (source_opening s g) (touched_sources s touched g);
}

-- The openings of the touched groups, ascending.
unfoldable pub opening_of : State → Touched → List GroupOpening
opening_of s touched = map (group_opening s touched) (groups_of (concerned_keys s touched))
