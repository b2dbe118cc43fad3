-- The sources that keys name, those of a group, and those in a prefix.
use Rattle.std.{specs.{List.list_any, Option.option_map_or, Prelude.{Bool, List, false, filter, is_some, map, slice_get, ℕ, ◌&&◌, ◌==◌}}}
use Rattle.pim_ip.{specs.{Prefixes.contains, declared.addr.Prefix.Prefix}}
use Rattle.pim_types.{specs.{Keys.{is_of_group, source_in}, declared.fact.Key.Key}}
use Rattle.pim_model.{specs.{State.State, Unicast.subnet, Upstream.fact_keys}}

-- the key names the address as its source
abbrev pub is_from : ℕ → Key → Bool
is_from address k = is_some k.source && (source_in k == address)

-- the key names a source in the prefix
abbrev pub is_within : Prefix → Key → Bool
is_within p k = is_some k.source && contains p (source_in k)

-- The source of a fact is in the interface's subnet. There is none of an interface that isn't configured.
unfoldable pub has_source_on_subnet : State → ℕ → Bool
has_source_on_subnet s i =
    option_map_or (λ c. list_any (is_within (subnet c)) (fact_keys s)) (slice_get s.configured.interfaces i) false

-- The sources of a group, in the order of the keys.
unfoldable pub sources_among : ℕ → List Key → List ℕ
sources_among g keys = map source_in (filter (λ k. is_of_group g k && is_some k.source) keys)
