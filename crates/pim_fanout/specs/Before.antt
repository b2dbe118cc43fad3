-- The sources that a change touches, as they are in a state.
use Rattle.std.{specs.{List.{AllByRecursion, flat_map}, Prelude.{List, false, map, true, ℕ, ◌≡◌}}}
use Rattle.pim_types.{specs.{Keys.source_key, declared.{fact.Key.Key, name.SourceGroup.SourceGroup}}}
use Rattle.pim_model.{specs.{Cache.may_register, Desires.join_desired, Registers.could_register, Sets.register_state, State.State, Tables.has_row, Upstream.groups_of}}
use Rattle.pim_state.{specs.{Touches.concerned_keys, declared.touched.Touched.Touched}}
use Rattle.pim_macros.{specs.{Sights.ShowsSource, declared.sight.SourceSight.SourceSight}}
use Rattle.pim_views.{specs.Openings.touched_sources}
use Rattle.pim_fanout.{specs.declared.before.{KnownSource.KnownSource, SourceBefore.SourceBefore}}

-- The touched sources, each under its key, in ascending order: by group, then by source.
unfoldable pub opened_sources : State → Touched → List Key
opened_sources o touched =
    flat_map (λ g. map (source_key 0 g) (touched_sources o touched g)) (groups_of (concerned_keys o touched))

-- the key of a source fact
abbrev pub name_key : SourceGroup → Key
name_key n = source_key 0 n.group.bits n.source.bits

-- The key of the source of a sight.
abbrev pub seen_key : SourceSight → Key
seen_key sight = source_key 0 sight.star.group.bits sight.source.bits

-- The key of a source that is compared, with a fact or without one.
abbrev pub key_before : SourceBefore → Key
key_before (SourceBefore.Unknown n) = name_key n
key_before (SourceBefore.Known k) = seen_key k.sight

-- what is kept of a source with a fact in the state
pub record KnownAs (o : State) (g src : ℕ) (k : KnownSource) : Type 0 where
  pub fact : has_row o.sources (source_key 0 g src) ≡ true
  pub sight : ShowsSource o g src k.sight
  pub may_register : k.may_register ≡ may_register o g src
  pub could_register : k.could_register ≡ could_register o g src
  pub register : k.register ≡ register_state o g src
  pub is_desired : k.is_desired ≡ join_desired o g src

abbrev pub IsKnown : State → KnownSource → Type 0
IsKnown o k = KnownAs o k.sight.star.group.bits k.sight.source.bits k

-- What is kept of a source: of one without a fact only its name.
abbrev pub IsSourceBefore : State → SourceBefore → Type 0
IsSourceBefore o (SourceBefore.Unknown n) = has_row o.sources (name_key n) ≡ false
IsSourceBefore o (SourceBefore.Known k) = IsKnown o k

-- All sources that are compared are as they were in a state.
abbrev pub AreBefore : State → List SourceBefore → Type 0
AreBefore o sources = AllByRecursion (IsSourceBefore o) sources

-- What is kept of the touched sources, in their order, in the state.
pub record IsBefore (o : State) (touched : Touched) (sources : List SourceBefore) : Type 0 where
  pub keys : map key_before sources ≡ opened_sources o touched
  pub each : AreBefore o sources
