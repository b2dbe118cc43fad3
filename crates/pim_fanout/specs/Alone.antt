-- A source that is touched and no other, as it is in a state.
use Rattle.std.{specs.Prelude.{[], false, ◌≡◌, ◌∷◌}}
use Rattle.pim_types.{specs.declared.name.SourceGroup.SourceGroup}
use Rattle.pim_model.{specs.{State.State, Upstream.{groups_of, star_view}}}
use Rattle.pim_state.{specs.{Touches.concerned_keys, declared.touched.Touched.Touched}}
use Rattle.pim_views.{specs.{Openings.{is_whole, source_opening, touched_sources}, declared.opening.GroupOpening.GroupOpening}}

-- The source is touched, and nothing else of its group or of other groups.
pub record TouchesAlone (touched : Touched) (name : SourceGroup) : Type 0 where
  pub groups : (s : State) → groups_of (concerned_keys s touched) ≡ name.group.bits ∷ []
  pub part : is_whole touched name.group.bits ≡ false
  pub sources : (s : State) → touched_sources s touched name.group.bits ≡ name.source.bits ∷ []

-- The opening of a group of which one source alone is touched.
abbrev pub opening_alone : State → SourceGroup → GroupOpening
opening_alone s name = record {
  group = name.group;
  is_whole = false;
  star = star_view s name.group.bits;
  sources = source_opening s name.group.bits name.source.bits ∷ [];
}
