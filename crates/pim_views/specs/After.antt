-- A touched group and its touched sources, as they were at the opening, with what is read of them in a state.
use Rattle.std.{specs.{List.AllByRecursion, Prelude.{List, map, ◌≡◌}}}
use Rattle.pim_model.{specs.State.State}
use Rattle.pim_macros.{specs.{Sights.{IsSourceSight, IsStarSight}, declared.sight.StarSight.StarSight}}
use Rattle.pim_views.{specs.declared.{opening.{GroupOpening.GroupOpening, SourceOpening.SourceOpening}, after.{GroupAfter.GroupAfter, SourceAfter.SourceAfter}}}

-- what was opened
abbrev pub opened_in : SourceAfter → SourceOpening
opened_in x = x.opened

abbrev pub opening_in : GroupAfter → GroupOpening
opening_in x = record {
  group = x.star.group;
  is_whole = x.is_whole;
  star = x.was;
  sources = map opened_in x.sources;
}

-- The sight is that of the opened source, and of its group.
pub record IsSourceAfter (s : State) (here : StarSight) (x : SourceAfter) : Type 0 where
  pub sight : IsSourceSight s x.sight
  pub star : (x.sight).star ≡ here
  pub source : (x.sight).source ≡ (x.opened).source

abbrev pub AreAfter : State → StarSight → List SourceAfter → Type 0
AreAfter s star xs = AllByRecursion (IsSourceAfter s star) xs

-- what was opened of these groups
abbrev pub openings_in : List GroupAfter → List GroupOpening
openings_in xs = map opening_in xs

-- the sights of a gathered group, and of its sources, are true of the state
pub record IsAfter (s : State) (x : GroupAfter) : Type 0 where
  pub star : IsStarSight s x.star
  pub sources : AreAfter s x.star x.sources

-- the sights of all gathered groups are true of the state
abbrev pub AreGathered : State → List GroupAfter → Type 0
AreGathered s xs = AllByRecursion (IsAfter s) xs
