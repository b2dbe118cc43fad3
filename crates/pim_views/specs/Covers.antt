-- What the change of one state into another concerns.
use Rattle.std.{specs.{List.list_any, Prelude.{Bool, List, true, ℕ, ◌||◌, ◌≡◌}}}
use Rattle.pim_types.{specs.{Keys.{is_of_group, names_source}, declared.fact.Key.Key}}
use Rattle.pim_model.{specs.{State.State, Upstream.fact_keys}}
use Rattle.law_events.{specs.Locality.{AgreesBut, touching}}
use Rattle.pim_state.{specs.declared.touched.Touched.Touched}
use Rattle.pim_views.{specs.Openings.has_facts}

-- a group has some fact
abbrev pub has_group : State → ℕ → Bool
has_group s g = list_any (is_of_group g) (fact_keys s)

-- all facts are of groups and of sources that had one
pub record IsWithin (o a : State) : Type 0 where
  pub groups : (g : ℕ) → has_group a g ≡ true → has_group o g ≡ true
  pub sources : (g src : ℕ) → has_facts a g src ≡ true → has_facts o g src ≡ true

-- A source that has a fact after the change had one before, or is named.
abbrev pub NewAreNamed : List Key → State → State → Type 0
NewAreNamed keys o a = (g src : ℕ) → has_facts a g src ≡ true
    → (has_facts o g src || list_any (names_source g src) keys) ≡ true

-- the change concerns no machine but those of these keys, and makes facts of no source but those that they name
pub record Concerns (keys : List Key) (o a : State) : Type 0 where
  pub agrees : AgreesBut (touching keys) o a
  pub named : NewAreNamed keys o a

-- the change concerns no machine but the touched ones; where all are touched, it makes no fact of a group or a source
-- that had none
abbrev pub Covers : Touched → State → State → Type 0
Covers Touched.All o a = IsWithin o a
Covers (Touched.Keys keys) o a = Concerns keys o a
