-- Touched keys in the order of their groups.
use Rattle.std.{specs.{List.Sorted.IsNonDecreasingBy, Prelude.◌≡◌}}
use Rattle.pim_types.{specs.Keys.group_in}
use Rattle.pim_model.{specs.State.State}
use Rattle.pim_state.{specs.declared.touched.Touched.Touched}
use Rattle.pim_views.{specs.Openings.opening_of}
use Rattle.pim_fanout.{specs.Before.opened_sources}

-- the keys are in the order of their groups
abbrev pub IsGrouped : Touched → Type 0
IsGrouped Touched.All = Unit {0}
IsGrouped (Touched.Keys keys) = IsNonDecreasingBy group_in keys

-- the same groups and sources are touched
pub record TouchAlike (a b : Touched) : Type 0 where
  pub opening : (s : State) → opening_of s a ≡ opening_of s b
  pub sources : (s : State) → opened_sources s a ≡ opened_sources s b
