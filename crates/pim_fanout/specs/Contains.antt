-- What follows of a change concerns the touched keys alone.
use Rattle.std.{specs.Prelude.{◌≡◌, ◌⊎◌}}
use Rattle.pim_model.{specs.State.State}
use Rattle.law_events.{specs.{Moved.MovesAlone, Adjacent.AdjoinsAlone}}
use Rattle.pim_state.{specs.declared.touched.Touched.Touched}
use Rattle.pim_views.{specs.Covers.Covers}

-- New routes or RP ranges move what has facts under the touched keys, and nothing else.
abbrev pub Moves : Touched → State → State → Type 0
Moves Touched.All o a = ⊥
Moves (Touched.Keys keys) o a = MovesAlone keys o a × (o.interfaces ≡ a.interfaces)

-- An interface that goes up or down moves what has facts under the touched keys, and nothing else.
abbrev pub Switches : Touched → State → State → Type 0
Switches Touched.All o a = ⊥
Switches (Touched.Keys keys) o a = MovesAlone keys o a

-- A change of neighbours moves what has facts under the touched keys, and nothing else.
abbrev pub Adjoins : Touched → State → State → Type 0
Adjoins Touched.All o a = ⊥
Adjoins (Touched.Keys keys) o a = AdjoinsAlone keys o a

-- The change concerns no keys but the touched ones; or it is one of routes or RP ranges, which all macros read, and
-- moves no keys but the touched ones.
abbrev pub CoversOrMoves : Touched → State → State → Type 0
CoversOrMoves touched o a = Covers touched o a ⊎ Moves touched o a

-- The change concerns or moves no keys but the touched ones; or it is one of neighbours, or of an interface that goes up
-- or down, and moves no keys but the touched ones.
abbrev pub Contains : Touched → State → State → Type 0
Contains touched o a = CoversOrMoves touched o a ⊎ Adjoins touched o a ⊎ Switches touched o a
