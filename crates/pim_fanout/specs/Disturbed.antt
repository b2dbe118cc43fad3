-- The keys whose machines some changes touched, and which sources they disturb: those that they name, and each source
-- of a group that they name whole.
use Rattle.std.{specs.Prelude.{Bool, true, ℕ, ◌++◌}}
use Rattle.pim_types.{specs.Keys.source_key}
use Rattle.law_events.{specs.Locality.touching}
use Rattle.pim_state.{specs.declared.touched.Touched.Touched}

-- What two changes touch together.
unfoldable pub joined : Touched → Touched → Touched
joined Touched.All t = Touched.All
joined (Touched.Keys before) Touched.All = Touched.All
joined (Touched.Keys before) (Touched.Keys keys) = Touched.Keys (before ++ keys)

-- a source is touched by what an event's changes touched
unfoldable pub is_disturbed : Touched → ℕ → ℕ → Bool
is_disturbed Touched.All g src = true
is_disturbed (Touched.Keys keys) g src = touching keys (source_key 0 g src)
