-- Keys that are named one by one, where they are few.
use Rattle.std.{specs.Prelude.{List, if◌then◌else◌, length, nat_lt}}
use Rattle.pim_types.{specs.declared.fact.Key.Key}
use Rattle.pim_state.{specs.declared.touched.Touched.Touched}

-- The given keys, or all where there are more than 256.
abbrev pub few_or_all : List Key → Touched
few_or_all keys = if nat_lt 256 (length keys) then Touched.All else Touched.Keys keys
