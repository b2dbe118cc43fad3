-- Preferences of 31 bits, as an Assert has them.
use Rattle.std.{specs.Prelude.{IfSome, Option, ◌<◌, ◌^◌}}
use Rattle.pim_types.{specs.declared.path.Path.Path}

-- the preference of a path fits the 31 bits of an Assert's metric preference
abbrev pub IsShort : Option Path → Type 0
IsShort path = IfSome path (λ (p : Path). p.preference < 2 ^ 31)
