-- Settings and rows where the interfaces have other places.
use Rattle.std.{specs.{List.position, Prelude.{Bool, List, None, Option, Some, [], false, length, map, max, option_and_then, slice_get, ℕ, ◌==◌, ◌∷◌}}}
use Rattle.pim_types.{specs.{Keys.iface_in, declared.fact.Key.Key}}
use Rattle.pim_model.{specs.Tables.{Table, below, put}}
use Rattle.igmp_older.{specs.{Presence.Present, declared.{mode.PresentRow.PresentRow, setting.OlderHosts.OlderHosts}}}

-- Of each old interface, by its number, the new one that has its link, or none.
abbrev pub NewPlaces : Type 0
NewPlaces = List (Option ℕ)

-- an old interface goes to this number
abbrev pub goes_to : ℕ → Option ℕ → Bool
goes_to i None = false
goes_to i (Some j) = j == i

-- the first old interface that goes to a number
unfoldable pub old_place : NewPlaces → ℕ → Option ℕ
old_place places i = position (goes_to i) places

-- the number to which an old interface goes
unfoldable pub new_place : NewPlaces → ℕ → Option ℕ
new_place places i = option_and_then (λ p. p) (slice_get places i)

-- a setting, or the one of an interface that is unset
abbrev pub setting_or : {A : Type 0} → A → Option A → A
setting_or unset None = unset
setting_or unset (Some setting) = setting

-- the setting of a number is that of the old interface that goes there
unfoldable pub setting_placed : {A : Type 0} → NewPlaces → A → List A → ℕ → A
setting_placed places unset settings i = setting_or unset (option_and_then (slice_get settings) (old_place places i))

-- the settings of so many interfaces; one to which no old one goes is unset
abbrev pub placed_list : {A : Type 0} → ℕ → NewPlaces → A → List A → List A
placed_list count places unset settings = map (setting_placed places unset settings) (below count)

-- a key on another interface
abbrev pub on_place : Key → ℕ → Key
on_place k i = record k { iface = record { number = i } }

-- a table with a row where its interface goes; without it where this goes nowhere
abbrev pub put_at : Table PresentRow → Key × PresentRow → Option ℕ → Table PresentRow
put_at t e None = t
put_at t e (Some i) = put t (on_place e.0 i) e.1

-- a table with these rows put into it, each where its interface goes
abbrev pub put_placed : NewPlaces → Table PresentRow → Table PresentRow → Table PresentRow
put_placed places t [] = t
put_placed places t (e ∷ rows) = put_placed places (put_at t e (new_place places (iface_in e.0))) rows

-- the rows, each where its interface goes
unfoldable pub placed_rows : NewPlaces → Table PresentRow → Table PresentRow
placed_rows places rows = put_placed places [] rows

-- The settings and the rows of the old interfaces where these go, of so many, with another limit. An interface to which
-- none goes hears nobody. No row goes because the limit is below the number of rows: then the limit is that number.
unfoldable pub placed : ℕ → ℕ → NewPlaces → Present → Present
placed limit count places p = record {
  rows = placed_rows places p.rows;
  limit = max limit (length (placed_rows places p.rows));
  hosts = placed_list count places OlderHosts.Nobody p.hosts;
}
