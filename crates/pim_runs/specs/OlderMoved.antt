-- What a front remembers of three interfaces goes with them: the first is left out, and the others change places.
use Rattle.std.{specs.Prelude.{List, None, Option, Some, [], ℕ, ◌≡◌, ◌∷◌}}
use Rattle.pim_types.{specs.Keys.star_key}
use Rattle.pim_model.{specs.Tables.{Table, keys_in, row_at}}
use Rattle.igmp_older.{specs.{Placed.{placed_list, placed_rows}, declared.{mode.PresentRow.PresentRow, setting.OlderHosts.OlderHosts}}}

-- until an end in ms a host of version 2 is there
abbrev two_until : ℕ → PresentRow
two_until end = record { one_end = 0; two_end = end; look = end }

abbrev pub remembered : Table PresentRow
remembered =
    (star_key 0 0xef010101, two_until 1000) ∷ (star_key 1 0xef010101, two_until 2000)
    ∷ (star_key 1 0xef010102, two_until 3000) ∷ (star_key 2 0xef010101, two_until 4000) ∷ []

abbrev pub to : List (Option ℕ)
to = None ∷ Some 1 ∷ Some 0 ∷ []

abbrev pub RememberedRowsMove : Type 0
RememberedRowsMove =
    (keys_in (placed_rows to remembered)
    ≡ star_key 0 0xef010101 ∷ star_key 1 0xef010101 ∷ star_key 1 0xef010102 ∷ [])
    × (row_at (placed_rows to remembered) (star_key 0 0xef010101) ≡ Some (two_until 4000))
    × (row_at (placed_rows to remembered) (star_key 1 0xef010101) ≡ Some (two_until 2000))
    × (row_at (placed_rows to remembered) (star_key 1 0xef010102) ≡ Some (two_until 3000))

-- one interface more, which hears nobody
abbrev pub SettingsMove : Type 0
SettingsMove =
    placed_list 3 to OlderHosts.Nobody (OlderHosts.Nobody ∷ OlderHosts.VersionTwo ∷ OlderHosts.All ∷ [])
    ≡ OlderHosts.All ∷ OlderHosts.VersionTwo ∷ OlderHosts.Nobody ∷ []
