-- Settings and rows for another number of interfaces.
use Rattle.std.{specs.Prelude.{ℕ, ◌-◌, ◌++◌, List, filter, length, max, nat_lt, replicate, take}}
use Rattle.pim_types.{specs.{Keys.iface_in, declared.fact.Key.Key}}
use Rattle.pim_model.{specs.Tables.Table}
use Rattle.igmp_older.{specs.{Presence.Present, declared.{mode.PresentRow.PresentRow, setting.OlderHosts.OlderHosts}}}

-- The settings of the first so many interfaces; one that is added is unset.
abbrev pub resized_list : {A : Type 0} → ℕ → A → List A → List A
resized_list count unset settings = take count settings ++ replicate (count - length settings) unset

-- The rows of the first so many interfaces.
abbrev pub rows_below : ℕ → Table PresentRow → Table PresentRow
rows_below count rows = filter (λ (e : Key × PresentRow). nat_lt (iface_in e.0) count) rows

-- The settings and the rows of the first so many interfaces, with another limit. An interface that is added hears
-- nobody. No row goes because the limit is below the number of rows: then the limit is that number.
unfoldable pub resized : ℕ → ℕ → Present → Present
resized limit count p = record {
  rows = rows_below count p.rows;
  limit = max limit (length (rows_below count p.rows));
  hosts = resized_list count OlderHosts.Nobody p.hosts;
}
