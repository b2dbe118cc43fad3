-- Rows that aren't looked at before a timestamp.
use Rattle.std.{specs.{List.AllByRecursion, Prelude.{ℕ, ◌≤◌}}}
use Rattle.pim_types.{specs.declared.fact.Key.Key}
use Rattle.pim_model.{specs.Tables.Table}
use Rattle.igmp_older.{specs.declared.mode.PresentRow.PresentRow}

abbrev pub AreQuiet : ℕ → Table PresentRow → Type 0
AreQuiet quiet rows = AllByRecursion (λ (e : Key × PresentRow). quiet ≤ (e.1).look) rows
