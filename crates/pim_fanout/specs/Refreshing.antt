-- The forwarding cache with the number of evaluated rows, the sources whose rows have changed and the touched keys, and
-- what it is to evaluate named rows again.
use Rattle.std.{specs.{List.sum_by, Prelude.{List, [], if◌then◌else◌, ℕ, ◌++◌, ◌∷◌, ◌≡◌}}}
use Rattle.pim_trie.{specs.Meter.raised}
use Rattle.pim_types.{specs.declared.fact.Key.Key}
use Rattle.pim_model.{specs.{State.State, Tables.{Table, has_row}}}
use Rattle.pim_state.{specs.declared.touched.Touched.Touched}
use Rattle.pim_macros.{specs.declared.rows.SourceAnswers.SourceAnswers}
use Rattle.law_events.{specs.Kept.{Cache, refreshed}}
use Rattle.pim_mfc.{specs.{Kept.Kept, Laws.ShowsRows}}

-- The forwarding cache as its users see it: its rows, how many were evaluated, which sources changed, and what changes
-- touched.
pub record CacheValue : Type 0 where
  pub mfc : Kept
  pub evaluated : ℕ
  pub changed : List Key
  pub disturbed : Touched

-- A forwarding cache without rows.
abbrev pub nothing_cached : CacheValue
nothing_cached = record { mfc = record { rows = []; changes = 0 }; evaluated = 0; changed = []; disturbed = Touched.Keys [] }

-- The cache with both counts 0 and both lists empty.
abbrev pub uncounted : CacheValue → CacheValue
uncounted c = record { mfc = record c.mfc { changes = 0 }; evaluated = 0; changed = []; disturbed = Touched.Keys [] }

-- The puts, the removals and the evaluated rows, added up.
unfoldable pub touches : CacheValue → ℕ
touches c = raised (c.mfc).changes c.evaluated

-- Nothing was touched, no source is listed as changed, and none as disturbed.
abbrev pub IsUncounted : CacheValue → Type 0
IsUncounted c = (touches c ≡ 0) × (c.changed ≡ []) × (c.disturbed ≡ Touched.Keys [])

-- What one named source costs: a row is evaluated and put if the source has a fact, else it is taken out.
abbrev pub touches_of : State → Key → ℕ
touches_of s k = if has_row s.sources k then 2 else 1

-- How many rows are touched where the rows of some sources are evaluated again.
abbrev pub touches_in : State → List Key → ℕ
touches_in s names = sum_by (touches_of s) names

-- Whatever the old rows show, the new ones show the named sources as the state has them, and all other sources as
-- before.
abbrev pub Refreshes : List Key → State → Table SourceAnswers → Table SourceAnswers → Type 0
Refreshes names s old new = (c : Cache) → ShowsRows old c → ShowsRows new (refreshed names s c)

-- The rows of one named source are evaluated again.
abbrev pub RefreshesOne : Key → State → Table SourceAnswers → Table SourceAnswers → Type 0
RefreshesOne k s old new = (names : List Key) (c : Cache) → ShowsRows old (refreshed names s c)
    → ShowsRows new (refreshed (names ++ k ∷ []) s c)
