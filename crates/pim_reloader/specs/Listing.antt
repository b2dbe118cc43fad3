-- Which sources are listed where a configuration is replaced.
use Rattle.std.{specs.Prelude.{List, map, true, ℕ, ◌++◌, ◌||◌, ◌≡◌}}
use Rattle.pim_types.{specs.{declared.fact.Key.Key, Keys.{group_in, source_in, source_key}}}
use Rattle.pim_model.{specs.{State.State, Tables.has_row}}
use Rattle.law_events.{specs.Kept.is_listed}

-- the keys of all sources with a fact
abbrev pub sources_in : State → List Key
sources_in s = map (λ e. source_key 0 (group_in e.0) (source_in e.0)) s.sources

-- The sources that a router lists after a reload: those of before, the named ones, and those with a fact in one of the
-- states.
abbrev pub AreListed : List Key → State → State → List Key → List Key → Type 0
AreListed names o t before after = (g src : ℕ)
    → is_listed after g src ≡ is_listed (before ++ (names ++ sources_in o ++ sources_in t)) g src

-- All sources with a fact in one of the states are listed.
abbrev pub ListsFacts : State → State → List Key → Type 0
ListsFacts o t changed = (g src : ℕ)
    → (has_row o.sources (source_key 0 g src) || has_row t.sources (source_key 0 g src)) ≡ true
    → is_listed changed g src ≡ true
