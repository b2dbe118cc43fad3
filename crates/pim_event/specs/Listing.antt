-- Which sources are listed as changed: those that an event names, in any order, and any number of times each.
use Rattle.std.{specs.Prelude.{List, [], ℕ, ◌++◌, ◌∷◌, ◌≡◌}}
use Rattle.pim_types.{specs.declared.{event.Event.Event, fact.Key.Key}}
use Rattle.pim_model.{specs.{State.State, Step.step}}
use Rattle.law_events.{specs.{Kept.is_listed, Named.event_named}}

-- Two lists have the same sources.
abbrev pub ListsSame : List Key → List Key → Type 0
ListsSame listed names = (g src : ℕ) → is_listed listed g src ≡ is_listed names g src

-- A list has the sources of an earlier one, and the named ones.
abbrev pub ListsMore : List Key → List Key → List Key → Type 0
ListsMore before names listed = ListsSame listed (before ++ names)

-- The list has the sources that the last of some events names.
abbrev pub IsLastListed : State → List Event → List Key → Type 0
IsLastListed s [] listed = Unit {0}
IsLastListed s (e ∷ []) listed = ListsSame listed (event_named s e)
IsLastListed s (e ∷ es) listed = IsLastListed (step s e).state es listed
