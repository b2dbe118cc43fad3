-- While a plane reports its notes the router sends nothing.
use Rattle.std.{specs.{List.AllByRecursion, Prelude.{List, Ok, [], if◌then◌else◌, ℕ, ◌++◌, ◌∷◌, ◌≡◌}}}
use Rattle.pim_types.{specs.declared.{config.Config.Config, event.Event.Event, outcome.Outcome.Outcome}}
use Rattle.pim_model.{specs.{Limits.config_test, State.{State, opening}, Step.run}}
use Rattle.law_plane.{specs.{Split.{Notice, Split, advance_to, nothing_sent, split_ran, whole}, ToldLaws.no_plane_rows}}
use Rattle.law_states.{specs.Kept.{Way, is_kept, seen_note, told_note}}

-- The outcomes of the events by which notes are reported, and of the Advance to the present time.
unfoldable pub told_outcomes : Way → ℕ → State → List Notice → List Outcome
told_outcomes w now s [] = run s (advance_to now ∷ [])
told_outcomes w now s (n ∷ ns) =
    (if is_kept w s n then [] else run s (advance_to n.moment ∷ seen_note w n ∷ []))
    ++ told_outcomes w now (told_note w s n) ns

abbrev pub IsSilent : Outcome → Type 0
IsSilent o = o ≡ nothing_sent

abbrev pub CatchesUpSilently : Type 0
CatchesUpSilently = (c : Config) (events : List Event) (w : Way) → config_test c ≡ Ok tt
    → (let x : Split = (split_ran (whole (opening c) no_plane_rows) events).1 in
    AllByRecursion IsSilent (told_outcomes w x.now x.core x.owed))
